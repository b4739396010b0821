-- The four tests are the definition's.
use Rattle.kept.proofs.FitLaws.{stopped_is}
use Rattle.kept.proofs.tests.stopped_there.Goals as goal
use Rattle.kept.proofs.tests.stopped_there.Goals.{After-u32_at-steps, After-u64_at, After-u8_at-n}

pub returns : goal.returns
returns c =
    stopped_is
    c.args.s.now
    c.u8_at-n.result
    c.u64_at.result
    c.u32_at-steps.result
    c.is_clear.result
    c.u8_at-n.ensures
    c.u64_at.ensures
    c.u32_at-steps.ensures
    c.is_clear.ensures
