-- The call in edition 1, with S for both limits; the signed numbers are read back as they were.
use lib.IntN.{ℤ}
use Rattle.yesbrulka.specs.Calls.{unit_of}
use Rattle.yesbrulka.proofs.CallLaws.{step_alike, step_read}
use Rattle.yesbrulka.proofs.steps.yb_step.Goals as goal
use Rattle.yesbrulka.proofs.steps.yb_step.Goals.{Start}

pub returns : goal.returns
returns c =
    let a = c.args in
    step_alike
    (step_read 1 a.seconds (λ (v : ℤ). unit_of a.rated a.reserve a.stored a.rating a.kva a.idle_loss v a.weight a.inverter a.charge a.discharge a.priority a.kva a.kva) a.var_request a.request c.ranges.var_request.sfits c.ranges.request.sfits)
    c.yb_step_as.ensures
