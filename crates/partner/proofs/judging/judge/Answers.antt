-- The check's refusal comes first; where there is none, the run file is accepted, and the verdict is the one on it.
use Rattle.std.proofs.lemmas.Result.{err_from_is_err_and}
use Rattle.partner.proofs.AnswerLaws.{unjudged, taken, judged}
use Rattle.partner.proofs.judging.judge.Goals as goal

pub returns-in_err-check : goal.returns-in_err-check
returns-in_err-check c =
    let p = err_from_is_err_and c.from_residual.result c.from_residual.ensures.1 in
    rw (p.1, p.2) (unjudged c.args.run.now c.in_err-check.field-0.0 c.in_err-check.ensures c.args.res.now)

pub judged-requires : goal.judged-requires
judged-requires c = taken c.args.run.now c.in_ok-check.field-0 c.in_ok-check.ensures

pub returns : goal.returns
returns c = judged c.args.run.now c.in_ok-check.field-0 c.in_ok-check.ensures c.args.res.now c.judged.ensures
