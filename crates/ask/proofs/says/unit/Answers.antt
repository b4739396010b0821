-- Of a file that the check accepts a number below its count is a unit of it, and any other number is outside; any other file is refused as the check
-- refuses it.
use native.Mathlib.Omega.{arith}
use Rattle.std.proofs.lemmas.Result.{err_from_is_err_and}
use Rattle.ask.proofs.SaysLaws.{accepts, no_unit_lem, unit_said_lem, unit_outside}
use Rattle.ask.proofs.says.unit.Goals as goal

pub returns-in_err-check : goal.returns-in_err-check
returns-in_err-check c =
    let p = err_from_is_err_and c.from_residual.result c.from_residual.ensures.1 in rw (p.1, p.2) (no_unit_lem c.args.file.now c.in_err-check.field-0.0 c.in_err-check.ensures c.args.i)

pub returns-then-place-units : goal.returns-then-place-units
returns-then-place-units c =
    unit_said_lem c.args.file.now (accepts c.args.file.now c.in_ok-check.field-0 c.in_ok-check.ensures) c.args.i (omega (arith, c.units.ensures, c.if-place-units.true)) c.unit.result c.unit.ensures

pub returns : goal.returns
returns c =
    unit_outside c.args.file.now (accepts c.args.file.now c.in_ok-check.field-0 c.in_ok-check.ensures) c.args.i (omega (arith, c.units.ensures, c.if-place-units.false)) c.refused.result c.refused.ensures
