-- Of a file that the check accepts and that has connections a number below its count has one, read where they stand; any other number is outside, and a
-- file without connections says none. Any other file is refused as the check refuses it.
use mathlib.Core.Path.{sym, ◌∙◌, ap}
use mathlib.Core.Bool.{not}
use native.Mathlib.Omega.{arith}
use borrow.Author.Tests.{not-true, not-false}
use Rattle.std.proofs.lemmas.Result.{err_from_is_err_and}
use Rattle.ask.proofs.SaysLaws.{accepts, no_connection, connection_said, connection_outside, none_connected}
use Rattle.ask.proofs.says.connection_of.Goals as goal

pub returns-in_err-check : goal.returns-in_err-check
returns-in_err-check c =
    let p = err_from_is_err_and c.from_residual.result c.from_residual.ensures.1 in rw (p.1, p.2) (no_connection c.args.file.now c.in_err-check.field-0.0 c.in_err-check.ensures c.args.i)

pub returns-then-units-place : goal.returns-then-units-place
returns-then-units-place c =
    connection_outside c.args.file.now (accepts c.args.file.now c.in_ok-check.field-0 c.in_ok-check.ensures) c.args.i (omega (arith, c.units.ensures, c.if-units-place.true)) c.refused.result c.refused.ensures

pub returns-then-not-is_connected : goal.returns-then-not-is_connected
returns-then-not-is_connected c =
    none_connected c.args.file.now (accepts c.args.file.now c.in_ok-check.field-0 c.in_ok-check.ensures) c.args.i (omega (arith, c.units.ensures, c.if-units-place.false))
    (sym c.is_connected.ensures ∙ not-true c.is_connected.result (ap not c.if-not-is_connected.true))
    c.refused-then-not-is_connected.result c.refused-then-not-is_connected.ensures

pub returns : goal.returns
returns c =
    connection_said c.args.file.now (accepts c.args.file.now c.in_ok-check.field-0 c.in_ok-check.ensures) c.args.i (omega (arith, c.units.ensures, c.if-units-place.false))
    (let k = c.is_connected in sym k.ensures ∙ not-false k.result (ap not c.if-not-is_connected.false))
    c.phases.result c.volts.result c.phases.ensures c.volts.ensures
