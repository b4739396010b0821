-- The connection that the file says is stored, or the number of the refusal returned and nothing stored.
use mathlib.Core.Path.{sym, ap, ◌∙◌}
use Rattle.ask.specs.declared.Connection.{Connection}
use Rattle.yesbrulka.specs.Calls.{connection_told}
use Rattle.yesbrulka.proofs.CallLaws.{call_zero, call_given, call_number, call_kept}
use Rattle.yesbrulka.proofs.says.yb_connection.Goals as goal
use Rattle.yesbrulka.proofs.says.yb_connection.Goals.{After-connection_of, In-Err}

pub returns-in-Ok : goal.returns-in-Ok
returns-in-Ok c =
    let a = c.args in
    let found = c.in-Ok.c in
    let is = (sym c.in-Ok.is ∙ c.connection_of.ensures) in record { value = call_zero (connection_told a.file.now a.unit) found is; phases_after = call_given (connection_told a.file.now a.unit) found is (λ (x : Connection). x.phases) a.phases.now; volts_after = call_given (connection_told a.file.now a.unit) found is (λ (x : Connection). x.volts) a.volts.now }

pub returns-in-Err : goal.returns-in-Err
returns-in-Err c =
    let a = c.args in
    let r = c.in-Err.r in
    let is = (sym c.in-Err.is ∙ c.connection_of.ensures) in record { value = call_number (connection_told a.file.now a.unit) r is; phases_after = call_kept (connection_told a.file.now a.unit) r is (λ (x : Connection). x.phases) a.phases.now; volts_after = call_kept (connection_told a.file.now a.unit) r is (λ (x : Connection). x.volts) a.volts.now }
