-- The limits of the unit that the file says are stored, or the number of the refusal returned and nothing stored.
use mathlib.Core.Path.{sym, ap, ◌∙◌}
use Rattle.unit.specs.declared.Unit.{Unit}
use Rattle.yesbrulka.specs.Calls.{unit_said}
use Rattle.yesbrulka.proofs.CallLaws.{call_zero, call_given, call_number, call_kept}
use Rattle.yesbrulka.proofs.says.yb_var_limits.Goals as goal
use Rattle.yesbrulka.proofs.says.yb_var_limits.Goals.{After-unit, In-Err}

pub returns-in-Ok : goal.returns-in-Ok
returns-in-Ok c =
    let a = c.args in
    let u = c.in-Ok.u in
    let is = (sym c.in-Ok.is ∙ c.unit.ensures) in record { value = call_zero (unit_said a.file.now a.unit) u is; provide_after = call_given (unit_said a.file.now a.unit) u is (λ (x : Unit). x.provide) a.provide.now; absorb_after = call_given (unit_said a.file.now a.unit) u is (λ (x : Unit). x.absorb) a.absorb.now }

pub returns-in-Err : goal.returns-in-Err
returns-in-Err c =
    let a = c.args in
    let r = c.in-Err.r in
    let is = (sym c.in-Err.is ∙ c.unit.ensures) in record { value = call_number (unit_said a.file.now a.unit) r is; provide_after = call_kept (unit_said a.file.now a.unit) r is (λ (x : Unit). x.provide) a.provide.now; absorb_after = call_kept (unit_said a.file.now a.unit) r is (λ (x : Unit). x.absorb) a.absorb.now }
