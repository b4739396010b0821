-- The unit that the file says is stored, or the number of the refusal returned and nothing stored.
use mathlib.Core.Path.{sym, ap, ◌∙◌}
use mir.Syntax.{w32}
use Rattle.whole.proofs.SignLaws.{read}
use Rattle.unit.specs.declared.Unit.{Unit}
use Rattle.unit.specs.Ranges.{idle_loss_of}
use Rattle.yesbrulka.specs.Calls.{unit_said}
use Rattle.yesbrulka.proofs.CallLaws.{call_zero, call_given, call_number, call_kept}
use Rattle.yesbrulka.proofs.says.yb_unit.Goals as goal
use Rattle.yesbrulka.proofs.says.yb_unit.Goals.{After-struct_told-1, After-unit, In-Err, In-Ok}

pub enum_known-u : goal.enum_known-u
enum_known-u c = c.in-Ok.in-Ok-own.keys1

pub enum_known-r : goal.enum_known-r
enum_known-r c = c.in-Err.in-Err-own.keys2

pub returns-in-Ok : goal.returns-in-Ok
returns-in-Ok c =
    let a = c.args in
    let u = c.in-Ok.u in
    let is = (sym c.in-Ok.is ∙ c.unit.ensures) in record { value = call_zero (unit_said a.file.now a.unit) u is; rated_after = call_given (unit_said a.file.now a.unit) u is (λ (x : Unit). x.rated) a.rated.now; reserve_after = call_given (unit_said a.file.now a.unit) u is (λ (x : Unit). x.reserve) a.reserve.now; stored_after = call_given (unit_said a.file.now a.unit) u is (λ (x : Unit). x.stored) a.stored.now; rating_after = call_given (unit_said a.file.now a.unit) u is (λ (x : Unit). x.rating) a.rating.now; kva_after = call_given (unit_said a.file.now a.unit) u is (λ (x : Unit). x.kva) a.kva.now; idle_loss_after = c.idle_loss-lost.ensures ∙ call_given (unit_said a.file.now a.unit) u is (λ (x : Unit). idle_loss_of x) a.idle_loss.now; var_request_after = read w32 u.var_request c.struct_told-1.given.1.1.1.1.1.1.0.1 ∙ call_given (unit_said a.file.now a.unit) u is (λ (x : Unit). x.var_request) a.var_request.now; weight_after = call_given (unit_said a.file.now a.unit) u is (λ (x : Unit). x.weight) a.weight.now; inverter_after = call_given (unit_said a.file.now a.unit) u is (λ (x : Unit). x.inverter) a.inverter.now; charge_after = call_given (unit_said a.file.now a.unit) u is (λ (x : Unit). x.charge) a.charge.now; discharge_after = call_given (unit_said a.file.now a.unit) u is (λ (x : Unit). x.discharge) a.discharge.now; priority_after = call_given (unit_said a.file.now a.unit) u is (λ (x : Unit). x.priority) a.priority.now }

pub returns-in-Err : goal.returns-in-Err
returns-in-Err c =
    let a = c.args in
    let r = c.in-Err.r in
    let is = (sym c.in-Err.is ∙ c.unit.ensures) in record { value = call_number (unit_said a.file.now a.unit) r is; rated_after = call_kept (unit_said a.file.now a.unit) r is (λ (x : Unit). x.rated) a.rated.now; reserve_after = call_kept (unit_said a.file.now a.unit) r is (λ (x : Unit). x.reserve) a.reserve.now; stored_after = call_kept (unit_said a.file.now a.unit) r is (λ (x : Unit). x.stored) a.stored.now; rating_after = call_kept (unit_said a.file.now a.unit) r is (λ (x : Unit). x.rating) a.rating.now; kva_after = call_kept (unit_said a.file.now a.unit) r is (λ (x : Unit). x.kva) a.kva.now; idle_loss_after = call_kept (unit_said a.file.now a.unit) r is (λ (x : Unit). idle_loss_of x) a.idle_loss.now; var_request_after = call_kept (unit_said a.file.now a.unit) r is (λ (x : Unit). x.var_request) a.var_request.now; weight_after = call_kept (unit_said a.file.now a.unit) r is (λ (x : Unit). x.weight) a.weight.now; inverter_after = call_kept (unit_said a.file.now a.unit) r is (λ (x : Unit). x.inverter) a.inverter.now; charge_after = call_kept (unit_said a.file.now a.unit) r is (λ (x : Unit). x.charge) a.charge.now; discharge_after = call_kept (unit_said a.file.now a.unit) r is (λ (x : Unit). x.discharge) a.discharge.now; priority_after = call_kept (unit_said a.file.now a.unit) r is (λ (x : Unit). x.priority) a.priority.now }
