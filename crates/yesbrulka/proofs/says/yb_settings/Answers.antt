-- What the file says is stored, or the number of its refusal returned and nothing stored.
use mathlib.Core.Path.{sym, ap, ◌∙◌}
use mir.Syntax.{w32}
use Rattle.whole.proofs.SignLaws.{read}
use Rattle.site.specs.declared.Head.{Head}
use Rattle.yesbrulka.specs.Calls.{head_said}
use Rattle.yesbrulka.proofs.CallLaws.{call_zero, call_given, call_number, call_kept}
use Rattle.yesbrulka.proofs.says.yb_settings.Goals as goal
use Rattle.yesbrulka.proofs.says.yb_settings.Goals.{After-head, In-Err, In-Ok}

pub enum_known-h : goal.enum_known-h
enum_known-h c = c.in-Ok.in-Ok-own.keys1

pub enum_known-r : goal.enum_known-r
enum_known-r c = c.in-Err.in-Err-own.keys2

pub returns-in-Ok : goal.returns-in-Ok
returns-in-Ok c =
    let a = c.args in
    let h = c.in-Ok.h in
    let is = (sym c.in-Ok.is ∙ c.head.ensures) in record { value = call_zero (head_said a.file.now) h is; mode_after = call_given (head_said a.file.now) h is (λ (x : Head). x.settings.mode) a.mode.now; target_after = read w32 h.settings.target c.struct_told-1.given.1.0.1 ∙ call_given (head_said a.file.now) h is (λ (x : Head). x.settings.target) a.target.now; band_after = call_given (head_said a.file.now) h is (λ (x : Head). x.settings.band) a.band.now; factor_after = call_given (head_said a.file.now) h is (λ (x : Head). x.settings.factor) a.factor.now; phase_after = call_given (head_said a.file.now) h is (λ (x : Head). x.phase) a.phase.now }

pub returns-in-Err : goal.returns-in-Err
returns-in-Err c =
    let a = c.args in
    let r = c.in-Err.r in
    let is = (sym c.in-Err.is ∙ c.head.ensures) in record { value = call_number (head_said a.file.now) r is; mode_after = call_kept (head_said a.file.now) r is (λ (x : Head). x.settings.mode) a.mode.now; target_after = call_kept (head_said a.file.now) r is (λ (x : Head). x.settings.target) a.target.now; band_after = call_kept (head_said a.file.now) r is (λ (x : Head). x.settings.band) a.band.now; factor_after = call_kept (head_said a.file.now) r is (λ (x : Head). x.settings.factor) a.factor.now; phase_after = call_kept (head_said a.file.now) r is (λ (x : Head). x.phase) a.phase.now }
