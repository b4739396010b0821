-- What a pass without a file answers, for any numbers: what it reports (rule P7), or the refusal, with place and steps 0 (rule N16); and what the lent requests hold afterwards,
-- on a refusal what they held. The refusal's number is 0 for none.
use Rattle.std.specs.Prelude.{ℕ, cond, List, eqb, ℤ, Err, Ok, Result}
use Rattle.whole.specs.Call.{Call, refusal}
use Rattle.rules.specs.declared.Settings.{Settings}
use Rattle.controller.specs.declared.Passed.{Passed}
use Rattle.members.specs.Ranges.{Fleet}
use Rattle.controller.specs.Ranges.{pass_refusal, current_refusal}
use Rattle.members.specs.Sums.{changed_of}
use Rattle.controller.specs.Pass.{need_of, pass_of}
use Rattle.whole.specs.declared.Refusal.{Refusal}

-- what it reports
unfoldable pub report_of : Settings → ℤ → Fleet → List ℤ → Passed
unfolding need_of pass_of changed_of
report_of s m f rs = record { need = need_of s m rs; changed = changed_of rs (pass_of s m f rs) }

unfoldable pub answer_by : ℕ → Settings → ℤ → Fleet → List ℤ → Result Passed Refusal
unfolding report_of
answer_by n s m f rs = let report = report_of s m f rs in cond (eqb n 0) (Ok report) (Err (refusal n))

unfoldable pub leaves_by : ℕ → Settings → ℤ → Fleet → List ℤ → List ℤ
unfolding pass_of
leaves_by n s m f rs = let after = pass_of s m f rs in cond (eqb n 0) after rs

-- by watts, and by current
unfoldable pub pass_answer : Settings → ℤ → Fleet → List ℤ → Result Passed Refusal
unfolding pass_refusal answer_by
pass_answer s m f rs = answer_by (pass_refusal s m f rs) s m f rs

unfoldable pub pass_leaves : Settings → ℤ → Fleet → List ℤ → List ℤ
unfolding pass_refusal leaves_by
pass_leaves s m f rs = leaves_by (pass_refusal s m f rs) s m f rs

unfoldable pub current_answer : Settings → ℤ → Fleet → List ℕ → List ℕ → List ℤ → Result Passed Refusal
unfolding current_refusal answer_by
current_answer s m f phases volts rs = answer_by (current_refusal s m f phases volts rs) s m f rs

unfoldable pub current_leaves : Settings → ℤ → Fleet → List ℕ → List ℕ → List ℤ → List ℤ
unfolding current_refusal leaves_by
current_leaves s m f phases volts rs = leaves_by (current_refusal s m f phases volts rs) s m f rs
