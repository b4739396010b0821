-- What a study without a file answers, for any numbers: what it reports (rule S6), or the refusal, with place and steps 0 (rule N16); and what the lent requests hold afterwards,
-- on a refusal what they held.
use Rattle.std.specs.Prelude.{ℕ, cond, List, eqb, ℤ, length, Err, Ok, Result}
use Rattle.whole.specs.Call.{Call, refusal}
use Rattle.members.specs.Ranges.{Fleet}
use Rattle.settling.specs.declared.Trial.{Trial}
use Rattle.settling.specs.declared.Studied.{Studied}
use Rattle.settling.specs.Study.{Study, shaving, study_of, study_refusal}
use Rattle.whole.specs.declared.Refusal.{Refusal}

-- the study of a fleet of n units
abbrev pub study_by : Trial → Fleet → ℕ → Study
study_by q f n = study_of (shaving q.settings) q.load f q.budget n

-- what it reports
unfoldable pub found_by : Trial → Fleet → ℕ → Studied
unfolding study_of
found_by q f n = let r = study_by q f n in record { settled = r.settled; passes = r.changing }

-- of as many units as requests are lent
unfoldable pub study_answer : Trial → Fleet → List ℤ → Result Studied Refusal
unfolding study_refusal found_by
study_answer q f rs =
    let n = study_refusal q f (length rs) in
    let found = found_by q f (length rs) in
    cond (eqb n 0) (Ok found) (Err (refusal n))

unfoldable pub study_leaves : Trial → Fleet → List ℤ → List ℤ
unfolding study_refusal study_of
study_leaves q f rs =
    let after = (study_by q f (length rs)).requests in
    cond (eqb (study_refusal q f (length rs)) 0) after rs
