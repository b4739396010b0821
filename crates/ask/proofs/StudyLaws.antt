-- A study of an accepted file: its fleet is in the ranges, so that only the number of requests and the trial can be refused. Assumes nothing.
use mathlib.Core.Path.{◌≡◌, refl, sym, ap, ◌∙◌, subst}
use mathlib.Core.Bool.{Bool, true, false, not, ◌&&◌}
use mathlib.Core.List.{List}
use Prim.Native.Nat.{ℕ}
use lib.IntN.{ℤ}
use lib.ListN.{length}
use Rattle.whole.specs.declared.Refusal.{Refusal}
use Rattle.whole.specs.Call.{refusal}
use Rattle.whole.specs.Over.{all_of}
use Rattle.rules.specs.declared.Settings.{Settings}
use Rattle.members.specs.Ranges.{member_at, lengths_in}
use Rattle.settling.specs.declared.Trial.{Trial}
use Rattle.settling.specs.declared.Studied.{Studied}
use Rattle.settling.specs.Study.{trial_in}
use Rattle.settling.specs.Posts.{Trying}
use Rattle.settling.proofs.TrialLaws.{trying}
use Rattle.settling.proofs.AnswerLaws.{study_values, wrong_lengths, wrong_values, all_fine}
use Rattle.site.specs.Site.{count}
use Rattle.stick.specs.Site.{site_of}
use Rattle.stick.specs.Check.{Accepted}
use Rattle.ask.specs.Says.{fleet_said, trial_said, file_study, file_study_leaves}
use Rattle.ask.specs.Posts.{Studying, Surveyed}
use Rattle.ask.proofs.SaysLaws.{study_said}
use Rattle.ask.proofs.FleetLaws.{links_long, other_length, own_length, members_in, links_small}
use Rattle.std.proofs.Common.{Err, Ok}

and_true : (a b : Bool) → b ≡ true → a ≡ (a && b)
and_true true b e = sym e
and_true false b e = refl

-- what a study over the file's fleet counts on
pub file_trying : (file : List ℕ) (q : Trial) (rs : List ℤ) → Studying file q rs → Trying q (fleet_said file) (length rs)
file_trying file q rs p =
    let ok = members_in file p.accepted (length rs) p.requests_there in
    trying q (fleet_said file) (links_long file) (links_small file p.accepted) (length rs) (own_length file p.accepted (length rs) p.requests_there) (trial_in q) (and_true (trial_in q) (all_of (length rs) (member_at (fleet_said file))) ok)
    (ap not p.trial)

-- the trial that the code makes of the head's settings and of the call's numbers
pub trial_made : (file : List ℕ) (s : Settings) (load z : ℤ) (budget : ℕ) → s ≡ (site_of file).head.settings → z ≡ load
    → record { settings = s; load = z; budget = budget } ≡ trial_said file load budget
trial_made file s load z budget es ez = λ k. record { settings = es k; load = ez k; budget = budget }

module _ (file : List ℕ) (z : Accepted file) (load : ℤ) (budget : ℕ) (rs : List ℤ) where
  abbrev trial : Trial
  trial = trial_said file load budget

  abbrev values : Bool
  values = study_values trial (fleet_said file) rs

  pub other_count : (length rs ≡ count (site_of file) → ⊥) → (r : Refusal) → r ≡ refusal 10
      → (Err r ≡ file_study file load budget rs) × (rs ≡ file_study_leaves file load budget rs)
  other_count other r er =
      study_said file z load budget rs rs (Err r)
      (wrong_lengths trial (fleet_said file) rs (lengths_in (fleet_said file) (length rs)) values refl refl (ap not (other_length file (length rs) other)) r er)

  module _ (e : length rs ≡ count (site_of file)) where
    lengths_fine : not (lengths_in (fleet_said file) (length rs)) ≡ false
    lengths_fine = ap not (own_length file z (length rs) e)

    -- with the lengths and the units in order, the values are the trial's
    values_are : (q : Trial) (fine : Bool) → fine ≡ trial_in q → q ≡ trial → fine ≡ values
    values_are q fine ef eq = ef ∙ ap trial_in eq ∙ and_true (trial_in trial) (all_of (length rs) (member_at (fleet_said file))) (members_in file z (length rs) e)

    pub other_trial : (q : Trial) (fine : Bool) → fine ≡ trial_in q → q ≡ trial → not fine ≡ true → (r : Refusal) → r ≡ refusal 5
        → (Err r ≡ file_study file load budget rs) × (rs ≡ file_study_leaves file load budget rs)
    other_trial q fine ef eq t r er =
        study_said file z load budget rs rs (Err r)
        (wrong_values trial (fleet_said file) rs (lengths_in (fleet_said file) (length rs)) fine refl (values_are q fine ef eq) lengths_fine t r er)

    pub study_made : (q : Trial) (fine : Bool) → fine ≡ trial_in q → q ≡ trial → not fine ≡ false → (after : List ℤ) (r : Studied) → Surveyed file q rs after r
        → (Ok r ≡ file_study file load budget rs) × (after ≡ file_study_leaves file load budget rs)
    study_made q fine ef eq t after r d =
        study_said file z load budget rs after (Ok r)
        (all_fine trial (fleet_said file) rs (lengths_in (fleet_said file) (length rs)) fine refl (values_are q fine ef eq) lengths_fine t after r
        (subst (λ (x : Trial). Surveyed file x rs after r) eq d))
