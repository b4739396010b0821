-- What a study of any numbers answers, by the first test that fails. Assumes nothing.
use mathlib.Core.Path.{◌≡◌, refl, sym, ap, ◌∙◌}
use mathlib.Core.Bool.{Bool, true, false, not, cond, ◌&&◌}
use mathlib.Core.List.{List}
use Prim.Native.Nat.{ℕ, suc}
use lib.Dec.{eqb, eqb-suc-zero}
use lib.IntN.{ℤ}
use lib.ListN.{length}
use Rattle.whole.specs.declared.Refusal.{Refusal}
use Rattle.whole.specs.Call.{refusal}
use Rattle.whole.specs.Over.{all_of}
use Rattle.members.specs.Ranges.{Fleet, member_at, lengths_in}
use Rattle.controller.proofs.AnswerLaws.{first_fails, second_fails, none_fails}
use Rattle.settling.specs.declared.Trial.{Trial}
use Rattle.settling.specs.declared.Studied.{Studied}
use Rattle.settling.specs.Study.{shaving, trial_in, study_refusal}
use Rattle.settling.specs.Posts.{DoneStudy}
use Rattle.settling.specs.Answers.{study_by, found_by, study_answer, study_leaves}
use Rattle.std.proofs.Common.{Err, Ok}

module _ (q : Trial) (f : Fleet) (rs : List ℤ) where
  -- refused: the whole refusal, and the requests as they were
  refused : (k : ℕ) → study_refusal q f (length rs) ≡ suc k → (r : Refusal) → r ≡ refusal (suc k) → (Err r ≡ study_answer q f rs) × (rs ≡ study_leaves q f rs)
  unfolding study_answer study_leaves
  refused k e r er =
      let no : eqb (study_refusal q f (length rs)) 0 ≡ false = ap (λ (n : ℕ). eqb n 0) e ∙ eqb-suc-zero k in (
        ap Err er
            ∙ sym (ap (λ (b : Bool). cond b (Ok (found_by q f (length rs))) (Err (refusal (study_refusal q f (length rs))))) no ∙ ap (λ (n : ℕ). Err (refusal n)) e),
        sym (ap (λ (b : Bool). cond b (study_by q f (length rs)).requests rs) no),
      )

  -- the values of a study
  abbrev pub study_values : Bool
  study_values = trial_in q && all_of (length rs) (member_at f)

  -- a study has two tests, the third of a pass holds
  module _ (lengths fine : Bool) (el : lengths ≡ lengths_in f (length rs)) (ef : fine ≡ study_values) where
    pub wrong_lengths : not lengths ≡ true → (r : Refusal) → r ≡ refusal 10 → (Err r ≡ study_answer q f rs) × (rs ≡ study_leaves q f rs)
    unfolding study_refusal
    wrong_lengths t = refused 9 (first_fails (lengths_in f (length rs)) study_values true (sym (ap not el) ∙ t))

    pub wrong_values : not lengths ≡ false → not fine ≡ true → (r : Refusal) → r ≡ refusal 5 → (Err r ≡ study_answer q f rs) × (rs ≡ study_leaves q f rs)
    unfolding study_refusal
    wrong_values t u = refused 4 (second_fails (lengths_in f (length rs)) study_values true (sym (ap not el) ∙ t) (sym (ap not ef) ∙ u))

    pub all_fine : not lengths ≡ false → not fine ≡ false → (after : List ℤ) (r : Studied) → DoneStudy (shaving q.settings) q.load f q.budget (length rs) after r
        → (Ok r ≡ study_answer q f rs) × (after ≡ study_leaves q f rs)
    unfolding study_answer study_leaves study_refusal found_by
    all_fine t u after r d =
        let is : eqb (study_refusal q f (length rs)) 0 ≡ true = ap (λ (n : ℕ). eqb n 0) (none_fails (lengths_in f (length rs)) study_values true (sym (ap not el) ∙ t) (sym (ap not ef) ∙ u) refl) in
        let report : r ≡ found_by q f (length rs) = λ i. record { settled = d.settled i; passes = d.passes i } in (
          ap Ok report ∙ sym (ap (λ (b : Bool). cond b (Ok (found_by q f (length rs))) (Err (refusal (study_refusal q f (length rs))))) is),
          d.requests ∙ sym (ap (λ (b : Bool). cond b (study_by q f (length rs)).requests rs) is),
        )
