-- What a pass of any numbers answers, by the first test that fails. Assumes nothing.
use mathlib.Core.Path.{◌≡◌, sym, ap, ap₂, ◌∙◌}
use mathlib.Core.Bool.{Bool, true, false, not, cond}
use mathlib.Core.List.{List}
use Prim.Native.Nat.{ℕ, suc}
use lib.Dec.{eqb, eqb-suc-zero}
use lib.IntN.{ℤ}
use Rattle.whole.specs.declared.Refusal.{Refusal}
use Rattle.whole.specs.Call.{refusal}
use Rattle.rules.specs.declared.Settings.{Settings}
use Rattle.controller.specs.declared.Passed.{Passed}
use Rattle.members.specs.Ranges.{Fleet}
use Rattle.members.specs.Sums.{changed_of}
use Rattle.controller.specs.Ranges.{graded}
use Rattle.controller.specs.Pass.{pass_of}
use Rattle.controller.specs.Posts.{DonePass}
use Rattle.controller.specs.Answers.{report_of, answer_by, leaves_by}
use Rattle.std.proofs.Common.{Err, Ok, Result}

-- ---- three tests in a row, each with its refusal
pub first_fails : (a b c : Bool) → not a ≡ true → graded a b c ≡ 10
first_fails a b c t = ap (λ (x : Bool). cond x 10 (cond (not b) 5 (cond (not c) 10 0))) t

pub second_fails : (a b c : Bool) → not a ≡ false → not b ≡ true → graded a b c ≡ 5
second_fails a b c t u = ap₂ (λ (x y : Bool). cond x 10 (cond y 5 (cond (not c) 10 0))) t u

third_fails : (a b c : Bool) → not a ≡ false → not b ≡ false → not c ≡ true → graded a b c ≡ 10
third_fails a b c t u v = ap₂ (λ (x y : Bool). cond x 10 (cond y 5 (cond (not c) 10 0))) t u ∙ ap (λ (x : Bool). cond x 10 0) v

pub none_fails : (a b c : Bool) → not a ≡ false → not b ≡ false → not c ≡ false → graded a b c ≡ 0
none_fails a b c t u v = ap₂ (λ (x y : Bool). cond x 10 (cond y 5 (cond (not c) 10 0))) t u ∙ ap (λ (x : Bool). cond x 10 0) v

-- an answer, and what it leaves, are the definition's for the refusal n
pub record Answered (n : ℕ) (s : Settings) (m : ℤ) (f : Fleet) (rs after : List ℤ) (answer : Result Passed Refusal) : Type 0 where
  pub answer_is : answer ≡ answer_by n s m f rs
  pub leaves : after ≡ leaves_by n s m f rs

module _ (s : Settings) (m : ℤ) (f : Fleet) (rs : List ℤ) where
  -- refused: the whole refusal, and the requests as they were
  refused : (n k : ℕ) → n ≡ suc k → (r : Refusal) → r ≡ refusal (suc k) → Answered n s m f rs rs (Err r)
  unfolding answer_by leaves_by
  refused n k e r er =
      let no : eqb n 0 ≡ false = ap (λ (x : ℕ). eqb x 0) e ∙ eqb-suc-zero k in record {
        answer_is = ap Err er ∙ sym (ap (λ (b : Bool). cond b (Ok (report_of s m f rs)) (Err (refusal n))) no ∙ ap (λ (x : ℕ). Err (refusal x)) e);
        leaves = sym (ap (λ (b : Bool). cond b (pass_of s m f rs) rs) no);
      }

  -- the code's three tests are the definition's
  module _ (a b c lengths fine requests : Bool) (el : lengths ≡ a) (ef : fine ≡ b) (er : requests ≡ c) where
    pub wrong_lengths : not lengths ≡ true → (r : Refusal) → r ≡ refusal 10 → Answered (graded a b c) s m f rs rs (Err r)
    wrong_lengths t = refused (graded a b c) 9 (first_fails a b c (sym (ap not el) ∙ t))

    pub wrong_values : not lengths ≡ false → not fine ≡ true → (r : Refusal) → r ≡ refusal 5 → Answered (graded a b c) s m f rs rs (Err r)
    wrong_values t u = refused (graded a b c) 4 (second_fails a b c (sym (ap not el) ∙ t) (sym (ap not ef) ∙ u))

    pub wrong_requests : not lengths ≡ false → not fine ≡ false → not requests ≡ true → (r : Refusal) → r ≡ refusal 10 → Answered (graded a b c) s m f rs rs (Err r)
    wrong_requests t u v = refused (graded a b c) 9 (third_fails a b c (sym (ap not el) ∙ t) (sym (ap not ef) ∙ u) (sym (ap not er) ∙ v))

    pub all_fine : not lengths ≡ false → not fine ≡ false → not requests ≡ false → (after : List ℤ) (p : Passed) → DonePass s m f rs after p
        → Answered (graded a b c) s m f rs after (Ok p)
    unfolding answer_by leaves_by report_of
    all_fine t u v after p d =
        let n : ℕ = graded a b c in
        let is : eqb n 0 ≡ true = ap (λ (x : ℕ). eqb x 0) (none_fails a b c (sym (ap not el) ∙ t) (sym (ap not ef) ∙ u) (sym (ap not er) ∙ v)) in
        let report : p ≡ report_of s m f rs = λ i. record { need = d.need i; changed = (d.changed ∙ ap (changed_of rs) d.requests) i } in record {
          answer_is = ap Ok report ∙ sym (ap (λ (x : Bool). cond x (Ok (report_of s m f rs)) (Err (refusal n))) is);
          leaves = d.requests ∙ sym (ap (λ (x : Bool). cond x (pass_of s m f rs) rs) is);
        }
