-- The study's law: a study with b passes left, after c that all changed a request, ends as the law says of c + b passes. By induction over b;
-- after a pass that changes none, none does (`SettlingStill`), so the count stays. It needs no premise. Assumes nothing.
use mathlib.Core.Path.{◌≡◌, refl, sym, ap, ◌∙◌}
use mathlib.Core.Bool.{Bool, true, false, cond}
use mathlib.Core.List.{List}
use Prim.Native.Nat.{ℕ, zero, suc, ◌+◌}
use native.Mathlib.Nat.{add-zero, add-suc, suc-add, zero-add}
use native.Mathlib.Numerals.{add-one}
use native.Mathlib.Omega.{arith}
use lib.IntN.{ℤ, pos}
use lib.ListN.{replicate}
use Rattle.whole.specs.Over.{sum_of}
use Rattle.whole.proofs.Choice.{by_test, passed_failed}
use Rattle.settling.proofs.SumLaws.{sum_still}
use Rattle.settling.proofs.SettlingStill.{next_requests, still_after}
use Rattle.rules.specs.declared.Settings.{Settings}
use Rattle.members.specs.Ranges.{Fleet}
use Rattle.members.specs.Sums.{changed_of}
use Rattle.settling.specs.Study.{Study, study_pass, study_from, study_of}
use Rattle.settling.specs.Settling.{StudyLaw, requests_at, changes, changing}

-- what the law says of one study's end
record Ends (s : Settings) (load : ℤ) (f : Fleet) (n budget : ℕ) (r : Study) : Type 0 where
  requests_are : r.requests ≡ requests_at s load f n r.changing
  count_is : r.changing ≡ changing s load f n budget
  settled_is : r.settled ≡ true → changes s load f n r.changing ≡ false
  unsettled_is : r.settled ≡ false → r.changing ≡ budget

module _ (s : Settings) (load : ℤ) (f : Fleet) (n : ℕ) where
  -- a pass after c that changes one, and c + j passes where it changes none
  one_more : (c : ℕ) → changing s load f n c ≡ c → changes s load f n c ≡ true → changing s load f n (suc c) ≡ suc c
  unfolding changing sum_of
  one_more c all t = ap (λ (b : Bool). changing s load f n c + cond b 1 0) t ∙ omega arith

  no_more : (c j : ℕ) → changes s load f n c ≡ false → changing s load f n (c + j) ≡ changing s load f n c
  unfolding changing
  no_more c j t = sum_still c j (λ (i : ℕ). cond (changes s load f n i) 1 0) (λ i l. ap (λ (b : Bool). cond b 1 0) (still_after s load f n c i l t))

  ends : (b c : ℕ) (rs : List ℤ) → rs ≡ requests_at s load f n c → changing s load f n c ≡ c → Ends s load f n (c + b) (study_from s load f b c rs)
  unfolding study_from
  ends zero c rs e all =
      record {
        requests_are = e;
        count_is = sym all ∙ ap (changing s load f n) (sym (add-zero c));
        settled_is = λ t. absurd (passed_failed t refl);
        unsettled_is = λ t. sym (add-zero c);
      }
  ends (suc b) c rs e all =
      by_test (Ends s load f n (c + suc b)) (changed_of rs (study_pass s load f rs)) (study_from s load f b (c + 1) (study_pass s load f rs))
      (record { requests = rs; settled = true; changing = c })
      (λ t. rw (add-suc c b, ← suc-add c b, add-one c) (ends b (suc c) (study_pass s load f rs) next (one_more c all (test ∙ t))))
      (λ t.
      record {
        requests_are = e;
        count_is = sym all ∙ sym (no_more c (suc b) (test ∙ t));
        settled_is = λ u. test ∙ t;
        unsettled_is = λ u. absurd (passed_failed refl u);
      })
    where
      next : study_pass s load f rs ≡ requests_at s load f n (suc c)
      next = ap (study_pass s load f) e ∙ sym (next_requests s load f n c)

      test : changes s load f n c ≡ changed_of rs (study_pass s load f rs)
      test = unfold changes in ap (λ (l : List ℤ). changed_of l (study_pass s load f l)) (sym e)

pub study_law : (s : Settings) (load : ℤ) (f : Fleet) (budget n : ℕ) → StudyLaw s load f budget n
unfolding study_of requests_at changing sum_of
study_law s load f budget n =
    let end : Ends s load f n budget (study_of s load f budget n) = rw zero-add at (ends s load f n budget 0 (replicate n (pos 0)) refl refl) in
    record { requests_are = end.requests_are; count_is = end.count_is; settled_is = end.settled_is; unsettled_is = end.unsettled_is }
