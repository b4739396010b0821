-- A study that its budget stopped: its first pass changed a request. From requests of zero none does where the load is not above the target, for then rule 3 ends
-- the pass, nor where the stores are not above the reserves, for then rule 4 gives zero again. Assumes nothing.
use mathlib.Core.Path.{◌≡◌, refl, sym, ap, ◌∙◌, subst}
use mathlib.Core.Logic.{◌⊎◌, inl, inr}
use mathlib.Core.Bool.{Bool, true, false, not, cond, ◌&&◌}
use mathlib.Core.List.{List}
use Prim.Native.Nat.{ℕ, zero, suc, ◌+◌, ◌-◌, ◌≤◌, ◌<◌, zero-le}
use native.Mathlib.Omega.{arith}
use lib.Dec.{T, leb, ltb}
use lib.IntN.{ℤ, pos, negsuc, ◌-ℤ◌, ◌+ℤ◌, +ℤ_idr}
use lib.ListN.{length, get_or, replicate, length-replicate, get_or-replicate}
use lib.Signed.{◌<ℤ◌, lt_z, le_z}
use borrow.Author.Tests.{le-leb, ltb-false, leb-false}
use Rattle.whole.specs.Over.{each}
use Rattle.whole.proofs.Choice.{by_test, passed_failed}
use Rattle.whole.proofs.OverLaws.{none_of, some_at}
use Rattle.settling.proofs.SumLaws.{sum_none}
use Rattle.rules.specs.declared.Settings.{Settings}
use Rattle.rules.specs.Rules.{charges, by_current, plain_need}
use Rattle.members.specs.Ranges.{Fleet, some_above, some_below}
use Rattle.members.specs.Sums.{total, sum_of_all, changed_of, differ}
use Rattle.members.proofs.DifferLaws.{same_same}
use Rattle.controller.specs.Pass.{need_of, with_sum, rests, spent, all_in_band, request_after, pass_by}
use Rattle.controller.proofs.AlikeLaws.{rests_is}
use Rattle.controller.proofs.OneNeedProved.{one_need}
use Rattle.settling.specs.Study.{study_pass}
use Rattle.settling.specs.Settling.{requests_at, changes, changing}
use Rattle.settling.specs.Closing.{StoppedLaw}
use Rattle.settling.proofs.SettlingPass.{Requests, sum_is, none_below, one_plain}
use Rattle.settling.proofs.SettlingStill.{still_after}
use Rattle.settling.proofs.StudyLaws.{cleared}
use Rattle.settling.proofs.StudyProved.{study_law}

-- a number that is not above another leaves nothing above 0
not_above : (a b : ℤ) → lt_z b a ≡ false → le_z (a -ℤ b) (pos 0) ≡ true
not_above (pos a) (pos zero) t = let low : a ≤ 0 = ltb-false 0 a t in le-leb (a + 0) 0 (omega arith)
not_above (pos a) (pos (suc b)) t =
    let low : a ≤ suc b = ltb-false (suc b) a t in
    by_test (λ (z : ℤ). le_z z (pos 0) ≡ true) (ltb a (suc b)) (negsuc (suc b - suc a)) (pos (a - suc b)) (λ u. refl) (λ u. le-leb (a - suc b) 0 (omega arith))
not_above (pos a) (negsuc b) t = absurd (passed_failed refl t)
not_above (negsuc a) (pos zero) t = ap (λ (z : ℤ). le_z z (pos 0)) (+ℤ_idr (negsuc a))
not_above (negsuc a) (pos (suc b)) t = refl
not_above (negsuc a) (negsuc b) t =
    let low : b ≤ a = ltb-false a b t in
    by_test (λ (z : ℤ). le_z z (pos 0) ≡ true) (ltb (suc b) (suc a)) (negsuc (suc a - suc (suc b))) (pos (suc b - suc a)) (λ u. refl) (λ u. le-leb (suc b - suc a) 0 (omega arith))

-- mode 1 rests where it is idle and nothing calls
one_idle : (mode : ℕ) (above low other calm : Bool) → mode ≡ 1 → above ≡ false → calm ≡ true
    → (not (cond (charges mode) low above) && cond (charges mode) other calm) ≡ true
one_idle mode above low other calm e h k = simp (e, h, k)

-- ---- the first pass, from n requests of zero
module _ (s : Settings) (load : ℤ) (f : Fleet) (n : ℕ) (mode : s.mode ≡ 1) where
  abbrev none : List ℤ
  none = replicate n (pos 0)

  are_zero : Requests n none (λ (i : ℕ). 0)
  are_zero = record { count = length-replicate n (pos 0); at = λ i l. get_or-replicate n i (pos 0) (pos 0) l }

  sum_zero : sum_of_all none ≡ pos 0
  sum_zero = sum_is n none (λ (i : ℕ). 0) are_zero ∙ ap pos (sum_none n (λ (i : ℕ). 0) (λ i l. refl))

  idle : some_above none ≡ false
  unfolding some_above
  idle =
      none_of (length none) (λ (i : ℕ). lt_z (pos 0) (get_or none i (pos 0)))
      (λ i l. ap (lt_z (pos 0)) (are_zero.at i (subst (λ (k : ℕ). i < k) are_zero.count l)))

  abbrev need : ℤ
  need = need_of s (load -ℤ sum_of_all none) none

  need_is : need ≡ load -ℤ s.target
  unfolding need_of with_sum plain_need
  need_is =
      one_plain s.mode (some_above none) (some_below none) ((load -ℤ sum_of_all none) +ℤ s.target) ((load -ℤ sum_of_all none) -ℤ s.target) (sum_of_all none) mode
      (none_below n none (λ (i : ℕ). 0) are_zero)
      ∙ ap (λ (z : ℤ). (load -ℤ z) -ℤ s.target) sum_zero
      ∙ ap (λ (z : ℤ). z -ℤ s.target) (+ℤ_idr load)

  -- a pass that rules 3 or 4 end gives zero again
  same_again : (a b : Bool) (x y : List ℤ) → x ≡ none → (a ≡ true) ⊎ (b ≡ true) → cond a none (cond b x y) ≡ none
  same_again true b x y e h = refl
  same_again false true x y e h = e
  same_again false false x y e (inl h) = absurd (passed_failed h refl)
  same_again false false x y e (inr h) = absurd (passed_failed h refl)

  zero_again : (rests s (λ (i : ℕ). need) none ≡ true) ⊎ (spent (charges s.mode) (length none) f ≡ true) → study_pass s load f none ≡ none
  unfolding study_pass pass_by
  zero_again h =
      one_need s (load -ℤ sum_of_all none) f none (ap by_current mode)
      ∙ same_again (rests s (λ (i : ℕ). need) none) (spent (charges s.mode) (length none) f) (each (λ (i : ℕ) (r : ℤ). pos 0) none)
      (cond (all_in_band (length none) (λ (i : ℕ). s.band) (λ (i : ℕ). need)) none (each (request_after s (length none) f (λ (i : ℕ). need)) none))
      (cleared none ∙ ap (λ (k : ℕ). replicate k (pos 0)) are_zero.count) h

  unchanged_zero : study_pass s load f none ≡ none → changes s load f n 0 ≡ false
  unfolding changes requests_at changed_of
  unchanged_zero e =
      ap (changed_of none) e ∙ none_of (length none) (λ (i : ℕ). differ (get_or none i (pos 0)) (get_or none i (pos 0))) (λ i l. same_same (get_or none i (pos 0)))

  -- so a first pass that changes a request has a load above the target and a store above the reserve
  module _ (changed : changes s load f n 0 ≡ true) where
    goes_on : (rests s (λ (i : ℕ). need) none ≡ true) ⊎ (spent (charges s.mode) (length none) f ≡ true) → ⊥
    goes_on h = passed_failed changed (unchanged_zero (zero_again h))

    some : 1 ≤ length none
    unfolding changes requests_at changed_of
    some =
        let found = some_at (length none) (λ (i : ℕ). differ (get_or none i (pos 0)) (get_or (study_pass s load f none) i (pos 0))) changed in
        omega (arith, found.1)

    load_above : s.target <ℤ load
    load_above = go (lt_z s.target load) refl
      where
        go : (b : Bool) → lt_z s.target load ≡ b → s.target <ℤ load
        go true t = record { lt = subst T (sym t) tt }
        go false t =
            let low : le_z need (pos 0) ≡ true = ap (λ (z : ℤ). le_z z (pos 0)) need_is ∙ not_above load s.target t in
            absurd (goes_on (inl (rests_is s need none some ∙ one_idle s.mode (some_above none) (some_below none) (le_z (pos 0) need) (le_z need (pos 0)) mode idle low)))

    store_above : total n f.reserve < total n f.stored
    unfolding spent
    store_above = go (leb (total n f.stored) (total n f.reserve)) refl
      where
        go : (b : Bool) → leb (total n f.stored) (total n f.reserve) ≡ b → total n f.reserve < total n f.stored
        go true t = absurd (goes_on (inr (rw (mode, length-replicate) t)))
        go false t = leb-false (total n f.stored) (total n f.reserve) t

-- where the first pass changes none, none does
never : (s : Settings) (load : ℤ) (f : Fleet) (n budget : ℕ) → changes s load f n 0 ≡ false → changing s load f n budget ≡ 0
unfolding changing
never s load f n budget t =
    sum_none budget (λ (j : ℕ). cond (changes s load f n j) 1 0) (λ j l. ap (λ (b : Bool). cond b 1 0) (still_after s load f n 0 j zero-le t))

pub stopped_law : StoppedLaw
stopped_law s load f budget n mode some stopped =
    let changed : changes s load f n 0 ≡ true = go (changes s load f n 0) refl in
    (load_above s load f n mode changed, store_above s load f n mode changed)
  where
    count : changing s load f n budget ≡ budget
    count = sym (study_law s load f budget n).count_is ∙ (study_law s load f budget n).unsettled_is stopped

    go : (b : Bool) → changes s load f n 0 ≡ b → b ≡ true
    go true t = refl
    go false t = absurd (omega (arith, count, never s load f n budget t))
