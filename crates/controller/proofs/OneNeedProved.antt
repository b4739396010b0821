-- The units' own needs: by watts all are the fleet's, and by current they are bounded. Assumes nothing.
use mathlib.Core.Path.{◌≡◌, sym, ap, ap₂, ◌∙◌}
use mathlib.Core.Bool.{Bool, false, not, cond, ◌&&◌}
use mathlib.Core.List.{List}
use Prim.Native.Nat.{ℕ, ◌≤◌, ◌<◌}
use native.Mathlib.Nat.{le_refl, le_trans, le_of_eq, lt_of_le_of_lt, add-le-add, mul-le-mul}
use lib.Dec.{leb, lit<, lit≤}
use lib.IntN.{ℤ, pos, nat_abs, ◌+ℤ◌}
use lib.ListN.{length, get_or}
use borrow.Author.Tests.{leb-true}
use Rattle.whole.proofs.Choice.{by_test}
use Rattle.whole.proofs.OverLaws.{and_parts, all_at, sumℤ_upto}
use Rattle.whole.proofs.SignLaws.{size_sum}
use Rattle.rules.specs.declared.Settings.{Settings}
use Rattle.rules.specs.Rules.{charges, by_current, plain_need, in_watts}
use Rattle.rules.proofs.RuleLaws.{plain_size, linked_size}
use Rattle.members.specs.Ranges.{Fleet, within_ratings, requests_ok, some_above, some_below}
use Rattle.members.specs.Sums.{sum_of_all}
use Rattle.members.proofs.CallLaws.{watts_need, watts_band}
use Rattle.controller.specs.Pass.{other_state, with_sum, own_need, own_band, need_of, pass_by, pass_of}
use Rattle.controller.specs.OneNeed.{OneNeedLaw, InRanges, BoundsLaw, BoundsTheorem}
use Rattle.controller.proofs.SoundLaws.{settings_small, current_small}

-- ---- modes 1 to 3
module _ (s : Settings) (m : ℤ) (f : Fleet) (rs : List ℤ) (e : by_current s.mode ≡ false) where
  one_band : (i : ℕ) → own_band s f i ≡ s.band
  unfolding own_band
  one_band i = watts_band (by_current s.mode) e (get_or f.link i 0) s.band

  fleet_need : (i : ℕ) → own_need s m f rs i ≡ need_of s m rs
  unfolding own_need need_of
  fleet_need i =
      ap (with_sum s rs) (watts_need (by_current s.mode) e (get_or f.link i 0) (plain_need s m))
      ∙ sym (ap (λ (b : Bool). cond b (plain_need s m) (with_sum s rs (plain_need s m))) e)

pub one_need : OneNeedLaw
unfolding pass_of
one_need s m f rs e = ap₂ (λ (bands : ℕ → ℕ) (needs : ℕ → ℤ). pass_by s f bands needs rs) (λ j i. one_band s m f rs e i j) (λ j i. fleet_need s m f rs e i j)

-- ---- modes 4 and 5
module _ (s : Settings) (m : ℤ) (f : Fleet) (rs : List ℤ) (r : InRanges s m f rs) where
  -- F: at most 64 requests, each within a rating
  sum_most : nat_abs (sum_of_all rs) ≤ 6400000000
  unfolding sum_of_all requests_ok within_ratings
  sum_most =
      let within = (and_parts (within_ratings f.rating rs) (not (some_above rs && some_below rs)) r.requests).0 in
      let each-most : (i : ℕ) → i < length rs → nat_abs (get_or rs i (pos 0)) ≤ 100000000 =
      λ i h.
      le_trans (leb-true (nat_abs (get_or rs i (pos 0))) (get_or f.rating i 0) (all_at (length rs) (λ (k : ℕ). leb (nat_abs (get_or rs k (pos 0))) (get_or f.rating k 0)) within i h)) (r.ratings i) in
      le_trans (sumℤ_upto (length rs) 100000000 (λ (i : ℕ). get_or rs i (pos 0)) each-most) (le_trans (mul-le-mul r.few (le_refl 100000000)) (lit≤ tt))

  watts_most : (i : ℕ) → nat_abs (in_watts (by_current s.mode) (get_or f.link i 0) (plain_need s m)) ≤ 48000000000
  watts_most i =
      le_trans (le_of_eq (ap (λ (b : Bool). nat_abs (in_watts b (get_or f.link i 0) (plain_need s m))) r.current))
      (linked_size (get_or f.link i 0) (plain_need s m) (r.links i)
      (le_trans (plain_size s m 300000000 100000000 (current_small m r.measure) (settings_small s r.settings).0) (lit≤ tt)))

  need_most : (i : ℕ) → nat_abs (own_need s m f rs i) ≤ 55000000000
  unfolding own_need with_sum
  need_most i =
      let watts : ℤ = in_watts (by_current s.mode) (get_or f.link i 0) (plain_need s m) in
      by_test (λ (z : ℤ). nat_abs z ≤ 55000000000) (other_state (charges s.mode) rs) (watts +ℤ sum_of_all rs) watts
      (λ t. le_trans (size_sum watts (sum_of_all rs)) (le_trans (add-le-add (watts_most i) sum_most) (lit≤ tt)))
      (λ t. le_trans (watts_most i) (lit≤ tt))

  bounded : BoundsLaw s m f rs
  bounded = record {
    need_most = need_most;
    product_most = λ i. lt_of_le_of_lt (mul-le-mul (mul-le-mul (need_most i) (r.weights i)) (settings_small s r.settings).1) (lit< tt);
  }

pub bounds_law : BoundsTheorem
bounds_law = bounded
