-- Rules 3 and 5 over the units: one unit that fails decides; a plain need that does not call decides for all; by watts all have one need and one band, so that one test stands for all.
-- Assumes nothing.
use mathlib.Core.Path.{◌≡◌, refl, sym, ap, ap₂, ◌∙◌}
use mathlib.Core.Bool.{Bool, true, false, cond, ◌&&◌}
use Prim.Native.Nat.{ℕ, zero, suc, ◌≤◌, ◌<◌}
use native.Mathlib.Omega.{arith}
use lib.IntN.{ℤ, ◌+ℤ◌}
use lib.ListN.{get_or}
use Rattle.whole.specs.Over.{all_of}
use Rattle.whole.proofs.Choice.{passed_failed}
use Rattle.whole.proofs.OverLaws.{all_at}
use Rattle.rules.specs.declared.Wanted.{Wanted}
use Rattle.rules.specs.Rules.{in_watts, band_in_watts, no_call, in_band}
use Rattle.rules.specs.Posts.{need_by}
use Rattle.rules.proofs.RuleLaws.{watts_no_call, plain_own}
use Rattle.members.specs.Ranges.{Fleet}
use Rattle.members.specs.Posts.{own_by, none_calls_by, all_in_band_by}

-- what fails at i fails for all below n
pub one_fails : (n : ℕ) (ok : ℕ → Bool) (i : ℕ) → i < n → ok i ≡ false → all_of n ok ≡ false
one_fails n ok i h e = go (all_of n ok) refl
  where
    go : (t : Bool) → all_of n ok ≡ t → t ≡ false
    go true p = absurd (passed_failed (all_at n ok p i h) e)
    go false p = refl

and_self : (b : Bool) → (b && b) ≡ b
and_self true = refl
and_self false = refl

pub all_alike : (n : ℕ) (b : Bool) → 1 ≤ n → all_of n (λ (i : ℕ). b) ≡ b
unfolding all_of
all_alike zero b h = absurd (omega arith)
all_alike (suc zero) b h = refl
all_alike (suc (suc n)) b h = ap (λ (x : Bool). x && b) (all_alike (suc n) b (omega arith)) ∙ and_self b

-- a plain need that does not call, to which nothing is added
pub plain_rests : (charging : Bool) (w : Wanted) (f : Fleet) (n : ℕ) → w.current ≡ true → w.other ≡ false → no_call charging w.plain ≡ true → 1 ≤ n
    → true ≡ none_calls_by charging w f n
unfolding none_calls_by own_by
plain_rests charging w f n current other e some = sym (ap (all_of n) (λ j i. each i j) ∙ all_alike n true some)
  where
    each : (i : ℕ) → no_call charging (own_by w f i) ≡ true
    each i = let link = get_or f.link i 0 in ap (no_call charging) (plain_own w link current other) ∙ watts_no_call charging link w.plain e

-- a need and a band that are in watts already
pub watts_need : (current : Bool) → current ≡ false → (link : ℕ) (z : ℤ) → in_watts current link z ≡ z
unfolding in_watts
watts_need current e link z = cc

pub watts_band : (current : Bool) → current ≡ false → (link band : ℕ) → band_in_watts current link band ≡ band
unfolding band_in_watts
watts_band current e link band = cc

pub same_need : (w : Wanted) (f : Fleet) → w.current ≡ false → (i : ℕ) → own_by w f i ≡ need_by w 0
unfolding own_by need_by
same_need w f watts i =
    ap (λ (z : ℤ). cond w.other (z +ℤ w.sum) z)
    (watts_need w.current watts (get_or f.link i 0) w.plain ∙ sym (watts_need w.current watts 0 w.plain))

module _ (w : Wanted) (f : Fleet) (n : ℕ) (watts : w.current ≡ false) (some : 1 ≤ n) where
  pub none_calls_is : (charging : Bool) → no_call charging (need_by w 0) ≡ none_calls_by charging w f n
  unfolding none_calls_by
  none_calls_is charging =
      sym (ap (λ (g : ℕ → ℤ). all_of n (λ (i : ℕ). no_call charging (g i))) (λ j i. same_need w f watts i j) ∙ all_alike n (no_call charging (need_by w 0)) some)

  pub in_band_is : (band : ℕ) → in_band band (need_by w 0) ≡ all_in_band_by band w f n
  unfolding all_in_band_by
  in_band_is band =
      sym (ap₂ (λ (b : ℕ → ℕ) (g : ℕ → ℤ). all_of n (λ (i : ℕ). in_band (b i) (g i))) (λ j i. watts_band w.current watts (get_or f.link i 0) band j) (λ j i. same_need w f watts i j)
      ∙ all_alike n (in_band band (need_by w 0)) some)
