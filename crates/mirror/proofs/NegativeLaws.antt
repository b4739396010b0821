-- A rule that goes by a number's size and keeps its sign gives the negative for the negative, a test against 0 turns round, and a list of
-- negatives is one at each of its places. Assumes nothing.
use mathlib.Core.Path.{◌≡◌, refl, sym, ap, ap₂, ◌∙◌, subst}
use mathlib.Core.Bool.{Bool, true, false, not, cond, ◌&&◌, and_comm}
use mathlib.Core.List.{List, map, map-map, map-id}
use Prim.Native.Nat.{ℕ, zero, suc, ◌+◌, ◌*◌, ◌/◌, ◌≤◌, ◌<◌, min}
use native.Mathlib.Nat.{le_refl, le_step, zero-min, zero-mul, zero-div}
use native.Mathlib.Omega.{arith}
use lib.Dec.{leb, leb-zero, leb-suc-zero, leb-suc-suc}
use lib.IntN.{ℤ, pos, negsuc, neg_ℤ, ◌+ℤ◌, ◌*ℤ◌, neg_ℤ-neg_ℤ, neg_ℤ-+ℤ}
use lib.ListN.{length, get_or, length-map, get_or-map}
use lib.Seq.{ext_get_or}
use lib.Signed.{lt_z, le_z}
use Rattle.whole.specs.Over.{sum_of, sum_ofℤ, some_of, each}
use Rattle.whole.specs.Quotient.{cut}
use Rattle.whole.proofs.OverLaws.{each_length, each_at}
use Rattle.whole.proofs.SignLaws.{size_neg}
use Rattle.rules.specs.Rules.{in_watts, no_call, in_band, share_of, limited, with_mode, unit_after}
use Rattle.members.specs.Ranges.{some_above, some_below}
use Rattle.members.specs.Sums.{sum_of_all, differ, changed_of}
use Rattle.mirror.specs.Mirror.{negatives}

-- what is done to a choice is done to each answer
pub of_choice : {X Y : Type 0} (g : X → Y) (b : Bool) (x y : X) → g (cond b x y) ≡ cond b (g x) (g y)
of_choice g true x y = refl
of_choice g false x y = refl

-- ---- tests
below_negative : (z : ℤ) → lt_z (neg_ℤ z) (pos 0) ≡ lt_z (pos 0) z
below_negative (pos zero) = refl
below_negative (pos (suc n)) = sym (leb-suc-suc 0 n ∙ leb-zero n)
below_negative (negsuc n) = leb-suc-zero (suc n)

above_negative : (z : ℤ) → lt_z (pos 0) (neg_ℤ z) ≡ lt_z z (pos 0)
above_negative z = sym (below_negative (neg_ℤ z)) ∙ ap (λ (x : ℤ). lt_z x (pos 0)) (neg_ℤ-neg_ℤ z)

le_negatives : (a b : ℤ) → le_z (neg_ℤ a) (neg_ℤ b) ≡ le_z b a
le_negatives (pos zero) (pos zero) = refl
le_negatives (pos zero) (pos (suc b)) = sym (leb-suc-zero b)
le_negatives (pos zero) (negsuc b) = leb-zero (suc b)
le_negatives (pos (suc a)) (pos zero) = sym (leb-zero (suc a))
le_negatives (pos (suc a)) (pos (suc b)) = sym (leb-suc-suc b a)
le_negatives (pos (suc a)) (negsuc b) = refl
le_negatives (negsuc a) (pos zero) = leb-suc-zero a
le_negatives (negsuc a) (pos (suc b)) = refl
le_negatives (negsuc a) (negsuc b) = leb-suc-suc a b

pub call_turned : (z : ℤ) → no_call false (neg_ℤ z) ≡ no_call true z
call_turned z = le_negatives z (pos 0)

differ_same : (a b : ℤ) → differ (neg_ℤ a) (neg_ℤ b) ≡ differ a b
differ_same a b = ap not (ap₂ ◌&&◌ (le_negatives a b) (le_negatives b a) ∙ and_comm (le_z b a) (le_z a b))

pub band_same : (band : ℕ) (z : ℤ) → in_band band (neg_ℤ z) ≡ in_band band z
unfolding in_band
band_same band z = ap (λ (n : ℕ). leb (2 * n) band) (size_neg z)

-- ---- rules that go by the size and keep the sign
module _ (f : ℤ → ℤ) (g : ℕ → ℕ) (none : g 0 ≡ 0) (up : (a : ℕ) → f (pos a) ≡ pos (g a)) (down : (a : ℕ) → f (negsuc a) ≡ neg_ℤ (pos (g (suc a)))) where
  odd : (z : ℤ) → f (neg_ℤ z) ≡ neg_ℤ (f z)
  odd (pos zero) = let nothing : f (pos 0) ≡ pos 0 = up 0 ∙ ap pos none in nothing ∙ sym (ap neg_ℤ nothing)
  odd (pos (suc a)) = down a ∙ sym (ap neg_ℤ (up (suc a)))
  odd (negsuc a) = up (suc a) ∙ sym (ap neg_ℤ (down a) ∙ neg_ℤ-neg_ℤ (pos (g (suc a))))

times_negative : (n : ℕ) (z : ℤ) → neg_ℤ z *ℤ pos n ≡ neg_ℤ (z *ℤ pos n)
times_negative n = odd (λ (z : ℤ). z *ℤ pos n) (λ (a : ℕ). a * n) (zero-mul n) (λ a. refl) (λ a. refl)

cut_negative : (b : ℕ) (z : ℤ) → cut (neg_ℤ z) b ≡ neg_ℤ (cut z b)
unfolding cut
cut_negative b = odd (λ (z : ℤ). cut z b) (λ (a : ℕ). a / b) (zero-div b) (λ a. refl) (λ a. refl)

limited_negative : (R : ℕ) (z : ℤ) → limited R (neg_ℤ z) ≡ neg_ℤ (limited R z)
unfolding limited
limited_negative R = odd (limited R) (λ (a : ℕ). min a R) (zero-min R) (λ a. refl) (λ a. refl)

with_turned : (z : ℤ) → with_mode false (neg_ℤ z) ≡ neg_ℤ (with_mode true z)
unfolding with_mode
with_turned z = ap (λ (b : Bool). cond b (pos 0) (neg_ℤ z)) (below_negative z) ∙ sym (of_choice neg_ℤ (lt_z (pos 0) z) (pos 0) z)

pub watts_negative : (current : Bool) (link : ℕ) (z : ℤ) → in_watts current link (neg_ℤ z) ≡ neg_ℤ (in_watts current link z)
unfolding in_watts
watts_negative true link z = ap (λ (x : ℤ). cut x 1000) (times_negative link z) ∙ cut_negative 1000 (z *ℤ pos link)
watts_negative false link z = refl

share_negative : (factor : ℕ) (need : ℤ) (weight weights : ℕ) → share_of factor (neg_ℤ need) weight weights ≡ neg_ℤ (share_of factor need weight weights)
unfolding share_of
share_negative factor need weight weights = simp (times_negative, cut_negative)

pub unit_turned : (factor : ℕ) (need : ℤ) (weights rating weight : ℕ) (request : ℤ)
    → unit_after false factor (neg_ℤ need) weights rating weight (neg_ℤ request) ≡ neg_ℤ (unit_after true factor need weights rating weight request)
unfolding unit_after
unit_turned factor need weights rating weight request = simp (share_negative, ← neg_ℤ-+ℤ, limited_negative, with_turned)

-- ---- sums
sumℤ_negative : (n : ℕ) (f : ℕ → ℤ) → sum_ofℤ n (λ (i : ℕ). neg_ℤ (f i)) ≡ neg_ℤ (sum_ofℤ n f)
unfolding sum_ofℤ
sumℤ_negative zero f = refl
sumℤ_negative (suc n) f = ap (λ (z : ℤ). z +ℤ neg_ℤ (f n)) (sumℤ_negative n f) ∙ sym (neg_ℤ-+ℤ (sum_ofℤ n f) (f n))

-- values that are larger, one by one, are larger in all by one for each
pub sum_over : (n : ℕ) (f g : ℕ → ℕ) → ((i : ℕ) → i < n → f i < g i) → n + sum_of n f ≤ sum_of n g
unfolding sum_of
sum_over zero f g h = le_refl 0
sum_over (suc n) f g h = omega (arith, sum_over n f g (λ i l. h i (le_step l)), h n (le_refl (suc n)))

-- ---- lists
pub negatives_back : (rs : List ℤ) → negatives (negatives rs) ≡ rs
negatives_back rs = map-map neg_ℤ neg_ℤ rs ∙ ap (λ (g : ℤ → ℤ). map g rs) (λ j z. neg_ℤ-neg_ℤ z j) ∙ map-id rs

module _ (rs : List ℤ) where
  pub count_same : length (negatives rs) ≡ length rs
  count_same = length-map rs neg_ℤ

  at_negative : (i : ℕ) → get_or (negatives rs) i (pos 0) ≡ neg_ℤ (get_or rs i (pos 0))
  at_negative i = get_or-map neg_ℤ rs i (pos 0)

  pub sum_negative : sum_of_all (negatives rs) ≡ neg_ℤ (sum_of_all rs)
  unfolding sum_of_all
  sum_negative = ap₂ sum_ofℤ count_same (λ j i. at_negative i j) ∙ sumℤ_negative (length rs) (λ (i : ℕ). get_or rs i (pos 0))

  pub above_turned : some_above (negatives rs) ≡ some_below rs
  unfolding some_above some_below
  above_turned = ap₂ some_of count_same (λ j i. (ap (lt_z (pos 0)) (at_negative i) ∙ above_negative (get_or rs i (pos 0))) j)

  pub below_turned : some_below (negatives rs) ≡ some_above rs
  unfolding some_above some_below
  below_turned = ap₂ some_of count_same (λ j i. (ap (λ (z : ℤ). lt_z z (pos 0)) (at_negative i) ∙ below_negative (get_or rs i (pos 0))) j)

pub changed_same : (before after : List ℤ) → changed_of (negatives before) (negatives after) ≡ changed_of before after
unfolding changed_of
changed_same before after =
    ap₂ some_of (count_same before)
    (λ j i. (ap₂ differ (at_negative before i) (at_negative after i) ∙ differ_same (get_or before i (pos 0)) (get_or after i (pos 0))) j)

-- a list each of whose elements is replaced by the negative of what the other list has there
pub each_negative : (f g : ℕ → ℤ → ℤ) (rs : List ℤ) → ((i : ℕ) → i < length rs → (r : ℤ) → f i (neg_ℤ r) ≡ neg_ℤ (g i r))
    → each f (negatives rs) ≡ negatives (each g rs)
each_negative f g rs h =
    ext_get_or (pos 0) (each f (negatives rs)) (negatives (each g rs))
    (same ∙ sym (count_same (each g rs) ∙ each_length g rs))
    (λ i l.
    let k : i < length rs = subst (λ (n : ℕ). i < n) same l in
    each_at f (negatives rs) i (pos 0) (subst (λ (n : ℕ). i < n) (each_length f (negatives rs)) l)
    ∙ ap (f i) (at_negative rs i) ∙ h i k (get_or rs i (pos 0))
    ∙ sym (at_negative (each g rs) i ∙ ap neg_ℤ (each_at g rs i (pos 0) k)))
  where
    same : length (each f (negatives rs)) ≡ length rs
    same = each_length f (negatives rs) ∙ count_same rs
