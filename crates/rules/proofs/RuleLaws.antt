-- The rules of a pass as the code works them out: what each operation fits and gives. Assumes nothing.
use mathlib.Core.Path.{◌≡◌, refl, sym, ap, ap₂, ◌∙◌, subst, subst⁻¹}
use mathlib.Core.Bool.{Bool, true, false, not, cond, ◌&&◌, beq}
use Prim.Native.Nat.{ℕ, zero, suc, ◌+◌, ◌*◌, ◌/◌, ◌^◌, ◌≤◌, ◌<◌, min}
use native.Mathlib.Nat.{zero-mul, zero-div, div-le_self, lt_of_le_of_lt, le_trans, add-le-add, mul-le-mul, min-eq_left, min-eq_right, le_of_lt, le_of_eq}
use native.Mathlib.Omega.{arith}
use lib.Dec.{leb, eqb, lit<, lit≤, leb-zero, leb-suc-zero}
use lib.IntN.{ℤ, pos, negsuc, neg_ℤ, nat_abs, ◌+ℤ◌, ◌-ℤ◌, ◌*ℤ◌}
use lib.Signed.{mag, lt_z, le_z}
use borrow.Author.Tests.{eq-eqb, ne_eqb, lt-ltb, not-true, not-false}
use mir.Syntax.{w32, w64}
use mir.Val.{SFits, to_z, of_z}
use mir.ValLaws.{to_z_pos}
use Rattle.whole.proofs.Choice.{passed_failed}
use Rattle.whole.specs.Signed.{negative, signed}
use Rattle.whole.specs.Quotient.{cut}
use Rattle.whole.proofs.QuotientLaws.{cut_size, cut_none, floor_upto}
use Rattle.whole.proofs.SignLaws.{sign_size, read, size_neg, size_sum, size_product, size_fits, signed_fits, wide_is, wide_size, plus_fits, plus_is, minus_fits, minus_is, times_fits, times_is}
use Rattle.rules.specs.declared.Settings.{Settings}
use Rattle.rules.specs.declared.Asked.{Asked}
use Rattle.rules.specs.declared.Wanted.{Wanted}
use Rattle.rules.specs.Rules.{by_current, plain_need, in_watts, band_in_watts, no_call, unable, share_of, limited, with_mode, unit_after}
use Rattle.rules.specs.Posts.{wanted_by, need_by, reported_by, Modest}

abbrev pub back32 : ℤ → ℤ
back32 z = to_z w32 (of_z w32 z)

abbrev pub back64 : ℤ → ℤ
back64 z = to_z w64 (of_z w64 z)

-- a number of a known size is read back
pub read_sized : (z : ℤ) → nat_abs z < 2 ^ 63 → back64 z ≡ z
read_sized z h = read w64 z (size_fits w64 z h).sfits

-- ---- rule 1
module _ (s : Settings) (m : ℤ) (hm : nat_abs m ≤ 200000000000) (ht : mag s.target < 2 ^ 31) where
  em : back64 m ≡ m
  em = read_sized m (lt_of_le_of_lt hm (lit< tt))

  et : back64 (back32 s.target) ≡ s.target
  et = wide_is s.target ht

  sizes : nat_abs m + nat_abs s.target ≤ 200000000000 + 2147483648
  sizes = add-le-add hm (wide_size s.target ht)

  pub added_fits : SFits w64 (back64 m +ℤ back64 (back32 s.target))
  added_fits = plus_fits w64 m s.target (back64 m) (back64 (back32 s.target)) em et (lt_of_le_of_lt sizes (lit< tt))

  pub taken_fits : SFits w64 (back64 m -ℤ back64 (back32 s.target))
  taken_fits = minus_fits w64 m s.target (back64 m) (back64 (back32 s.target)) em et (lt_of_le_of_lt sizes (lit< tt))

  pub added_is : s.mode ≡ 2 → back64 (back64 m +ℤ back64 (back32 s.target)) ≡ plain_need s m
  unfolding plain_need
  added_is e =
      plus_is w64 m s.target (back64 m) (back64 (back32 s.target)) em et (lt_of_le_of_lt sizes (lit< tt))
      ∙ sym (ap (λ (t : Bool). cond t (m +ℤ s.target) (m -ℤ s.target)) (eq-eqb s.mode 2 e))

  pub taken_is : (s.mode ≡ 2 → ⊥) → back64 (back64 m -ℤ back64 (back32 s.target)) ≡ plain_need s m
  unfolding plain_need
  taken_is e =
      minus_is w64 m s.target (back64 m) (back64 (back32 s.target)) em et (lt_of_le_of_lt sizes (lit< tt))
      ∙ sym (ap (λ (t : Bool). cond t (m +ℤ s.target) (m -ℤ s.target)) (ne_eqb s.mode 2 e))

-- its size
pub plain_size : (s : Settings) (m : ℤ) (a b : ℕ) → nat_abs m ≤ a → nat_abs s.target ≤ b → nat_abs (plain_need s m) ≤ a + b
unfolding plain_need
plain_size s m a b hm ht = go (eqb s.mode 2)
  where
    go : (t : Bool) → nat_abs (cond t (m +ℤ s.target) (m -ℤ s.target)) ≤ a + b
    go true = le_trans (size_sum m s.target) (add-le-add hm ht)
    go false = le_trans (size_sum m (neg_ℤ s.target)) (add-le-add hm (subst⁻¹ (λ (n : ℕ). n ≤ b) (size_neg s.target) ht))

-- ---- rule 2
module _ (other : Bool) (plain sum : ℤ) (hp : nat_abs plain ≤ 300000000000) (hs : nat_abs sum ≤ 1000000000000) where
  ep : back64 plain ≡ plain
  ep = read_sized plain (lt_of_le_of_lt hp (lit< tt))

  es : back64 sum ≡ sum
  es = read_sized sum (lt_of_le_of_lt hs (lit< tt))

  room : nat_abs plain + nat_abs sum < 2 ^ 63
  room = lt_of_le_of_lt (add-le-add hp hs) (lit< tt)

  pub joined_fits : SFits w64 (back64 plain +ℤ back64 sum)
  joined_fits = plus_fits w64 plain sum (back64 plain) (back64 sum) ep es room

  pub joined_is : other ≡ true → back64 (back64 plain +ℤ back64 sum) ≡ cond other (plain +ℤ sum) plain
  joined_is e = plus_is w64 plain sum (back64 plain) (back64 sum) ep es room ∙ sym (ap (λ (t : Bool). cond t (plain +ℤ sum) plain) e)

  pub alone_is : other ≡ false → back64 plain ≡ cond other (plain +ℤ sum) plain
  alone_is e = ep ∙ sym (ap (λ (t : Bool). cond t (plain +ℤ sum) plain) e)

-- ---- rule 10: a need's watts at a unit, and the unit's own need
module _ (link : ℕ) (need : ℤ) (hl : link ≤ 120000) (hn : nat_abs need ≤ 202147483648) where
  enl : back64 need ≡ need
  enl = read_sized need (lt_of_le_of_lt hn (lit< tt))

  ell : to_z w64 link ≡ pos link
  ell = to_z_pos w64 link (lt_of_le_of_lt hl (lit< tt))

  link_room : nat_abs need * nat_abs (pos link) < 2 ^ 63
  link_room = lt_of_le_of_lt (mul-le-mul hn hl) (lit< tt)

  pub linked_fits : SFits w64 (back64 need *ℤ to_z w64 link)
  linked_fits = times_fits w64 need (pos link) (back64 need) (to_z w64 link) enl ell link_room

  pub linked_is : (current : Bool) → not current ≡ false → (r : ℤ) → mag r < 2 ^ 63 → r ≡ cut (back64 (back64 need *ℤ to_z w64 link)) 1000
      → back64 r ≡ in_watts current link need
  unfolding in_watts
  linked_is current t r hr e =
      read w64 r hr ∙ e
      ∙ ap (λ (z : ℤ). cut z 1000) (times_is w64 need (pos link) (back64 need) (to_z w64 link) enl ell link_room)
      ∙ sym (ap (λ (b : Bool). cond b (cut (need *ℤ pos link) 1000) need) (not-false current t))

  pub plainly_is : (current : Bool) → not current ≡ true → back64 need ≡ in_watts current link need
  unfolding in_watts
  plainly_is current t = enl ∙ sym (ap (λ (b : Bool). cond b (cut (need *ℤ pos link) 1000) need) (not-true current t))

-- the size of a quotient that is cut
cut_sized : (z : ℤ) (b : ℕ) → nat_abs (cut z b) ≡ nat_abs z / b
unfolding cut
cut_sized (pos a) b = refl
cut_sized (negsuc a) b = size_neg (pos (suc a / b))

-- a meter's need is at most 4.8 × 10^10 W at a unit
pub watts_most : (size link : ℕ) → size ≤ 400000000 → link ≤ 120000 → size * link / 1000 ≤ 48000000000
watts_most size link hs hl = (floor_upto (size * link) 1000 48000000000 (lit< tt)).1 (le_trans (mul-le-mul hs hl) (lit≤ tt))

pub linked_size : (link : ℕ) (need : ℤ) → link ≤ 120000 → nat_abs need ≤ 400000000 → nat_abs (in_watts true link need) ≤ 48000000000
unfolding in_watts
linked_size link need hl hn =
    le_trans (le_of_eq (cut_sized (need *ℤ pos link) 1000 ∙ ap (λ (n : ℕ). n / 1000) (size_product need (pos link))))
    (watts_most (nat_abs need) link hn hl)

-- what a measure, a target and requests in their ranges give
pub modest : (s : Settings) (m : ℤ) (a : Asked) → nat_abs m ≤ 200000000000 → nat_abs s.target ≤ 100000000
    → (by_current s.mode ≡ true → nat_abs m ≤ 300000000) → nat_abs a.sum ≤ 137438953472 → Modest (wanted_by s m a)
unfolding wanted_by
modest s m a hm ht hc hs = record {
  plain_small = le_trans (plain_size s m 200000000000 100000000 hm ht) (lit≤ tt);
  current_small = λ e. le_trans (plain_size s m 300000000 100000000 (hc e) ht) (lit≤ tt);
  sum_small = hs;
}

module _ (w : Wanted) (link : ℕ) (m : Modest w) (hl : link ≤ 120000) where
  -- the sizes of the need in watts, and of the unit's own need
  pub watts_size : nat_abs (in_watts w.current link w.plain) ≤ 202147483648
  unfolding in_watts
  watts_size = go w.current refl
    where
      go : (t : Bool) → w.current ≡ t → nat_abs (in_watts t link w.plain) ≤ 202147483648
      go true e = le_trans (linked_size link w.plain hl (m.current_small e)) (lit≤ tt)
      go false e = m.plain_small

  pub need_size : nat_abs (need_by w link) ≤ 400000000000
  unfolding need_by
  need_size = go w.other
    where
      go : (t : Bool) → nat_abs (cond t (in_watts w.current link w.plain +ℤ w.sum) (in_watts w.current link w.plain)) ≤ 400000000000
      go true = le_trans (size_sum (in_watts w.current link w.plain) w.sum) (le_trans (add-le-add watts_size m.sum_small) (lit≤ tt))
      go false = le_trans watts_size (lit≤ tt)

  plain_read : back64 w.plain ≡ w.plain
  plain_read = read_sized w.plain (lt_of_le_of_lt m.plain_small (lit< tt))

  sum_read : back64 w.sum ≡ w.sum
  sum_read = read_sized w.sum (lt_of_le_of_lt m.sum_small (lit< tt))

  -- what the code's parts get, and give
  pub plain_ok : nat_abs (back64 w.plain) ≤ 202147483648
  plain_ok = subst⁻¹ (λ (z : ℤ). nat_abs z ≤ 202147483648) plain_read m.plain_small

  pub sum_ok : nat_abs (back64 w.sum) ≤ 1000000000000
  sum_ok = subst⁻¹ (λ (z : ℤ). nat_abs z ≤ 1000000000000) sum_read (le_trans m.sum_small (lit≤ tt))

  module _ (watts : ℤ) (ew : watts ≡ in_watts w.current link (back64 w.plain)) where
    ew2 : watts ≡ in_watts w.current link w.plain
    ew2 = ew ∙ ap (in_watts w.current link) plain_read

    watts_upto : nat_abs watts ≤ 202147483648
    watts_upto = subst⁻¹ (λ (z : ℤ). nat_abs z ≤ 202147483648) ew2 watts_size

    watts_read : back64 watts ≡ watts
    watts_read = read_sized watts (lt_of_le_of_lt watts_upto (lit< tt))

    pub watts_ok : nat_abs (back64 watts) ≤ 300000000000
    watts_ok = subst⁻¹ (λ (z : ℤ). nat_abs z ≤ 300000000000) watts_read (le_trans watts_upto (lit≤ tt))

    pub own_is : (r : ℤ) → mag r < 2 ^ 63 → r ≡ cond w.other (back64 watts +ℤ back64 w.sum) (back64 watts) → back64 r ≡ need_by w link
    unfolding need_by
    own_is r hr e = read w64 r hr ∙ e ∙ ap₂ (λ (x y : ℤ). cond w.other (x +ℤ y) x) (watts_read ∙ ew2) sum_read

  -- the need that is reported
  pub reported_is : (r : ℤ) → mag r < 2 ^ 63 → r ≡ cond (w.other && not w.current) (back64 w.plain +ℤ back64 w.sum) (back64 w.plain) → back64 r ≡ reported_by w
  unfolding reported_by
  reported_is r hr e = read w64 r hr ∙ e ∙ ap₂ (λ (x y : ℤ). cond (w.other && not w.current) (x +ℤ y) x) plain_read sum_read

-- a unit's own band
pub band_is : (current : Bool) (link band : ℕ) → not current ≡ false → band * link / 1000 ≡ band_in_watts current link band
unfolding band_in_watts
band_is current link band t = sym (ap (λ (b : Bool). cond b (band * link / 1000) band) (not-false current t))

pub fleet_band_is : (current : Bool) (link band : ℕ) → not current ≡ true → band ≡ band_in_watts current link band
unfolding band_in_watts
fleet_band_is current link band t = sym (ap (λ (b : Bool). cond b (band * link / 1000) band) (not-true current t))

-- ---- rule 3
module _ (charging : Bool) (need : ℤ) (h : mag need < 2 ^ 63) where
  pub idle_charging : charging ≡ true → le_z (pos 0) (back64 need) ≡ cond charging (le_z (pos 0) need) (le_z need (pos 0))
  idle_charging e = ap (le_z (pos 0)) (read w64 need h) ∙ sym (ap (λ (t : Bool). cond t (le_z (pos 0) need) (le_z need (pos 0))) e)

  pub idle_discharging : charging ≡ false → le_z (back64 need) (pos 0) ≡ cond charging (le_z (pos 0) need) (le_z need (pos 0))
  idle_discharging e = ap (λ (z : ℤ). le_z z (pos 0)) (read w64 need h) ∙ sym (ap (λ (t : Bool). cond t (le_z (pos 0) need) (le_z need (pos 0))) e)

-- ---- rule 6: the share

-- the sign of a product is the first factor's, where the other is not below 0; where it is 0 the quotient has none
neg_times : (k m : ℕ) → neg_ℤ (pos k) *ℤ pos m ≡ neg_ℤ (pos (k * m))
neg_times zero m = ap pos (zero-mul m) ∙ sym (ap (λ (n : ℕ). neg_ℤ (pos n)) (zero-mul m))
neg_times (suc k) m = refl

cut_neg : (k b : ℕ) → cut (neg_ℤ (pos k)) b ≡ neg_ℤ (pos (k / b))
unfolding cut
cut_neg zero b = ap pos (zero-div b) ∙ sym (ap (λ (n : ℕ). neg_ℤ (pos n)) (zero-div b))
cut_neg (suc k) b = refl

-- a need that does not call does not call at a unit either: what it is there has its sign, or is 0
pub watts_no_call : (charging : Bool) (link : ℕ) (z : ℤ) → no_call charging z ≡ true → no_call charging (in_watts true link z) ≡ true
unfolding in_watts cut
watts_no_call true link (pos a) e = leb-zero (a * link / 1000)
watts_no_call true link (negsuc a) e = absurd (passed_failed e refl)
watts_no_call false link (pos zero) e = ap (λ (n : ℕ). leb (n / 1000) 0) (zero-mul link)
watts_no_call false link (pos (suc a)) e = absurd (passed_failed e (leb-suc-zero a))
watts_no_call false link (negsuc a) e = ap (λ (z : ℤ). le_z z (pos 0)) (cut_neg (suc a * link) 1000) ∙ by_size (suc a * link / 1000)
  where
    by_size : (k : ℕ) → le_z (neg_ℤ (pos k)) (pos 0) ≡ true
    by_size zero = refl
    by_size (suc k) = refl

-- by current, where the fleet is not in the other state, a unit's own need is the plain need's watts
pub plain_own : (w : Wanted) (link : ℕ) → w.current ≡ true → w.other ≡ false → need_by w link ≡ in_watts true link w.plain
unfolding need_by
plain_own w link current other = cc

-- a sign goes through a product and a quotient
signed_times : (below : Bool) (k n : ℕ) → signed below k *ℤ pos n ≡ signed below (k * n)
signed_times false k n = refl
signed_times true k n = neg_times k n

cut_signed : (below : Bool) (k b : ℕ) → cut (signed below k) b ≡ signed below (k / b)
unfolding cut
cut_signed false k b = refl
cut_signed true k b = cut_neg k b

-- so the watts of a need, and the share of one, come from its size
pub sized_watts : (below : Bool) (size link : ℕ) → in_watts true link (signed below size) ≡ signed below (size * link / 1000)
unfolding in_watts
sized_watts below size link = ap (λ (z : ℤ). cut z 1000) (signed_times below size link) ∙ cut_signed below (size * link) 1000

pub sized_share : (below : Bool) (factor size weight weights : ℕ) → share_of factor (signed below size) weight weights ≡ signed below (size * weight * factor / (weights * 1000))
unfolding share_of
sized_share below factor size weight weights =
    ap (λ (z : ℤ). cut (z *ℤ pos factor) (weights * 1000)) (signed_times below size weight)
    ∙ ap (λ (z : ℤ). cut z (weights * 1000)) (signed_times below (size * weight) factor)
    ∙ cut_signed below (size * weight * factor) (weights * 1000)

module _ (factor size weight weights : ℕ) (hs : size ≤ 400000000000) (hf : factor ≤ 1000) (hw : weight ≤ 10000) where
  first_size : size * weight ≤ 400000000000 * 10000
  first_size = mul-le-mul hs hw

  pub product_size : size * weight * factor ≤ 4000000000000000 * 1000
  product_size = mul-le-mul first_size hf

  pub weighted_fits : size * weight < 2 ^ 64
  weighted_fits = lt_of_le_of_lt first_size (lit< tt)

  pub factored_fits : size * weight * factor < 2 ^ 64
  factored_fits = lt_of_le_of_lt product_size (lit< tt)

  pub share_fits : (below : Bool) (part : ℕ) → part ≡ size * weight * factor / (weights * 1000) → SFits w64 (signed below part)
  share_fits below part e =
      signed_fits w64 below part
      (lt_of_le_of_lt (le_trans (le_of_eq e) (le_trans (div-le_self (size * weight * factor) (weights * 1000)) product_size)) (lit< tt))

module _ (factor : ℕ) (need : ℤ) (weight weights : ℕ) (hn : nat_abs need ≤ 400000000000) (hf : factor ≤ 1000) (hw : weight ≤ 10000) where
  en : back64 need ≡ need
  en = read_sized need (lt_of_le_of_lt hn (lit< tt))

  pub share_none : weights ≡ 0 → pos 0 ≡ share_of factor need weight weights
  unfolding share_of
  share_none e = cut_none (need *ℤ pos weight *ℤ pos factor) (weights * 1000) (ap (λ (n : ℕ). n * 1000) e)

  -- from the sign and the size that the code has
  module _ (size : ℕ) (es : size ≡ nat_abs (back64 need)) where
    same : size ≡ nat_abs need
    same = es ∙ ap nat_abs en

    pub size_upto : size ≤ 400000000000
    size_upto = le_trans (le_of_eq same) hn

    pub share_is : (below : Bool) → below ≡ negative (back64 need) → (part : ℕ) → part ≡ size * weight * factor / (weights * 1000) → (r : ℤ) → mag r < 2 ^ 63 → r ≡ signed below part
        → back64 r ≡ share_of factor need weight weights
    share_is below eb part ep r hr e =
        read w64 r hr ∙ e ∙ ap (signed below) ep
        ∙ sym (sized_share below factor size weight weights)
        ∙ ap (λ (z : ℤ). share_of factor z weight weights) (ap₂ signed (eb ∙ ap negative en) same ∙ sign_size need)

  -- a share is no larger than 10^18
  pub share_size : nat_abs (share_of factor need weight weights) ≤ 4000000000000000000
  unfolding share_of
  share_size =
      le_trans (cut_size (need *ℤ pos weight *ℤ pos factor) (weights * 1000))
      (le_trans (le_of_eq (size_product (need *ℤ pos weight) (pos factor) ∙ ap (λ (n : ℕ). n * factor) (size_product need (pos weight))))
      (product_size factor (nat_abs need) weight weights hn hf hw))

-- ---- rule 6: what a request becomes

-- z in the direction of the mode, or 0
abbrev pub directed : Bool → ℕ → ℤ → ℤ
directed charging R z = with_mode charging (limited R z)

-- against the mode: 0
pub against_is : (charging : Bool) (R : ℕ) (z : ℤ) → (charging ≡ negative z → ⊥) → directed charging R z ≡ pos 0
unfolding with_mode limited
against_is true R (pos n) h = by_size (min n R)
  where
    by_size : (k : ℕ) → cond (lt_z (pos 0) (pos k)) (pos 0) (pos k) ≡ pos 0
    by_size zero = refl
    by_size (suc k) = ap (λ (t : Bool). cond t (pos 0) (pos (suc k))) (lt-ltb 0 (suc k) (omega arith))
against_is true R (negsuc n) h = absurd (h refl)
against_is false R (pos n) h = absurd (h refl)
against_is false R (negsuc n) h = by_size (min (suc n) R)
  where
    by_size : (k : ℕ) → cond (lt_z (neg_ℤ (pos k)) (pos 0)) (pos 0) (neg_ℤ (pos k)) ≡ pos 0
    by_size zero = refl
    by_size (suc k) = refl

-- with the mode: limited, and kept
pub with_is : (charging : Bool) (R : ℕ) (z : ℤ) → charging ≡ negative z → directed charging R z ≡ limited R z
unfolding with_mode limited
with_is true R (pos n) h = absurd (passed_failed refl h)
with_is true R (negsuc n) h = by_size (min (suc n) R)
  where
    by_size : (k : ℕ) → cond (lt_z (pos 0) (neg_ℤ (pos k))) (pos 0) (neg_ℤ (pos k)) ≡ neg_ℤ (pos k)
    by_size zero = refl
    by_size (suc k) = refl
with_is false R (pos n) h = ap (λ (t : Bool). cond t (pos 0) (pos (min n R))) (leb-suc-zero (min n R))
with_is false R (negsuc n) h = absurd (passed_failed h refl)

pub limited_small : (R : ℕ) (z : ℤ) → nat_abs z ≤ R → limited R z ≡ signed (negative z) (nat_abs z)
unfolding limited
limited_small R z h = ap (signed (negative z)) (min-eq_left h)

pub limited_large : (R : ℕ) (z : ℤ) → R < nat_abs z → limited R z ≡ signed (negative z) R
unfolding limited
limited_large R z h = ap (signed (negative z)) (min-eq_right (le_of_lt h))

-- two flags that differ, and two that do not
flags_differ : (a b : Bool) → not (beq a b) ≡ true → a ≡ b → ⊥
flags_differ true true e p = passed_failed e refl
flags_differ true false e p = passed_failed refl p
flags_differ false true e p = passed_failed p refl
flags_differ false false e p = passed_failed e refl

flags_same : (a b : Bool) → not (beq a b) ≡ false → a ≡ b
flags_same true true e = refl
flags_same true false e = absurd (passed_failed refl e)
flags_same false true e = absurd (passed_failed refl e)
flags_same false false e = refl

-- the code's way: z by its sign and its size
module _ (charging : Bool) (R : ℕ) (z : ℤ) (hR : R ≤ 100000000) (hz : mag z < 2 ^ 63) (neg : Bool) (en : neg ≡ negative (back64 z)) where
  neg_is : neg ≡ negative z
  neg_is = en ∙ ap negative (read w64 z hz)

  pub turned_is : not (beq charging neg) ≡ true → pos 0 ≡ directed charging R z
  turned_is t = sym (against_is charging R z (λ e. flags_differ charging neg t (e ∙ sym neg_is)))

  module _ (t : not (beq charging neg) ≡ false) where
    way : charging ≡ negative z
    way = flags_same charging neg t ∙ neg_is

    pub large_fits : SFits w32 (signed charging R)
    large_fits = signed_fits w32 charging R (lt_of_le_of_lt hR (lit< tt))

    module _ (size : ℕ) (ez : size ≡ nat_abs (back64 z)) where
      size_is : size ≡ nat_abs z
      size_is = ez ∙ ap nat_abs (read w64 z hz)

      pub small_fits : size ≤ R → SFits w32 (signed charging size)
      small_fits l = signed_fits w32 charging size (lt_of_le_of_lt (le_trans l hR) (lit< tt))

      pub small_is : size ≤ R → (r : ℤ) → mag r < 2 ^ 31 → r ≡ signed charging size → back32 r ≡ directed charging R z
      small_is l r h e =
          read w32 r h ∙ e ∙ ap₂ signed way size_is
          ∙ sym (with_is charging R z way ∙ limited_small R z (subst (λ (n : ℕ). n ≤ R) size_is l))

      pub large_is : R < size → (r : ℤ) → mag r < 2 ^ 31 → r ≡ signed charging R → back32 r ≡ directed charging R z
      large_is l r h e =
          read w32 r h ∙ e ∙ ap (λ (b : Bool). signed b R) way
          ∙ sym (with_is charging R z way ∙ limited_large R z (subst (λ (n : ℕ). R < n) size_is l))

-- the sum of request and share
module _ (charging : Bool) (R : ℕ) (request share : ℤ) (hs : nat_abs share ≤ 4000000000000000000) (hr : mag request < 2 ^ 31) where
  esh : back64 share ≡ share
  esh = read_sized share (lt_of_le_of_lt hs (lit< tt))

  sum_room : nat_abs request + nat_abs share < 2 ^ 63
  sum_room = lt_of_le_of_lt (add-le-add (wide_size request hr) hs) (lit< tt)

  pub sum_fits : SFits w64 (back64 (back32 request) +ℤ back64 share)
  sum_fits = plus_fits w64 request share (back64 (back32 request)) (back64 share) (wide_is request hr) esh sum_room

  sum_is : back64 (back64 (back32 request) +ℤ back64 share) ≡ request +ℤ share
  sum_is = plus_is w64 request share (back64 (back32 request)) (back64 share) (wide_is request hr) esh sum_room

  pub after_is : (way : Bool) → charging ≡ way → (r : ℤ) → mag r < 2 ^ 31 → r ≡ directed way R (back64 (back64 (back32 request) +ℤ back64 share))
      → back32 r ≡ directed charging R (request +ℤ share)
  after_is way t r h e = read w32 r h ∙ e ∙ ap₂ (λ (b : Bool) (z : ℤ). directed b R z) (sym t) sum_is

-- ---- rules 4 and 6: what is unable
module _ (charging : Bool) (rated reserve stored : ℕ) where
  pub full_is : charging ≡ true → eqb stored rated ≡ unable charging rated reserve stored
  unfolding unable
  full_is e = sym (ap (λ (t : Bool). cond t (eqb stored rated) (leb stored reserve)) e)

  pub empty_is : charging ≡ false → leb stored reserve ≡ unable charging rated reserve stored
  unfolding unable
  empty_is e = sym (ap (λ (t : Bool). cond t (eqb stored rated) (leb stored reserve)) e)

-- ---- rule 6 at one unit, from what the code's parts gave
pub unit_is : (charging : Bool) (factor : ℕ) (need : ℤ) (all R weight : ℕ) (old part r : ℤ) → mag old < 2 ^ 31 → mag part < 2 ^ 63 → mag r < 2 ^ 31
    → part ≡ share_of factor need weight all → r ≡ with_mode charging (limited R (back32 old +ℤ back64 part))
    → back32 r ≡ unit_after charging factor need all R weight old
unfolding unit_after
unit_is charging factor need all R weight old part r ho hp hr ep er =
    read w32 r hr ∙ er
    ∙ ap₂ (λ (x y : ℤ). with_mode charging (limited R (x +ℤ y))) (read w32 old ho) (read w64 part hp ∙ ep)
