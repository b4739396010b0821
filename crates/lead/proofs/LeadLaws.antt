-- The vars led, by sign and size: the base times the size of the curve's value, cut, with that value's sign; no more than the base, for a value of at most one.
-- Assumes nothing.
use mathlib.Core.Path.{◌≡◌, refl, sym, ap, ap₂, ◌∙◌}
use mathlib.Core.Bool.{Bool, true, false, cond}
use Prim.Native.Nat.{ℕ, zero, suc, ◌*◌, ◌/◌, ◌^◌, ◌≤◌, ◌<◌}
use native.Mathlib.Nat.{le_refl, le_trans, le_of_eq, lt_of_le_of_lt, mul-le-mul, mul-le-mul_left}
use native.Mathlib.Omega.{arith}
use lib.Dec.{lit<}
use lib.IntN.{ℤ, pos, negsuc, neg_ℤ, nat_abs, ◌*ℤ◌}
use lib.Signed.{mag}
use mir.Syntax.{w32}
use mir.Val.{SFits, to_z, of_z}
use Rattle.whole.proofs.Choice.{by_test}
use Rattle.whole.proofs.LargestLaws.{leg_le}
use Rattle.whole.proofs.SignLaws.{read, sized, size_signed, signed_fits}
use Rattle.whole.specs.Quotient.{cut}
use Rattle.whole.specs.Signed.{negative, signed}
use Rattle.lead.specs.declared.Lead.{Lead}
use Rattle.lead.specs.Lead.{base_of, led_vars, requested_by}

-- ---- the base is at most S
pub base_le : (after : Bool) (S watts : ℕ) → base_of after S watts ≤ S
base_le true S watts = leg_le S watts
base_le false S watts = le_refl S

-- ---- base times y, cut
below : (m : ℕ) → cut (neg_ℤ (pos m)) 10000 ≡ neg_ℤ (pos (m / 10000))
unfolding cut
below zero = refl
below (suc m) = refl

pub cut_product : (b : ℕ) (y : ℤ) → cut (pos b *ℤ y) 10000 ≡ signed (negative y) (b * nat_abs y / 10000)
unfolding cut
cut_product b (pos n) = refl
cut_product b (negsuc n) = below (b * suc n)

pub parts_most : (b n : ℕ) → n ≤ 10000 → b * n / 10000 ≤ b
parts_most b n h = let m : b * n ≤ b * 10000 = mul-le-mul_left b h in omega arith

pub led_most : (b : ℕ) (y : ℤ) → nat_abs y ≤ 10000 → nat_abs (cut (pos b *ℤ y) 10000) ≤ b
led_most b y h = le_trans (le_of_eq (ap nat_abs (cut_product b y) ∙ size_signed (negative y) (b * nat_abs y / 10000))) (parts_most b (nat_abs y) h)

-- ---- from what the code has: the size and the sign of y, read back from its bits
module _ (y : ℤ) (b : ℕ) (small : nat_abs y ≤ 10000) (few : b ≤ 100000000) (h : mag y < 2 ^ 31) (size : ℕ) (es : size ≡ nat_abs (to_z w32 (of_z w32 y))) where
  size_is : size ≡ nat_abs y
  size_is = sized y size h es

  size_most : size ≤ 10000
  size_most = le_trans (le_of_eq size_is) small

  pub product_fits : b * size < 2 ^ 64
  product_fits = lt_of_le_of_lt (mul-le-mul few size_most) (lit< tt)

  parts_small : b * size / 10000 ≤ 100000000
  parts_small = le_trans (parts_most b size size_most) few

  pub parts_fit : b * size / 10000 < 2 ^ 32
  parts_fit = lt_of_le_of_lt parts_small (lit< tt)

  pub signed_small : (n : Bool) → SFits w32 (signed n (b * size / 10000))
  signed_small n = signed_fits w32 n (b * size / 10000) (lt_of_le_of_lt parts_small (lit< tt))

  pub part_is : (n : Bool) → n ≡ negative (to_z w32 (of_z w32 y)) → (r : ℤ) → r ≡ signed n (b * size / 10000) → r ≡ cut (pos b *ℤ y) 10000
  part_is n en r er =
      er
      ∙ ap₂ (λ (t : Bool) (k : ℕ). signed t (b * k / 10000)) (en ∙ ap negative (read w32 y h)) size_is
      ∙ sym (cut_product b y)

-- ---- which vars are requested
module _ (l : Lead) (own last : ℤ) (S watts : ℕ) where
  pub requested_fresh : l.fresh ≡ true → led_vars l S watts ≡ requested_by l own last S watts
  unfolding requested_by
  requested_fresh f = simp f

  pub requested_last : l.fresh ≡ false → l.leads ≡ true → last ≡ requested_by l own last S watts
  unfolding requested_by
  requested_last f d = simp (f, d)

  pub requested_own : l.fresh ≡ false → l.leads ≡ false → own ≡ requested_by l own last S watts
  unfolding requested_by
  requested_own f d = simp (f, d)

  -- and they are small
  pub requested_most : nat_abs own ≤ 100000000 → nat_abs last ≤ 100000000 → nat_abs l.y ≤ 10000 → S ≤ 100000000
      → nat_abs (requested_by l own last S watts) ≤ 100000000
  unfolding requested_by
  requested_most ho hl hy hS =
      by_test (λ (z : ℤ). nat_abs z ≤ 100000000) l.fresh (led_vars l S watts) (cond l.leads last own)
      (λ f. le_trans (led_most (base_of l.after S watts) l.y hy) (le_trans (base_le l.after S watts) hS))
      (λ f. by_test (λ (z : ℤ). nat_abs z ≤ 100000000) l.leads last own (λ d. hl) (λ d. ho))
