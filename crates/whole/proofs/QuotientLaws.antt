-- The laws by which callers know a quotient, and what the code's way of rounding up gives. Assumes nothing.
use mathlib.Core.Path.{◌≡◌, refl, sym, ap, ◌∙◌, subst⁻¹}
use Prim.Native.Nat.{ℕ, zero, suc, ◌+◌, ◌-◌, ◌*◌, ◌/◌, ◌%◌, ◌^◌, ◌≤◌, ◌<◌, zero-le}
use lib.IntN.{ℤ, pos, negsuc, neg_ℤ, nat_abs}
use mir.Syntax.{Width}
use mir.Val.{SFits, hbits, to_z, of_z}
use mir.ValLaws.{to_z-of_z}
use mathlib.Core.Bool.{Bool, true}
use lib.Signed.{mag}
use mathlib.Core.Logic.{◌↔◌}
use native.Mathlib.Nat.{div-lt_iff_lt-mul, le-div_iff_mul-le, div-add-mod', mul-add-div_right, one-mul, add-zero, mod-lt, div-eq_of_lt, div-zero, div-le_self, suc-mul, mul-le-mul_left, mul-le-mul_right, lt_of_le_of_lt, le_of_suc-le-suc, le_trans, le_of_eq}
use native.Mathlib.Omega.{arith}
use Rattle.whole.proofs.SignLaws.{size_signed}
use Rattle.whole.specs.Quotient.{ceil, cut}
use Rattle.whole.specs.Signed.{negative, signed}

-- ⌊a/b⌋ ≥ c exactly when a ≥ c × b
pub floor_from : {a b c : ℕ} → 0 < b → (c ≤ a / b) ↔ (c * b ≤ a)
floor_from h = le-div_iff_mul-le h

-- ⌊a/b⌋ ≤ c exactly when a ≤ (c + 1) × b - 1
pub floor_upto : (a b c : ℕ) → 0 < b → (a / b ≤ c) ↔ (a ≤ (c + 1) * b - 1)
floor_upto a b c h = (there, back)
  where
    there : a / b ≤ c → a ≤ (c + 1) * b - 1
    there l =
        let k : a / b < c + 1 = omega arith in
        let m : a < (c + 1) * b = (div-lt_iff_lt-mul h).0 k in
        omega arith

    some : 0 < (c + 1) * b
    some = let m : 1 * b ≤ (c + 1) * b = mul-le-mul_right b (omega arith) in omega arith

    back : a ≤ (c + 1) * b - 1 → a / b ≤ c
    back l =
        let z : 0 < (c + 1) * b = some in
        let m : a < (c + 1) * b = omega arith in
        let k : a / b < c + 1 = (div-lt_iff_lt-mul h).1 m in
        omega arith

-- ⌈a/b⌉ ≤ c exactly when a ≤ c × b
pub ceil_upto : {a b c : ℕ} → 0 < b → (ceil a b ≤ c) ↔ (a ≤ c * b)
unfolding ceil
ceil_upto {a} {b} {c} h = (there, back)
  where
    there : (a + (b - 1)) / b ≤ c → a ≤ c * b
    there l =
        let k : (a + (b - 1)) / b < suc c = omega arith in
        let m : a + (b - 1) < suc c * b = (div-lt_iff_lt-mul h).0 k in
        let e : suc c * b ≡ c * b + b = suc-mul c b in
        omega arith

    back : a ≤ c * b → (a + (b - 1)) / b ≤ c
    back l =
        let e : suc c * b ≡ c * b + b = suc-mul c b in
        let m : a + (b - 1) < suc c * b = omega arith in
        let k : (a + (b - 1)) / b < suc c = (div-lt_iff_lt-mul h).1 m in
        omega arith

-- rounding up by the remainder
module _ (a b : ℕ) (h : 0 < b) where
  split : a + (b - 1) ≡ a / b * b + (a % b + (b - 1))
  split =
      let e : a / b * b + a % b ≡ a = div-add-mod' a b in
      omega arith

  pub ceil_exact : a % b ≡ 0 → a / b ≡ ceil a b
  unfolding ceil
  ceil_exact z =
      let l : a % b + (b - 1) < b = omega arith in
      sym (ap (λ (n : ℕ). n / b) split ∙ mul-add-div_right h (a / b) (a % b + (b - 1)) ∙ ap (λ (n : ℕ). a / b + n) (div-eq_of_lt l) ∙ add-zero (a / b))

  pub ceil_more : (a % b ≡ 0 → ⊥) → a / b + 1 ≡ ceil a b
  unfolding ceil
  ceil_more z =
      let m : a % b < b = mod-lt a h in
      let p : a % b + (b - 1) ≡ 1 * b + (a % b - 1) = (let o : 1 * b ≡ b = one-mul b in omega arith) in
      let l : a % b - 1 < b = omega arith in
      sym (ap (λ (n : ℕ). n / b) split
      ∙ mul-add-div_right h (a / b) (a % b + (b - 1))
      ∙ ap (λ (n : ℕ). a / b + n / b) p
      ∙ ap (λ (n : ℕ). a / b + n) (mul-add-div_right h 1 (a % b - 1) ∙ ap (λ (n : ℕ). 1 + n) (div-eq_of_lt l)))

  -- a remainder means a divisor above 1, so the quotient is well below a
  pub ceil_below : (a % b ≡ 0 → ⊥) → a / b + 1 ≤ a
  ceil_below z =
      let m : a % b < b = mod-lt a h in
      let e : a / b * b + a % b ≡ a = div-add-mod' a b in
      let l : a / b * 2 ≤ a / b * b = mul-le-mul_left (a / b) two in
      omega arith
    where
      two : 2 ≤ b
      two = let m : a % b < b = mod-lt a h in omega arith

-- no divisor: 0
pub ceil_none : (a b : ℕ) → b ≡ 0 → 0 ≡ ceil a b
unfolding ceil
ceil_none a b e = sym (ap (λ (n : ℕ). (a + (b - 1)) / n) e ∙ div-zero (a + (b - 1)))

-- ---- cut toward zero
pub cut_none : (z : ℤ) (b : ℕ) → b ≡ 0 → pos 0 ≡ cut z b
unfolding cut
cut_none (pos a) b e = sym (ap pos (ap (λ (n : ℕ). a / n) e ∙ div-zero a))
cut_none (negsuc a) b e = sym (ap (λ (n : ℕ). neg_ℤ (pos n)) (ap (λ (n : ℕ). suc a / n) e ∙ div-zero (suc a)))

-- by sign and size
cut_by_size : (z : ℤ) (b : ℕ) → cut z b ≡ signed (negative z) (nat_abs z / b)
unfolding cut
cut_by_size (pos a) b = refl
cut_by_size (negsuc a) b = refl

size_fits : (w : Width) (z : ℤ) (b : ℕ) → SFits w z → SFits w (signed (negative z) (nat_abs z / b))
size_fits w (pos a) b f = record { sfits = lt_of_le_of_lt (div-le_self a b) f.sfits }
size_fits w (negsuc a) b f = go (suc a / b) (div-le_self (suc a) b)
  where
    go : (q : ℕ) → q ≤ suc a → SFits w (neg_ℤ (pos q))
    go zero l = record { sfits = lt_of_le_of_lt zero-le f.sfits }
    go (suc q) l = record { sfits = lt_of_le_of_lt (le_of_suc-le-suc l) f.sfits }

-- what the code has: sign and size of the number that is read back from z's bits
module _ (w : Width) (z : ℤ) (b : ℕ) (f : SFits w z) (n : Bool) (s : ℕ) (sign : n ≡ negative (to_z w (of_z w z))) (size : s ≡ nat_abs (to_z w (of_z w z))) where
  is_cut : signed n (s / b) ≡ cut z b
  is_cut = cc (cut_by_size z b, to_z-of_z w z f)

  pub cut_fits : SFits w (signed n (s / b))
  cut_fits = subst⁻¹ (SFits w) (is_cut ∙ cut_by_size z b) (size_fits w z b f)

  pub cut_is : (r : ℤ) → mag r < 2 ^ hbits w → r ≡ signed n (s / b) → to_z w (of_z w r) ≡ cut z b
  cut_is r ok e = to_z-of_z w r (record { sfits = ok }) ∙ e ∙ is_cut

-- a quotient is no larger than what is divided
pub cut_size : (z : ℤ) (b : ℕ) → nat_abs (cut z b) ≤ nat_abs z
unfolding cut
cut_size (pos a) b = div-le_self a b
cut_size (negsuc a) b = le_trans (le_of_eq (size_signed true (suc a / b))) (div-le_self (suc a) b)
