-- Sign and size at every width: what the machine's signed operations give on the way from a number to its sign and size, and back.
-- A signed local holds bits, so each value that is read is `to_z w (of_z w z)`, which is z where z fits (`to_z-of_z`). Assumes nothing.
use mathlib.Core.Path.{◌≡◌, refl, sym, ap, ap₂, ◌∙◌, subst, subst⁻¹}
use mathlib.Core.Bool.{Bool, true, false, not}
use Prim.Native.Nat.{ℕ, zero, suc, ◌+◌, ◌-◌, ◌*◌, ◌^◌, ◌≤◌, ◌<◌}
use native.Mathlib.Nat.{zero-add, add_comm, lt_trans, lt-suc_self, le_refl, le_trans, le_of_eq, lt_of_le_of_lt}
use native.Mathlib.Numerals.{add-one}
use native.Mathlib.Omega.{arith}
use lib.IntN.{ℤ, pos, negsuc, neg_ℤ, nat_abs, ◌+ℤ◌, ◌-ℤ◌, ◌*ℤ◌, sub_ℕ}
use lib.Signed.{mag, lt_z, non_neg, nat_abs-le}
use lib.Dec.{T, ltb, leb-suc-zero, lit<}
use borrow.Author.Tests.{le-ltb, ltb-true, not-true, not-false}
use mir.Syntax.{Width, w32, w64}
use mir.Val.{bits, hbits, Fits, SFits, to_z, of_z}
use mir.ValLaws.{to_z-of_z, to_z_pos, half_full, pow-bits}
use Rattle.whole.proofs.Choice.{by_test, passed_failed}
use Rattle.whole.specs.Signed.{negative, signed}

-- ---- a number is its sign and its size
pub sign_size : (z : ℤ) → signed (negative z) (nat_abs z) ≡ z
sign_size (pos n) = refl
sign_size (negsuc n) = refl

pub size_signed : (b : Bool) (n : ℕ) → nat_abs (signed b n) ≡ n
size_signed false n = refl
size_signed true zero = refl
size_signed true (suc n) = refl

-- ---- differences that meet no borrow
sub_one_more : (n : ℕ) → sub_ℕ (suc n) 1 ≡ pos n
sub_one_more n = simp (le-ltb (suc n) 1 (omega arith)) (ap pos less)
  where
    less : suc n - 1 ≡ n
    less = omega arith

-- a difference of two sizes is no larger than both together
size_sub_le : (a b : ℕ) → nat_abs (sub_ℕ a b) ≤ a + b
size_sub_le a b =
    by_test (λ (z : ℤ). nat_abs z ≤ a + b) (ltb a b) (negsuc (b - suc a)) (pos (a - b))
    (λ t. let l : a < b = ltb-true a b t in omega arith)
    (λ t. omega arith)

below_pos : (a : ℕ) → lt_z (pos a) (pos 0) ≡ false
below_pos a = leb-suc-zero a

-- ---- from a number to its size

-- the test `x < 0`
pub sign_is : (w : Width) (x : ℤ) → SFits w x → lt_z (to_z w (of_z w x)) (pos 0) ≡ negative x
sign_is w (pos n) f = ap (λ (z : ℤ). lt_z z (pos 0)) (to_z-of_z w (pos n) f) ∙ below_pos n
sign_is w (negsuc n) f = ap (λ (z : ℤ). lt_z z (pos 0)) (to_z-of_z w (negsuc n) f)

-- -1 - x, as the machine has it
abbrev pub comp : Width → ℤ → ℤ
comp w x = negsuc 0 -ℤ to_z w (of_z w x)

comp_is : (w : Width) (x : ℤ) → SFits w x → lt_z (to_z w (of_z w x)) (pos 0) ≡ true → comp w x ≡ pos (mag x)
comp_is w (pos n) f t = absurd (passed_failed t (sign_is w (pos n) f))
comp_is w (negsuc n) f t = ap (λ (z : ℤ). negsuc 0 -ℤ z) (to_z-of_z w (negsuc n) f) ∙ sub_one_more n

module _ (w : Width) (x : ℤ) (f : SFits w x) (t : lt_z (to_z w (of_z w x)) (pos 0) ≡ true) where
  pub size_sub : SFits w (comp w x)
  size_sub = subst⁻¹ (SFits w) (comp_is w x f t) (record { sfits = f.sfits })

  comp_back : to_z w (of_z w (comp w x)) ≡ pos (mag x)
  comp_back = to_z-of_z w (comp w x) size_sub ∙ comp_is w x f t

  pub size_cast : T (non_neg (to_z w (of_z w (comp w x)))) × Fits w (nat_abs (to_z w (of_z w (comp w x))))
  size_cast = subst⁻¹ (λ (z : ℤ). T (non_neg z) × Fits w (nat_abs z)) comp_back (tt, record { fits = half_full w f.sfits })

  pub size_add : Fits w (nat_abs (to_z w (of_z w (comp w x))) + 1)
  size_add = subst⁻¹ (λ (z : ℤ). Fits w (nat_abs z + 1)) comp_back (record { fits = one_more })
    where
      one_more : mag x + 1 < 2 ^ bits w
      one_more =
          let f : mag x < 2 ^ hbits w = f.sfits in
          let d : 2 ^ bits w ≡ 2 ^ hbits w * 2 = pow-bits w in
          omega arith

  pub size_is : nat_abs (to_z w (of_z w (comp w x))) + 1 ≡ nat_abs x
  size_is = ap (λ (z : ℤ). nat_abs z + 1) comp_back ∙ over x (sym (sign_is w x f) ∙ t)
    where
      over : (z : ℤ) → negative z ≡ true → mag z + 1 ≡ nat_abs z
      over (pos n) e = absurd (passed_failed e refl)
      over (negsuc n) e = add-one n

-- a number from 0 up is its own size
pub size_up : (w : Width) (x : ℤ) → SFits w x → lt_z (to_z w (of_z w x)) (pos 0) ≡ false → T (non_neg (to_z w (of_z w x))) × Fits w (nat_abs (to_z w (of_z w x)))
size_up w (pos n) f t = subst⁻¹ (λ (z : ℤ). T (non_neg z) × Fits w (nat_abs z)) (to_z-of_z w (pos n) f) (tt, record { fits = half_full w f.sfits })
size_up w (negsuc n) f t = absurd (passed_failed (sign_is w (negsuc n) f) t)

-- ---- from a sign and a size to the number

-- not below 0: the size is the number
module _ (w : Width) (b : Bool) (n : ℕ) (t : not b ≡ true) (f : SFits w (signed b n)) where
  pub up_cast : SFits w (pos n)
  up_cast = subst (λ (a : Bool). SFits w (signed a n)) (not-true b t) f

  pub up_is : to_z w n ≡ signed b n
  up_is = to_z_pos w n up_cast.sfits ∙ ap (λ (a : Bool). signed a n) (sym (not-true b t))

-- below 0, and no size: 0
pub none_is : (b : Bool) (n : ℕ) → not b ≡ false → n ≡ 0 → pos 0 ≡ signed b n
none_is b n t z = simp (not-false b t, z)

-- below 0: -1 - (n - 1)
module _ (w : Width) (b : Bool) (n : ℕ) (t : not b ≡ false) (f : SFits w (signed b n)) (p : n ≡ 0 → ⊥) where
  less_fits : n - 1 < 2 ^ hbits w
  less_fits = go n p (subst (λ (a : Bool). SFits w (signed a n)) (not-false b t) f)
    where
      go : (m : ℕ) → (m ≡ 0 → ⊥) → SFits w (signed true m) → m - 1 < 2 ^ hbits w
      go zero q g = absurd (q refl)
      go (suc m) q g = let l : m < 2 ^ hbits w = g.sfits in omega arith

  pub down_cast : SFits w (pos (n - 1))
  down_cast = record { sfits = less_fits }

  turned : negsuc 0 -ℤ to_z w (n - 1) ≡ signed b n
  turned = ap (λ (z : ℤ). negsuc 0 -ℤ z) (to_z_pos w (n - 1) less_fits) ∙ go n p ∙ ap (λ (a : Bool). signed a n) (sym (not-false b t))
    where
      at : (k : ℕ) → negsuc 0 -ℤ pos k ≡ negsuc k
      at zero = refl
      at (suc k) = ap (λ (i : ℕ). negsuc (suc i)) (zero-add k)

      go : (m : ℕ) → (m ≡ 0 → ⊥) → negsuc 0 -ℤ pos (m - 1) ≡ signed true m
      go zero q = absurd (q refl)
      go (suc m) q = ap (λ (k : ℕ). negsuc 0 -ℤ pos k) less ∙ at m
        where
          less : suc m - 1 ≡ m
          less = omega arith

  pub down_sub : SFits w (negsuc 0 -ℤ to_z w (n - 1))
  down_sub = subst⁻¹ (SFits w) turned f

  pub down_is : to_z w (of_z w (negsuc 0 -ℤ to_z w (n - 1))) ≡ signed b n
  down_is = to_z-of_z w (negsuc 0 -ℤ to_z w (n - 1)) down_sub ∙ turned

-- which numbers a sign and a size may make
pub signed_fits : (w : Width) (b : Bool) (n : ℕ) → n < 2 ^ hbits w → SFits w (signed b n)
signed_fits w false n h = record { sfits = h }
signed_fits w true zero h = record { sfits = h }
signed_fits w true (suc n) h = record { sfits = lt_trans (lt-suc_self n) h }

-- ---- signed numbers in code: what is read back, compared, added, widened

-- a number that fits is read back from its bits
pub read : (w : Width) (z : ℤ) → mag z < 2 ^ hbits w → to_z w (of_z w z) ≡ z
read w z h = to_z-of_z w z (record { sfits = h })

-- and so is its size
pub sized : (z : ℤ) (n : ℕ) → mag z < 2 ^ 31 → n ≡ nat_abs (to_z w32 (of_z w32 z)) → n ≡ nat_abs z
sized z n h e = e ∙ ap nat_abs (read w32 z h)

-- a number whose size is below the half fits
pub size_fits : (w : Width) (z : ℤ) → nat_abs z < 2 ^ hbits w → SFits w z
size_fits w (pos n) h = record { sfits = h }
size_fits w (negsuc n) h = record { sfits = lt_trans (lt-suc_self n) h }

-- the size of a number that fits
pub fits_size : (w : Width) (z : ℤ) → SFits w z → nat_abs z ≤ 2 ^ hbits w
fits_size w z f = nat_abs-le z f.sfits

-- a sum is no larger than the sizes together
pub size_sum : (x y : ℤ) → nat_abs (x +ℤ y) ≤ nat_abs x + nat_abs y
size_sum (pos a) (pos b) = le_refl (a + b)
size_sum (pos a) (negsuc b) = size_sub_le a (suc b)
size_sum (negsuc a) (pos b) = le_trans (size_sub_le b (suc a)) (le_of_eq (add_comm b (suc a)))
size_sum (negsuc a) (negsuc b) = omega arith

-- what the code computes is z: it fits where z's size is below the half, and is read back as z
pub made_fits : (w : Width) (z made : ℤ) → made ≡ z → nat_abs z < 2 ^ hbits w → SFits w made
made_fits w z made e h = subst⁻¹ (SFits w) e (size_fits w z h)

pub made_is : (w : Width) (z made : ℤ) → made ≡ z → nat_abs z < 2 ^ hbits w → to_z w (of_z w made) ≡ z
made_is w z made e h = to_z-of_z w made (made_fits w z made e h) ∙ e

-- a 32-bit number widened to 64 bits
pub wide_fits : (z : ℤ) → mag z < 2 ^ 31 → SFits w64 (to_z w32 (of_z w32 z))
wide_fits z h = subst⁻¹ (SFits w64) (read w32 z h) (record { sfits = lt_trans h (lit< tt) })

pub wide_is : (z : ℤ) → mag z < 2 ^ 31 → to_z w64 (of_z w64 (to_z w32 (of_z w32 z))) ≡ z
wide_is z h = to_z-of_z w64 (to_z w32 (of_z w32 z)) (wide_fits z h) ∙ read w32 z h

pub wide_size : (z : ℤ) → mag z < 2 ^ 31 → nat_abs z ≤ 2147483648
wide_size z h = nat_abs-le z h

-- sums, differences and products of what was read back, where the sizes leave room
pub size_neg : (z : ℤ) → nat_abs (neg_ℤ z) ≡ nat_abs z
size_neg (pos zero) = refl
size_neg (pos (suc n)) = refl
size_neg (negsuc n) = refl

pub size_product : (x y : ℤ) → nat_abs (x *ℤ y) ≡ nat_abs x * nat_abs y
size_product (pos a) (pos b) = refl
size_product (pos a) (negsuc b) = size_neg (pos (a * suc b))
size_product (negsuc a) (pos b) = size_neg (pos (suc a * b))
size_product (negsuc a) (negsuc b) = refl

module _ (w : Width) (x y x' y' : ℤ) (ex : x' ≡ x) (ey : y' ≡ y) where
  module _ (room : nat_abs x + nat_abs y < 2 ^ hbits w) where
    pub plus_fits : SFits w (x' +ℤ y')
    plus_fits = made_fits w (x +ℤ y) (x' +ℤ y') (ap₂ ◌+ℤ◌ ex ey) (lt_of_le_of_lt (size_sum x y) room)

    pub plus_is : to_z w (of_z w (x' +ℤ y')) ≡ x +ℤ y
    plus_is = made_is w (x +ℤ y) (x' +ℤ y') (ap₂ ◌+ℤ◌ ex ey) (lt_of_le_of_lt (size_sum x y) room)

    minus_size : nat_abs (x -ℤ y) < 2 ^ hbits w
    minus_size = lt_of_le_of_lt (size_sum x (neg_ℤ y)) (subst⁻¹ (λ (n : ℕ). nat_abs x + n < 2 ^ hbits w) (size_neg y) room)

    pub minus_fits : SFits w (x' -ℤ y')
    minus_fits = made_fits w (x -ℤ y) (x' -ℤ y') (ap₂ ◌-ℤ◌ ex ey) minus_size

    pub minus_is : to_z w (of_z w (x' -ℤ y')) ≡ x -ℤ y
    minus_is = made_is w (x -ℤ y) (x' -ℤ y') (ap₂ ◌-ℤ◌ ex ey) minus_size

  module _ (room : nat_abs x * nat_abs y < 2 ^ hbits w) where
    times_size : nat_abs (x *ℤ y) < 2 ^ hbits w
    times_size = subst⁻¹ (λ (n : ℕ). n < 2 ^ hbits w) (size_product x y) room

    pub times_fits : SFits w (x' *ℤ y')
    times_fits = made_fits w (x *ℤ y) (x' *ℤ y') (ap₂ ◌*ℤ◌ ex ey) times_size

    pub times_is : to_z w (of_z w (x' *ℤ y')) ≡ x *ℤ y
    times_is = made_is w (x *ℤ y) (x' *ℤ y') (ap₂ ◌*ℤ◌ ex ey) times_size
