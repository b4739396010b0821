-- The straight line between two points as the code works it out in 64 bits: sizes up to 10^8 leave room in each operation. Assumes nothing.
use mathlib.Core.Path.{◌≡◌, refl, ap, ap₂, ◌∙◌}
use mathlib.Core.Bool.{true, false}
use Prim.Native.Nat.{ℕ, ◌+◌, ◌*◌, ◌^◌, ◌≤◌, ◌<◌}
use native.Mathlib.Nat.{lt_of_le_of_lt, le_trans, le_of_eq, add-le-add, mul-le-mul}
use native.Mathlib.Omega.{arith}
use lib.Dec.{lit<}
use lib.IntN.{ℤ, pos, negsuc, neg_ℤ, nat_abs, ◌+ℤ◌, ◌-ℤ◌, ◌*ℤ◌}
use lib.Signed.{mag, lt_z}
use borrow.Author.Tests.{ltb-true, ltb-false}
use mir.Syntax.{w32, w64}
use mir.Val.{SFits, to_z, of_z}
use Rattle.whole.specs.Quotient.{cut}
use Rattle.whole.proofs.Choice.{passed_failed}
use Rattle.whole.proofs.QuotientLaws.{cut_size}
use Rattle.whole.proofs.SignLaws.{read, size_fits, size_sum, size_neg, size_product, wide_fits, wide_is, plus_fits, plus_is, minus_fits, minus_is, times_fits, times_is}
use Rattle.curve.specs.Curve.{point, line_at}

-- a number as 32 or 64 bits hold it
abbrev pub back32 : ℤ → ℤ
back32 z = to_z w32 (of_z w32 z)

abbrev pub back64 : ℤ → ℤ
back64 z = to_z w64 (of_z w64 z)

-- a 32-bit number widened
abbrev pub wide : ℤ → ℤ
wide z = back64 (back32 z)

-- no larger than 10^8 in size
abbrev pub Small : ℤ → Type 0
Small z = nat_abs z ≤ 100000000

small_mag : (z : ℤ) → Small z → mag z < 2 ^ 31
small_mag z h = (size_fits w32 z (lt_of_le_of_lt h (lit< tt))).sfits

pub small_fits : (z : ℤ) → Small z → SFits w64 (to_z w32 (of_z w32 z))
small_fits z h = wide_fits z (small_mag z h)

pub small_wide : (z : ℤ) → Small z → wide z ≡ z
small_wide z h = wide_is z (small_mag z h)

small_read : (z : ℤ) → Small z → back64 z ≡ z
small_read z h = read w64 z (size_fits w64 z (lt_of_le_of_lt h (lit< tt))).sfits

-- two such together, and their difference
both : (y z : ℤ) → Small y → Small z → nat_abs y + nat_abs z < 2 ^ 63
both y z hy hz = lt_of_le_of_lt (add-le-add hy hz) (lit< tt)

apart : (y z : ℤ) → Small y → Small z → nat_abs (y -ℤ z) ≤ 200000000
apart y z hy hz = le_trans (size_sum y (neg_ℤ z)) (add-le-add hy (le_trans (le_of_eq (size_neg z)) hz))

-- what lies between two such is one
pub small_between : (px x qx : ℤ) → Small px → Small qx → lt_z x px ≡ false → lt_z x qx ≡ true → Small x
small_between px (pos n) (pos q) hp hq l r = let k : n < q = ltb-true n q r in omega arith
small_between px (pos n) (negsuc q) hp hq l r = absurd (passed_failed r refl)
small_between (pos p) (negsuc n) qx hp hq l r = absurd (passed_failed refl l)
small_between (negsuc p) (negsuc n) qx hp hq l r = let k : n ≤ p = ltb-false p n l in omega arith

-- two points and an x
abbrev pub AllSmall : ℤ → ℤ → ℤ → ℤ → ℤ → Type 0
AllSmall px py qx qy x = Small px × (Small py × (Small qx × (Small qy × Small x)))

module _ (px py qx qy x : ℤ) (h : AllSmall px py qx qy x) where
  hpx : Small px
  hpx = h.0

  hpy : Small py
  hpy = h.1.0

  hqx : Small qx
  hqx = h.1.1.0

  hqy : Small qy
  hqy = h.1.1.1.0

  hx : Small x
  hx = h.1.1.1.1

  -- the difference of the y
  pub high_fits : SFits w64 (wide qy -ℤ wide py)
  high_fits = minus_fits w64 qy py (wide qy) (wide py) (small_wide qy hqy) (small_wide py hpy) (both qy py hqy hpy)

  high_is : back64 (wide qy -ℤ wide py) ≡ qy -ℤ py
  high_is = minus_is w64 qy py (wide qy) (wide py) (small_wide qy hqy) (small_wide py hpy) (both qy py hqy hpy)

  -- how far x is right of the left point
  pub far_fits : SFits w64 (back64 x -ℤ wide px)
  far_fits = minus_fits w64 x px (back64 x) (wide px) (small_read x hx) (small_wide px hpx) (both x px hx hpx)

  far_is : back64 (back64 x -ℤ wide px) ≡ x -ℤ px
  far_is = minus_is w64 x px (back64 x) (wide px) (small_read x hx) (small_wide px hpx) (both x px hx hpx)

  -- how far the right point is
  pub run_fits : SFits w64 (wide qx -ℤ wide px)
  run_fits = minus_fits w64 qx px (wide qx) (wide px) (small_wide qx hqx) (small_wide px hpx) (both qx px hqx hpx)

  run_is : back64 (wide qx -ℤ wide px) ≡ qx -ℤ px
  run_is = minus_is w64 qx px (wide qx) (wide px) (small_wide qx hqx) (small_wide px hpx) (both qx px hqx hpx)

  -- the product
  abbrev high' : ℤ
  high' = back64 (wide qy -ℤ wide py)

  abbrev far' : ℤ
  far' = back64 (back64 x -ℤ wide px)

  product_size : nat_abs (qy -ℤ py) * nat_abs (x -ℤ px) ≤ 200000000 * 200000000
  product_size = mul-le-mul (apart qy py hqy hpy) (apart x px hx hpx)

  product_room : nat_abs (qy -ℤ py) * nat_abs (x -ℤ px) < 2 ^ 63
  product_room = lt_of_le_of_lt product_size (lit< tt)

  pub rise_fits : SFits w64 (high' *ℤ far')
  rise_fits = times_fits w64 (qy -ℤ py) (x -ℤ px) high' far' high_is far_is product_room

  rise_is : back64 (high' *ℤ far') ≡ (qy -ℤ py) *ℤ (x -ℤ px)
  rise_is = times_is w64 (qy -ℤ py) (x -ℤ px) high' far' high_is far_is product_room

  -- the quotient
  module _ (run : ℕ) (part : ℤ) (er : run ≡ nat_abs (back64 (wide qx -ℤ wide px))) (ok : mag part < 2 ^ 63)
      (ep : part ≡ cut (back64 (high' *ℤ far')) run) where
    part_is : part ≡ cut ((qy -ℤ py) *ℤ (x -ℤ px)) (nat_abs (qx -ℤ px))
    part_is = ep ∙ ap₂ cut rise_is (er ∙ ap nat_abs run_is)

    part_size_lem : nat_abs part ≤ 200000000 * 200000000
    part_size_lem =
        le_trans (le_of_eq (ap nat_abs part_is))
        (le_trans (cut_size ((qy -ℤ py) *ℤ (x -ℤ px)) (nat_abs (qx -ℤ px)))
        (le_trans (le_of_eq (size_product (qy -ℤ py) (x -ℤ px))) product_size))

    sum_room : nat_abs py + nat_abs part < 2 ^ 63
    sum_room = lt_of_le_of_lt (add-le-add hpy part_size_lem) (lit< tt)

    pub line_fits : SFits w64 (wide py +ℤ back64 part)
    line_fits = plus_fits w64 py part (wide py) (back64 part) (small_wide py hpy) (read w64 part ok) sum_room

    pub line_is : back64 (wide py +ℤ back64 part) ≡ line_at (point px py) (point qx qy) x
    unfolding line_at
    line_is = plus_is w64 py part (wide py) (back64 part) (small_wide py hpy) (read w64 part ok) sum_room ∙ ap (λ (z : ℤ). py +ℤ z) part_is
