-- The powers of a step as the code works them out in 64 bits: values in their ranges leave room in each operation. Assumes nothing.
use mathlib.Core.Path.{◌≡◌, sym, ap, ◌∙◌}
use mathlib.Core.Bool.{Bool, true, false, cond}
use Prim.Native.Nat.{ℕ, ◌*◌, ◌/◌, ◌^◌, ◌≤◌, ◌<◌, min}
use native.Mathlib.Nat.{le_trans, lt_of_le_of_lt, mul-le-mul, mul-zero, zero-mul, zero-div, div-le_self}
use native.Mathlib.Omega.{arith}
use lib.Dec.{ltb, lit<}
use lib.IntN.{ℤ}
use lib.Signed.{mag}
use mir.Syntax.{w32}
use mir.Val.{to_z, of_z}
use borrow.Author.Tests.{lt-ltb, le-ltb}
use Rattle.whole.proofs.SignLaws.{read}
use Rattle.whole.specs.Circle.{vars_in}
use Rattle.whole.specs.Signed.{negative}
use Rattle.solar.specs.declared.Inverter.{Inverter}
use Rattle.solar.specs.Step.{on_after, limited_vars, vars_of}

-- ---- DC power
module _ (array irradiance factor : ℕ) (ha : array ≤ 100000000) (hi : irradiance ≤ 100000000) where
  pub light_most : array * irradiance ≤ 10000000000000000
  light_most = mul-le-mul ha hi

  pub warmed_most : factor ≤ 20000 → array * irradiance / 1000 * factor ≤ 200000000000000000
  warmed_most hf =
      let l : array * irradiance ≤ 10000000000000000 = light_most in
      let q : array * irradiance / 1000 ≤ 10000000000000 = omega arith in
      mul-le-mul q hf

  pub dc_most : factor ≤ 20000 → array * irradiance / 1000 * factor / 10000 ≤ 20000000000000
  dc_most hf = let m : array * irradiance / 1000 * factor ≤ 200000000000000000 = warmed_most hf in omega arith

-- in the dark there is none, whatever the factor
pub no_sun : (array irradiance factor : ℕ) → irradiance ≡ 0 → array * irradiance / 1000 * factor / 10000 ≡ 0
no_sun array irradiance factor e = ap (λ (n : ℕ). array * n / 1000 * factor / 10000) e ∙ simp (mul-zero array, zero-div 1000, zero-mul factor)

-- ---- on or off, by the tests that the code makes
module _ (v : Inverter) (on : Bool) (dc : ℕ) where
  pub on_above : v.cut_in * v.kva < dc * 10000 → true ≡ on_after v on dc
  unfolding on_after
  on_above h =
      sym (ap (λ (t : Bool). cond t true (cond (ltb (dc * 10000) (v.cut_out * v.kva)) false on)) (lt-ltb (v.cut_in * v.kva) (dc * 10000) h))

  not_above : dc * 10000 ≤ v.cut_in * v.kva → on_after v on dc ≡ cond (ltb (dc * 10000) (v.cut_out * v.kva)) false on
  unfolding on_after
  not_above h =
      ap (λ (t : Bool). cond t true (cond (ltb (dc * 10000) (v.cut_out * v.kva)) false on)) (le-ltb (v.cut_in * v.kva) (dc * 10000) h)

  pub off_below : dc * 10000 ≤ v.cut_in * v.kva → dc * 10000 < v.cut_out * v.kva → false ≡ on_after v on dc
  off_below h k = sym (not_above h ∙ ap (λ (t : Bool). cond t false on) (lt-ltb (dc * 10000) (v.cut_out * v.kva) k))

  pub as_it_was : dc * 10000 ≤ v.cut_in * v.kva → v.cut_out * v.kva ≤ dc * 10000 → on ≡ on_after v on dc
  as_it_was h k = sym (not_above h ∙ ap (λ (t : Bool). cond t false on) (le-ltb (dc * 10000) (v.cut_out * v.kva) k))

-- a part in 10,000 of S, as 64 bits hold it
pub part_fits : (part kva : ℕ) → part < 2 ^ 16 → kva < 2 ^ 32 → part * kva < 2 ^ 64
part_fits part kva hp hk =
    let p : part ≤ 65535 = omega arith in
    let k : kva ≤ 4294967295 = omega arith in
    lt_of_le_of_lt (mul-le-mul p k) (lit< tt)

-- ---- where the efficiency curve is read
pub load_small : (dc kva : ℕ) → dc ≤ 20000000000000 → dc * 1000 / kva < 2 ^ 63
load_small dc kva h = let m : dc * 1000 ≤ 20000000000000000 = omega arith in lt_of_le_of_lt (le_trans (div-le_self (dc * 1000) kva) m) (lit< tt)

-- ---- AC power
pub limit_small : (array limit : ℕ) → array ≤ 100000000 → limit ≤ 10000 → array * limit ≤ 1000000000000
limit_small array limit ha hl = mul-le-mul ha hl

pub turned_small : (dc efficiency : ℕ) → dc ≤ 20000000000000 → efficiency ≤ 10000 → dc * efficiency ≤ 200000000000000000
turned_small dc efficiency hd he = mul-le-mul hd he

pub ac_small : (x array limit n : ℕ) → array ≤ 100000000 → limit ≤ 10000 → n ≡ min x (array * limit / 10000) → n ≤ 100000000
ac_small x array limit n ha hl e = let m : array * limit ≤ 1000000000000 = limit_small array limit ha hl in omega arith

-- ---- the vars, from what the code has
pub vars_are : (v : Inverter) (watts : ℕ) → mag v.var_request < 2 ^ 31 → (below : Bool) (size : ℕ) (vars : ℤ)
    → below ≡ negative (to_z w32 (of_z w32 v.var_request)) → size ≡ limited_vars v → vars ≡ vars_in v.kva below size watts → vars ≡ vars_of v watts
unfolding vars_of
vars_are v watts h below size vars eb es e = cc (read w32 v.var_request h)
