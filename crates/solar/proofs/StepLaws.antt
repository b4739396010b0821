-- One step, from what the code has: the factor, DC power, on or off, and then nothing, or watts and vars. Assumes nothing.
use mathlib.Core.Path.{◌≡◌, refl, sym, ap, ap₂, ◌∙◌}
use mathlib.Core.Bool.{Bool, true, false, not}
use mathlib.Core.List.{List}
use Prim.Native.Nat.{ℕ, ◌*◌, ◌/◌, ◌^◌, ◌≤◌, ◌<◌, min}
use native.Mathlib.Nat.{le_trans, le_of_eq, lt_of_le_of_lt}
use lib.Dec.{lit<}
use lib.IntN.{ℤ, pos, nat_abs}
use lib.Signed.{mag}
use mir.Syntax.{w32, w64}
use mir.Val.{to_z, of_z}
use mir.ValLaws.{to_z_pos}
use borrow.Author.Tests.{not-true, not-false}
use Rattle.whole.proofs.CircleLaws.{watts_most}
use Rattle.whole.proofs.SignLaws.{read}
use Rattle.whole.specs.Circle.{watts_in}
use Rattle.curve.specs.Curve.{Point, curve_at}
use Rattle.curve.specs.Layout.{points_at}
use Rattle.curve.specs.Posts.{Usable}
use Rattle.curve.proofs.LineFits.{back64, wide, small_wide}
use Rattle.solar.specs.declared.Inverter.{Inverter}
use Rattle.solar.specs.declared.Sun.{Sun}
use Rattle.solar.specs.Roof.{Roof}
use Rattle.solar.specs.Step.{dc_of, on_after, limit_of, ac_of, limited_vars, watts_of, vars_of, given, given_by, step_of}
use Rattle.solar.specs.Posts.{roof_by, Roofed, Shining}
use Rattle.solar.proofs.RoofLaws.{Ranged, ranged, warm_usable}
use Rattle.solar.proofs.PowerLaws.{dc_most, load_small}

-- what is given, on and off
when_on : (r : Roof) (dc : ℕ) → given_by r true dc ≡ given true (pos (watts_of r dc)) (vars_of r.inverter (watts_of r dc)) dc
unfolding given_by
when_on r dc = refl

when_off : (r : Roof) (dc : ℕ) → given_by r false dc ≡ given false (pos 0) (pos 0) dc
unfolding given_by
when_off r dc = refl

-- the factor of the temperature, which was widened
module _ (points : List Point) (s : Sun) (shining : Shining s) (factor : ℕ) (factor-read : factor ≡ nat_abs (curve_at points (wide s.temperature))) where
  pub factor_is : factor ≡ nat_abs (curve_at points s.temperature)
  factor_is = factor-read ∙ ap (λ (z : ℤ). nat_abs (curve_at points z)) (small_wide s.temperature shining.temperature_small)

-- a roof and a sun in their ranges
module _ (v : Inverter) (bytes : List ℕ) (warm efficiency : ℕ) (roofed : Roofed v bytes warm efficiency) (s : Sun) (shining : Shining s) where
  abbrev roof : Roof
  roof = roof_by v bytes warm efficiency

  bounds : Ranged roof
  bounds = ranged roof roofed.roof_in_is

  pub dc_asks : (v.array ≤ 100000000) × (Shining s × (Usable bytes warm × (nat_abs (curve_at (points_at bytes warm) s.temperature) ≤ 20000)))
  dc_asks = (bounds.array_most, (shining, (warm_usable v bytes warm efficiency roofed, bounds.factor_most s.temperature)))

  -- DC power
  module _ (dc : ℕ) (dc-made : dc ≡ v.array * s.irradiance / 1000 * nat_abs (curve_at (points_at bytes warm) s.temperature) / 10000) where
    dc_is : dc ≡ dc_of roof s
    unfolding dc_of
    dc_is = dc-made

    pub dc_small : dc ≤ 20000000000000
    dc_small =
        le_trans (le_of_eq dc-made)
        (dc_most v.array s.irradiance (nat_abs (curve_at (points_at bytes warm) s.temperature)) bounds.array_most shining.irradiance_small (bounds.factor_most s.temperature))

    pub load_asks : (1 ≤ v.kva) × (dc ≤ 20000000000000)
    load_asks = (bounds.kva_least, dc_small)

    -- the efficiency, where it is read
    module _ (x : ℤ) (x-made : x ≡ pos (dc * 1000 / v.kva)) (share : ℕ) (share-read : share ≡ nat_abs (curve_at (points_at bytes efficiency) (back64 x))) where
      share_is : share ≡ nat_abs (curve_at (points_at bytes efficiency) (pos (dc * 1000 / v.kva)))
      share_is =
          share-read
          ∙ ap (λ (z : ℤ). nat_abs (curve_at (points_at bytes efficiency) (back64 z))) x-made
          ∙ ap (λ (z : ℤ). nat_abs (curve_at (points_at bytes efficiency) z)) (read w64 (pos (dc * 1000 / v.kva)) (load_small dc v.kva dc_small))

      pub ac_asks : (v.array ≤ 100000000) × ((v.limit ≤ 10000) × ((share ≤ 10000) × (dc ≤ 20000000000000)))
      ac_asks =
          let small : share ≤ 10000 = le_trans (le_of_eq share_is) (bounds.efficiency_most (pos (dc * 1000 / v.kva))) in
          (bounds.array_most, (bounds.limit_most, (small, dc_small)))

    -- on or off
    module _ (on after : Bool) (after_is : after ≡ on_after v on dc) where
      step_by : given_by roof after dc ≡ step_of roof on s
      unfolding step_of
      step_by = ap (λ (a : Bool). given_by roof a dc) after_is ∙ ap (λ (d : ℕ). given_by roof (on_after v on d) d) dc_is

      pub off_is : not after ≡ true → given false (pos 0) (pos 0) dc ≡ step_of roof on s
      off_is t = sym (ap (λ (a : Bool). given_by roof a dc) (not-true after t) ∙ when_off roof dc) ∙ step_by

      module _ (x : ℤ) (x-made : x ≡ pos (dc * 1000 / v.kva)) (share : ℕ) (share-read : share ≡ nat_abs (curve_at (points_at bytes efficiency) (back64 x)))
          (ac watts : ℕ) (ac-is : ac ≡ min (dc * share / 10000) (limit_of v)) (watts_is : watts ≡ watts_in v.kva v.priority (limited_vars v) ac) where
        watts_of_lem : watts ≡ watts_of roof dc
        unfolding watts_of ac_of
        watts_of_lem =
            watts_is
            ∙ ap (watts_in v.kva v.priority (limited_vars v)) (ac-is ∙ ap (λ (e : ℕ). min (dc * e / 10000) (limit_of v)) (share_is x x-made share share-read))

        pub vars_asks : nat_abs v.var_request ≤ 100000000
        vars_asks = bounds.vars_most

        -- watts are no more than S, which 32 bits hold
        pub watts_small : watts < 2 ^ 31
        watts_small =
            lt_of_le_of_lt (le_trans (le_of_eq watts_is) (le_trans (watts_most v.kva v.priority (limited_vars v) ac).1 bounds.kva_most)) (lit< tt)

        pub on_is : not after ≡ false → (vars : ℤ) → mag vars < 2 ^ 31 → vars ≡ vars_of v watts
            → given true (to_z w32 watts) (to_z w32 (of_z w32 vars)) dc ≡ step_of roof on s
        on_is t vars fits vars_is =
            ap₂ (λ (p q : ℤ). given true p q dc) (to_z_pos w32 watts watts_small) (read w32 vars fits ∙ vars_is)
            ∙ ap (λ (n : ℕ). given true (pos n) (vars_of v n) dc) watts_of_lem
            ∙ sym (when_on roof dc)
            ∙ ap (λ (a : Bool). given_by roof a dc) (sym (not-false after t))
            ∙ step_by
