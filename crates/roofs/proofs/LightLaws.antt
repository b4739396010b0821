-- One inverter: off in the dark it gives nothing, whatever leads it, and what the code has read where its field stands is its roof. Assumes nothing.
use mathlib.Core.Path.{◌≡◌, refl, sym, ap, ap₂, ◌∙◌, subst⁻¹}
use mathlib.Core.Bool.{Bool, true, false, not, cond, ◌&&◌}
use mathlib.Core.List.{List}
use Prim.Native.Nat.{ℕ, ◌+◌, ◌*◌, ◌^◌, ◌<◌}
use native.Mathlib.Omega.{arith}
use lib.Dec.{eqb, ltb}
use lib.IntN.{ℤ, pos, nat_abs}
use lib.Signed.{mag}
use borrow.Author.Tests.{ltb-true, eqb-true, not-true}
use Rattle.whole.proofs.OverLaws.{and_parts}
use Rattle.parts.specs.Header.{header}
use Rattle.curve.specs.Curve.{curve_at}
use Rattle.lead.specs.declared.Lead.{Lead}
use Rattle.lead.specs.Lead.{requested_by, kept_by}
use Rattle.solar.specs.declared.Inverter.{Inverter}
use Rattle.solar.specs.declared.Sun.{Sun}
use Rattle.solar.specs.declared.Given.{Given}
use Rattle.solar.specs.Roof.{Roof}
use Rattle.solar.specs.Posts.{roof_by, Roofed}
use Rattle.solar.specs.Step.{step_of, dc_of, on_after, given_by, given}
use Rattle.solar.proofs.PowerLaws.{no_sun}
use Rattle.guided.specs.Units.{Guiding}
use Rattle.guided.specs.Roofs.{led_roof, watts_first, requested_of, lit_step, vars_kept}
use Rattle.guided.proofs.SharedLaws.{back, last_back}
use Rattle.guided.proofs.RoofLaws.{none_kept}
use Rattle.fields.specs.Fields.{inverter_at}
use Rattle.roofs.specs.Posts.{roof_here}

-- ---- in the dark: no DC power, which turns no inverter on
still : (v : Inverter) (on : Bool) → on ≡ false → on_after v on 0 ≡ false
unfolding on_after
still v on e = go (ltb (v.cut_in * v.kva) (0 * 10000)) (ltb (0 * 10000) (v.cut_out * v.kva)) refl
  where
    go : (a b : Bool) → ltb (v.cut_in * v.kva) (0 * 10000) ≡ a → cond a true (cond b false on) ≡ false
    go true b t = let l : v.cut_in * v.kva < 0 = ltb-true (v.cut_in * v.kva) 0 t in absurd (omega arith)
    go false true t = refl
    go false false t = e

none_given : (r : Roof) → given_by r false 0 ≡ given false (pos 0) (pos 0) 0
unfolding given_by
none_given r = refl

night : (r : Roof) (on : Bool) (s : Sun) → on ≡ false → s.irradiance ≡ 0 → given false (pos 0) (pos 0) 0 ≡ step_of r on s
unfolding step_of dc_of
night r on s off dark =
    sym (ap (λ (dc : ℕ). given_by r (on_after r.inverter on dc) dc) (no_sun r.inverter.array s.irradiance (nat_abs (curve_at r.warm s.temperature)) dark)
    ∙ ap (λ (b : Bool). given_by r b 0) (still r.inverter on off) ∙ none_given r)

-- so it is with whatever leads it: it gives nothing, and has no watts
module _ (l : Lead) (r : Roof) (on : Bool) (s : Sun) (off : on ≡ false) (dark : s.irradiance ≡ 0) where
  led_night : (last : ℤ) → given false (pos 0) (pos 0) 0 ≡ lit_step l r last on s
  unfolding lit_step
  led_night last = night (led_roof l r (requested_of l r last on s)) on s off dark

  no_watts : watts_first l r on s ≡ 0
  unfolding watts_first
  no_watts = sym (ap (λ (g : Given). nat_abs g.watts) (night (led_roof l r r.inverter.var_request) on s off dark))

-- ---- the inverter and the vars last requested as the code has read them
module _ (bytes : List ℕ) (at : ℕ) (v : Inverter) (e : v ≡ inverter_at bytes (at + header)) where
  abbrev pub read : Roof
  read = roof_by v bytes (at + 25) (at + 157)

  read_is : read ≡ roof_here bytes at
  unfolding roof_here
  read_is = ap (λ (u : Inverter). roof_by u bytes (at + 25) (at + 157)) e

  pub read_roofed : Roofed (inverter_at bytes (at + header)) bytes (at + 25) (at + 157) → Roofed v bytes (at + 25) (at + 157)
  read_roofed = subst⁻¹ (λ (u : Inverter). Roofed u bytes (at + 25) (at + 157)) e

  module _ (l : Lead) (last : ℤ) (g : Guiding l last) (on : Bool) (s : Sun) where
    pub step_here : (x : Given) → x ≡ lit_step l read (back last) on s → x ≡ lit_step l (roof_here bytes at) last on s
    step_here x ex = ex ∙ ap₂ (λ (r : Roof) (z : ℤ). lit_step l r z on s) read_is (last_back l last g)

    pub kept_here : (k : ℤ) → k ≡ vars_kept l read (back last) on s → k ≡ vars_kept l (roof_here bytes at) last on s
    kept_here k ek = ek ∙ ap₂ (λ (r : Roof) (z : ℤ). vars_kept l r z on s) read_is (last_back l last g)

    -- off in the dark
    module _ (h : Roofed v bytes (at + 25) (at + 157)) (t : (not on && eqb s.irradiance 0) ≡ true) where
      night_off : on ≡ false
      night_off = not-true on (and_parts (not on) (eqb s.irradiance 0) t).0

      night_dark : s.irradiance ≡ 0
      night_dark = eqb-true s.irradiance 0 (and_parts (not on) (eqb s.irradiance 0) t).1

      pub night_step : given false (pos 0) (pos 0) 0 ≡ lit_step l (roof_here bytes at) last on s
      night_step = led_night l (roof_here bytes at) on s night_off night_dark last

      pub night_kept : (asked : ℤ) → asked ≡ requested_by l (back v.var_request) (back last) v.kva 0 → (kept : ℤ) → mag kept < 2 ^ 31
          → kept ≡ kept_by l (back last) (back asked) → back kept ≡ vars_kept l (roof_here bytes at) last on s
      night_kept asked ea kept k ek =
          none_kept l read last on s h.roof_in_is g (no_watts l read on s night_off night_dark) asked ea kept k ek ∙ ap (λ (r : Roof). vars_kept l r last on s) read_is
