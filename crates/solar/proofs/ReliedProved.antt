-- What a planner relies on: a step is on or off, off gives nothing, and on gives watts and vars of the circle. Assumes nothing.
use mathlib.Core.Path.{◌≡◌, refl, sym, ◌∙◌}
use mathlib.Core.Bool.{Bool, true, false, cond}
use Prim.Native.Nat.{ℕ, ◌+◌, ◌*◌, ◌/◌, ◌≤◌, ◌<◌, zero-le}
use native.Mathlib.Nat.{le_trans, mul-le-mul_left, mul-le-mul_right, min-le_left, min-le_right}
use native.Mathlib.Omega.{arith}
use lib.Dec.{ltb}
use lib.IntN.{pos, nat_abs}
use borrow.Author.Tests.{ltb-true}
use Rattle.whole.proofs.Choice.{by_test, passed_failed}
use Rattle.whole.proofs.CircleLaws.{watts_most, in_circle_lem}
use Rattle.whole.specs.Signed.{negative}
use Rattle.curve.specs.Curve.{curve_at}
use Rattle.solar.specs.declared.Inverter.{Inverter}
use Rattle.solar.specs.declared.Sun.{Sun}
use Rattle.solar.specs.declared.Given.{Given}
use Rattle.solar.specs.Roof.{Roof}
use Rattle.solar.specs.Weather.{sun}
use Rattle.solar.specs.Step.{dc_of, on_after, limit_of, ac_of, limited_vars, watts_of, vars_of, given, given_by, step_of}
use Rattle.solar.specs.Relied.{ReliedTheorem}
use Rattle.solar.proofs.RoofLaws.{Ranged, ranged}
use Rattle.solar.proofs.PowerLaws.{as_it_was}

-- ---- on and off
module _ (v : Inverter) (on : Bool) (dc : ℕ) where
  pub turned_on : on ≡ false → on_after v on dc ≡ true → v.cut_in * v.kva < dc * 10000
  unfolding on_after
  turned_on off e = go (ltb (v.cut_in * v.kva) (dc * 10000)) refl (ltb (dc * 10000) (v.cut_out * v.kva)) e
    where
      go : (a : Bool) → ltb (v.cut_in * v.kva) (dc * 10000) ≡ a → (b : Bool) → cond a true (cond b false on) ≡ true → v.cut_in * v.kva < dc * 10000
      go true t b e = ltb-true (v.cut_in * v.kva) (dc * 10000) t
      go false t true e = absurd (passed_failed e refl)
      go false t false e = absurd (passed_failed e off)

  pub turned_off : on ≡ true → on_after v on dc ≡ false → dc * 10000 < v.cut_out * v.kva
  unfolding on_after
  turned_off was e = go (ltb (v.cut_in * v.kva) (dc * 10000)) (ltb (dc * 10000) (v.cut_out * v.kva)) refl e
    where
      go : (a b : Bool) → ltb (dc * 10000) (v.cut_out * v.kva) ≡ b → cond a true (cond b false on) ≡ false → dc * 10000 < v.cut_out * v.kva
      go true b t e = absurd (passed_failed refl e)
      go false true t e = ltb-true (dc * 10000) (v.cut_out * v.kva) t
      go false false t e = absurd (passed_failed was e)

-- ---- AC power is no more than DC power, nor than the limit
module _ (r : Roof) (dc : ℕ) where
  ac_dc : Ranged r → ac_of r dc ≤ dc
  unfolding ac_of
  ac_dc b =
      let e = nat_abs (curve_at r.efficiency (pos (dc * 1000 / r.inverter.kva))) in
      let m : dc * e ≤ dc * 10000 = mul-le-mul_left dc (b.efficiency_most (pos (dc * 1000 / r.inverter.kva))) in
      let q : dc * e / 10000 ≤ dc = omega arith in
      le_trans (min-le_left (dc * e / 10000) (limit_of r.inverter)) q

  ac_limit : ac_of r dc ≤ limit_of r.inverter
  unfolding ac_of
  ac_limit = min-le_right (dc * nat_abs (curve_at r.efficiency (pos (dc * 1000 / r.inverter.kva))) / 10000) (limit_of r.inverter)

  watts_ac : (watts_of r dc ≤ ac_of r dc) × (watts_of r dc ≤ r.inverter.kva)
  unfolding watts_of
  watts_ac = watts_most r.inverter.kva r.inverter.priority (limited_vars r.inverter) (ac_of r dc)

  circle : watts_of r dc * watts_of r dc + nat_abs (vars_of r.inverter (watts_of r dc)) * nat_abs (vars_of r.inverter (watts_of r dc)) ≤ r.inverter.kva * r.inverter.kva
  unfolding vars_of
  circle = in_circle_lem r.inverter.kva (negative r.inverter.var_request) (limited_vars r.inverter) (watts_of r dc) watts_ac.1

-- ---- more sun
more_dc : (array factor i j : ℕ) → i ≤ j → array * i / 1000 * factor / 10000 ≤ array * j / 1000 * factor / 10000
more_dc array factor i j h =
    let a : array * i ≤ array * j = mul-le-mul_left array h in
    let q : array * i / 1000 ≤ array * j / 1000 = omega arith in
    let m : array * i / 1000 * factor ≤ array * j / 1000 * factor = mul-le-mul_right factor q in
    omega arith

-- ---- a step is on or off
module _ (r : Roof) (on : Bool) (s : Sun) where
  abbrev dc' : ℕ
  dc' = dc_of r s

  by_state : (P : Given → Type 0)
      → (on_after r.inverter on dc' ≡ true → P (given true (pos (watts_of r dc')) (vars_of r.inverter (watts_of r dc')) dc'))
      → (on_after r.inverter on dc' ≡ false → P (given false (pos 0) (pos 0) dc'))
      → P (step_of r on s)
  unfolding step_of given_by
  by_state P f g =
      by_test P (on_after r.inverter on dc') (given true (pos (watts_of r dc')) (vars_of r.inverter (watts_of r dc')) dc') (given false (pos 0) (pos 0) dc') f g

  state : (step_of r on s).on ≡ on_after r.inverter on dc'
  state = by_state (λ (g : Given). g.on ≡ on_after r.inverter on dc') (λ e. sym e) (λ e. sym e)

  more_sun_lem : (i : ℕ) → s.irradiance ≤ i → dc_of r s ≤ dc_of r (sun i s.temperature)
  unfolding dc_of
  more_sun_lem i h = more_dc r.inverter.array (nat_abs (curve_at r.warm s.temperature)) s.irradiance i h

-- ---- the whole
pub relied : ReliedTheorem
relied r h on s =
    let b : Ranged r = ranged r h in
    let v = r.inverter in
    let dc = dc_of r s in
    record {
      in_circle =
          by_state r on s (λ (g : Given). nat_abs g.watts * nat_abs g.watts + nat_abs g.vars * nat_abs g.vars ≤ v.kva * v.kva)
          (λ e. circle r dc) (λ e. zero-le);
      given = by_state r on s (λ (g : Given). g.watts ≡ pos (nat_abs g.watts)) (λ e. refl) (λ e. refl);
      within_dc =
          by_state r on s (λ (g : Given). nat_abs g.watts ≤ dc) (λ e. le_trans (watts_ac r dc).0 (ac_dc r dc b)) (λ e. zero-le);
      within_limit =
          by_state r on s (λ (g : Given). nat_abs g.watts ≤ limit_of v) (λ e. le_trans (watts_ac r dc).0 (ac_limit r dc)) (λ e. zero-le);
      within_s = by_state r on s (λ (g : Given). nat_abs g.watts ≤ v.kva) (λ e. (watts_ac r dc).1) (λ e. zero-le);
      off_gives_nothing =
          by_state r on s (λ (g : Given). g.on ≡ false → (g.watts ≡ pos 0) × (g.vars ≡ pos 0)) (λ e f. absurd (passed_failed refl f)) (λ e f. (refl, refl));
      only_above = λ was is. turned_on v on dc was (sym (state r on s) ∙ is);
      only_below = λ was is. turned_off v on dc was (sym (state r on s) ∙ is);
      stays = λ low high. state r on s ∙ sym (as_it_was v on dc high low);
      more_sun = more_sun_lem r on s;
    }
