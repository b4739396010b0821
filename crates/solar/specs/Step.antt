-- One step of one inverter (rules I1 to I5). No y of its curves is below 0, so that their sizes are they themselves.
use Rattle.std.specs.Prelude.{ℕ, ◌*◌, ◌/◌, min, Bool, true, false, cond, ltb, ℤ, pos, nat_abs}
use Rattle.whole.specs.Circle.{watts_in, vars_in}
use Rattle.whole.specs.Signed.{negative}
use Rattle.curve.specs.Curve.{curve_at}
use Rattle.solar.specs.declared.Inverter.{Inverter}
use Rattle.solar.specs.declared.Sun.{Sun}
use Rattle.solar.specs.declared.Given.{Given}
use Rattle.solar.specs.Roof.{Roof}

-- I1: DC power
unfoldable pub dc_of : Roof → Sun → ℕ
unfolding curve_at
dc_of r s = r.inverter.array * s.irradiance / 1000 * nat_abs (curve_at r.warm s.temperature) / 10000

-- I2: on above cut-in, off below cut-out, else as it was
unfoldable pub on_after : Inverter → Bool → ℕ → Bool
on_after v on dc = cond (ltb (v.cut_in * v.kva) (dc * 10000)) true (cond (ltb (dc * 10000) (v.cut_out * v.kva)) false on)

-- I4: AC power, and the limit
abbrev pub limit_of : Inverter → ℕ
limit_of v = v.array * v.limit / 10000

unfoldable pub ac_of : Roof → ℕ → ℕ
unfolding curve_at
ac_of r dc = min (dc * nat_abs (curve_at r.efficiency (pos (dc * 1000 / r.inverter.kva))) / 10000) (limit_of r.inverter)

-- I5: the circle, S being the var limit
abbrev pub limited_vars : Inverter → ℕ
limited_vars v = min (nat_abs v.var_request) v.kva

unfoldable pub watts_of : Roof → ℕ → ℕ
unfolding ac_of watts_in
watts_of r dc = watts_in r.inverter.kva r.inverter.priority (limited_vars r.inverter) (ac_of r dc)

unfoldable pub vars_of : Inverter → ℕ → ℤ
unfolding vars_in
vars_of v watts = vars_in v.kva (negative v.var_request) (limited_vars v) watts

abbrev pub given : Bool → ℤ → ℤ → ℕ → Given
given on watts vars dc = record { on = on; watts = watts; vars = vars; dc = dc }

-- I3: off, nothing is given
unfoldable pub given_by : Roof → Bool → ℕ → Given
unfolding watts_of vars_of
given_by r on dc = cond on (given true (pos (watts_of r dc)) (vars_of r.inverter (watts_of r dc)) dc) (given false (pos 0) (pos 0) dc)

-- one step
unfoldable pub step_of : Roof → Bool → Sun → Given
unfolding dc_of on_after given_by
step_of r on s = let dc = dc_of r s in given_by r (on_after r.inverter on dc) dc
