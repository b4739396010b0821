-- What a planner relies on (rules I3 and I6 to I9), for each roof in its ranges, any sun, and either state. `relied` proves it.
use Rattle.std.specs.Prelude.{ℕ, ◌+◌, ◌*◌, ◌≤◌, ◌<◌, Bool, true, false, ◌≡◌, pos, nat_abs}
use Rattle.solar.specs.declared.Sun.{Sun}
use Rattle.solar.specs.Roof.{Roof, roof_in}
use Rattle.solar.specs.Weather.{sun}
use Rattle.solar.specs.Step.{dc_of, limit_of, step_of}

pub record Relied (r : Roof) (on : Bool) (s : Sun) : Type 0 where
  -- I6: watts and vars lie in the circle
  pub in_circle : nat_abs (step_of r on s).watts * nat_abs (step_of r on s).watts + nat_abs (step_of r on s).vars * nat_abs (step_of r on s).vars ≤ r.inverter.kva * r.inverter.kva
  -- I7: no watts below 0, and no more than DC power, than the limit, than S
  pub given : (step_of r on s).watts ≡ pos (nat_abs (step_of r on s).watts)
  pub within_dc : nat_abs (step_of r on s).watts ≤ dc_of r s
  pub within_limit : nat_abs (step_of r on s).watts ≤ limit_of r.inverter
  pub within_s : nat_abs (step_of r on s).watts ≤ r.inverter.kva
  -- I3: off gives nothing
  pub off_gives_nothing : (step_of r on s).on ≡ false → ((step_of r on s).watts ≡ pos 0) × ((step_of r on s).vars ≡ pos 0)
  -- I8: it turns on only above cut-in, off only below cut-out; at either and between them it stays
  pub only_above : on ≡ false → (step_of r on s).on ≡ true → r.inverter.cut_in * r.inverter.kva < dc_of r s * 10000
  pub only_below : on ≡ true → (step_of r on s).on ≡ false → dc_of r s * 10000 < r.inverter.cut_out * r.inverter.kva
  pub stays : r.inverter.cut_out * r.inverter.kva ≤ dc_of r s * 10000 → dc_of r s * 10000 ≤ r.inverter.cut_in * r.inverter.kva → (step_of r on s).on ≡ on
  -- I9: more sun never gives less
  pub more_sun : (i : ℕ) → s.irradiance ≤ i → dc_of r s ≤ dc_of r (sun i s.temperature)

-- the theorem
abbrev pub ReliedTheorem : Type 0
ReliedTheorem = (r : Roof) → roof_in r ≡ true → (on : Bool) (s : Sun) → Relied r on s
