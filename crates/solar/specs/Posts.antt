-- Nobody has to believe this file: a roof whose curves lie in bytes, a step past the tests of the lists, and what a step may count on.
use Rattle.std.specs.Prelude.{ℕ, ◌+◌, ◌≤◌, true, cond, ◌&&◌, List, ◌≡◌, leb, eqb, nat_abs, length, Err, Result}
use Rattle.whole.specs.Call.{refusal}
use Rattle.curve.specs.Layout.{curve_bytes, points_at}
use Rattle.solar.specs.declared.Inverter.{Inverter}
use Rattle.solar.specs.declared.Sun.{Sun}
use Rattle.solar.specs.declared.Weather.{Weather}
use Rattle.solar.specs.Roof.{Roof, roof_in}
use Rattle.solar.specs.Weather.{sky_of}
use Rattle.solar.specs.Answers.{lit_by}
use Rattle.whole.specs.declared.Refusal.{Refusal}
use Rattle.solar.specs.declared.Given.{Given}

-- an inverter with the curves that lie at two places of bytes
abbrev pub roof_by : Inverter → List ℕ → ℕ → ℕ → Roof
roof_by v bytes warm efficiency = record { inverter = v; warm = points_at bytes warm; efficiency = points_at bytes efficiency }

-- a step of any roof: 5, then 6, then what it gives
abbrev pub lit_in : Roof → ℕ → Weather → Result Given Refusal
lit_in r on w = cond (roof_in r && leb on 1) (lit_by r (eqb on 1) (sky_of w)) (Err (refusal 5))

-- a roof in its ranges, whose curves are there
pub record Roofed (v : Inverter) (bytes : List ℕ) (warm efficiency : ℕ) : Type 0 where
  pub roof_in_is : roof_in (roof_by v bytes warm efficiency) ≡ true
  pub warm_there : warm + curve_bytes ≤ length bytes
  pub efficiency_there : efficiency + curve_bytes ≤ length bytes

-- a sun in its ranges
pub record Shining (s : Sun) : Type 0 where
  pub irradiance_small : s.irradiance ≤ 100000000
  pub temperature_small : nat_abs s.temperature ≤ 100000000
