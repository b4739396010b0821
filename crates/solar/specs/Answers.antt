-- What one step without a file answers, for any numbers and lists (rules C19 and N15): 10 where a curve's lists differ in length or have not 2 to 16
-- points, then 5, then 6, with place and steps 0 (rule N16); else what the step gives. The number 0 stands for no refusal.
use Rattle.std.specs.Prelude.{ℕ, Bool, not, cond, ◌&&◌, List, leb, eqb, ℤ, length, Err, None, Ok, Option, Result, Some}
use Rattle.whole.specs.Call.{Call, refusal}
use Rattle.whole.specs.Interval.{between}
use Rattle.curve.specs.Ranges.{points_of}
use Rattle.solar.specs.declared.Inverter.{Inverter}
use Rattle.solar.specs.declared.Weather.{Weather}
use Rattle.solar.specs.declared.Given.{Given}
use Rattle.solar.specs.Roof.{Roof, roof_in}
use Rattle.solar.specs.Weather.{sky_of}
use Rattle.solar.specs.Step.{step_of}
use Rattle.solar.specs.declared.Sun.{Sun}
use Rattle.whole.specs.declared.Refusal.{Refusal}

-- the lent lists of two curves
pub record Lists : Type 0 where
  pub warm_x : List ℤ
  pub warm_y : List ℤ
  pub eff_x : List ℤ
  pub eff_y : List ℤ

abbrev pub lists_of : List ℤ → List ℤ → List ℤ → List ℤ → Lists
lists_of a b c d = record { warm_x = a; warm_y = b; eff_x = c; eff_y = d }

-- one length, 2 to 16
abbrev pub lengths_in : List ℤ → List ℤ → Bool
lengths_in xs ys = between 2 16 (length xs) && eqb (length ys) (length xs)

abbrev pub roof_of : Inverter → Lists → Roof
roof_of v l = record { inverter = v; warm = points_of l.warm_x l.warm_y; efficiency = points_of l.eff_x l.eff_y }

-- 10, then 5: `on` is 0 or 1
unfoldable pub lit_refusal : Inverter → Lists → ℕ → ℕ
unfolding roof_in
lit_refusal v l on =
    cond (not (lengths_in l.warm_x l.warm_y && lengths_in l.eff_x l.eff_y)) 10
    (cond (not (roof_in (roof_of v l) && leb on 1)) 5 0)

-- then 6
abbrev pub lit_by : Roof → Bool → Option Sun → Result Given Refusal
lit_by r on (Some s) = Ok (step_of r on s)
lit_by r on None = Err (refusal 6)

unfoldable pub lit_of : Inverter → Lists → ℕ → Weather → Result Given Refusal
unfolding lit_refusal step_of sky_of
lit_of v l on w =
    let n = lit_refusal v l on in
    let answer = lit_by (roof_of v l) (eqb on 1) (sky_of w) in
    cond (eqb n 0) answer (Err (refusal n))
