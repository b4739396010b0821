-- An inverter with its two curves, and the ranges of their values (rules Q31 to Q39 and Q42).
use Rattle.std.specs.Prelude.{ℕ, Bool, ◌&&◌, List, leb, pos, neg_ℤ, nat_abs}
use Rattle.whole.specs.Interval.{between}
use Rattle.curve.specs.declared.Bounds.{Bounds}
use Rattle.curve.specs.Curve.{Point}
use Rattle.curve.specs.Ranges.{points_in}
use Rattle.solar.specs.declared.Inverter.{Inverter}

pub record Roof : Type 0 where
  pub inverter : Inverter
  -- by temperature, and by DC power per kVA
  pub warm : List Point
  pub efficiency : List Point

unfoldable pub inverter_in : Inverter → Bool
inverter_in v =
    between 1 100000000 v.array && between 1 100000000 v.kva && leb v.cut_in 10000 && leb v.cut_out v.cut_in && leb v.limit 10000
    && leb (nat_abs v.var_request) 100000000 && leb v.priority 1

abbrev pub warm_bounds : Bounds
warm_bounds = record { x_least = neg_ℤ (pos 100000000); x_most = pos 100000000; y_least = pos 0; y_most = pos 20000 }

abbrev pub efficiency_bounds : Bounds
efficiency_bounds = record { x_least = pos 0; x_most = pos 100000000; y_least = pos 0; y_most = pos 10000 }

unfoldable pub roof_in : Roof → Bool
unfolding inverter_in points_in
roof_in r = inverter_in r.inverter && points_in warm_bounds r.warm && points_in efficiency_bounds r.efficiency
