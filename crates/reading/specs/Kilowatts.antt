-- A watt count in kW (rule O4): as a double, divided by one thousand, rounded once.
use Rattle.std.specs.Prelude.{ℤ, pos, false, Float}
use Rattle.std.specs.Float.{fin, binary64}
use Rattle.std.specs.Float.Ieee.{div, of_int}

-- the double 1000, which is 125 × 2^3
abbrev pub thousand : Float
thousand = fin false 125 (pos 3)

unfoldable pub kw_of : ℤ → Float
kw_of watts = div binary64 (of_int binary64 watts) thousand
