-- The ranges of a pass's settings and measure (rules Q17 to Q20, Q23 and Q48).
use Rattle.std.specs.Prelude.{Bool, ◌&&◌, leb, ℤ, pos, nat_abs}
use Rattle.std.specs.Int.Signed.{le_z}
use Rattle.whole.specs.Interval.{between}
use Rattle.rules.specs.declared.Settings.{Settings}

-- the settings of a pass: mode 1 to 5, target -10^8 to 10^8 and band 0 to 2 × 10^8, in W or by current in mA, factor 1 to 1,000 thousandths
unfoldable pub settings_in : Settings → Bool
settings_in s =
    between 1 5 s.mode && leb (nat_abs s.target) 100000000 && leb s.band 200000000 && between 1 1000 s.factor

-- a measure handed straight to a pass: -3 × 10^8 to 3 × 10^8 W, or 0 to 3 × 10^8 mA
unfoldable pub measure_in : ℤ → Bool
measure_in m = leb (nat_abs m) 300000000

unfoldable pub current_in : ℤ → Bool
current_in m = le_z (pos 0) m && le_z m (pos 300000000)
