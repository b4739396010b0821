-- The rules of a pass over plain numbers, P1 to P6 and P10: the need, a unit's own need and band, what asks for nothing, and what one unit's request
-- becomes. Modes 1, 2 and 4 discharge, 3 and 5 charge; 4 and 5 go by current.
use Rattle.std.specs.Prelude.{ℕ, ◌*◌, ◌/◌, min, Bool, cond, ◌||◌, leb, eqb, ℤ, pos, nat_abs, ◌+ℤ◌, ◌-ℤ◌, ◌*ℤ◌}
use Rattle.std.specs.Int.Signed.{lt_z, le_z}
use Rattle.whole.specs.Quotient.{cut}
use Rattle.whole.specs.Signed.{negative, signed}
use Rattle.rules.specs.declared.Settings.{Settings}

-- whether a mode charges; whether it goes by current
abbrev pub charges : ℕ → Bool
charges mode = eqb mode 3 || eqb mode 5

abbrev pub by_current : ℕ → Bool
by_current mode = leb 4 mode

-- P1: need is the measure less the target, and in mode 2 both together
unfoldable pub plain_need : Settings → ℤ → ℤ
plain_need s m = cond (eqb s.mode 2) (m +ℤ s.target) (m -ℤ s.target)

-- P10: a unit's own need and band are in watts. By current they come from the need and the band in milliamperes, by what an ampere of the unit's connection
-- is in watts, cut toward zero
unfoldable pub in_watts : Bool → ℕ → ℤ → ℤ
unfolding cut
in_watts current link z = cond current (cut (z *ℤ pos link) 1000) z

unfoldable pub band_in_watts : Bool → ℕ → ℕ → ℕ
band_in_watts current link band = cond current (band * link / 1000) band

-- P3: a need that does not call: not above 0 discharging, not below 0 charging
abbrev pub no_call : Bool → ℤ → Bool
no_call charging need = cond charging (le_z (pos 0) need) (le_z need (pos 0))

-- nothing to give: at or below the reserve; charging, no room: full. P4 asks it of the fleet's sums, P6 of a unit
unfoldable pub unable : Bool → ℕ → ℕ → ℕ → Bool
unable charging rated reserve stored = cond charging (eqb stored rated) (leb stored reserve)

-- P5: within the band: twice the size of the need is at most the band
unfoldable pub in_band : ℕ → ℤ → Bool
in_band band need = leb (2 * nat_abs need) band

-- P6: otherwise a unit's share of its own need is by its weight and the factor, cut toward zero
unfoldable pub share_of : ℕ → ℤ → ℕ → ℕ → ℤ
unfolding cut
share_of factor need weight weights = cut (need *ℤ pos weight *ℤ pos factor) (weights * 1000)

-- request and share are limited to R in size; what is then against the mode, below 0 discharging or above 0 charging, becomes 0
unfoldable pub limited : ℕ → ℤ → ℤ
limited R z = signed (negative z) (min (nat_abs z) R)

unfoldable pub with_mode : Bool → ℤ → ℤ
with_mode charging z = cond (cond charging (lt_z (pos 0) z) (lt_z z (pos 0))) (pos 0) z

-- what a unit's request becomes, with its own need, its rating, its weight and the sum of all weights
unfoldable pub unit_after : Bool → ℕ → ℤ → ℕ → ℕ → ℕ → ℤ → ℤ
unfolding share_of limited with_mode
unit_after charging factor need weights rating weight request = with_mode charging (limited rating (request +ℤ share_of factor need weight weights))
