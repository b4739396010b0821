-- What a step without a file refuses (rules N15 and C16).
use Rattle.std.specs.Prelude.{ℕ, not, cond, ◌&&◌, leb, ℤ, nat_abs}
use Rattle.unit.specs.declared.Unit.{Unit}
use Rattle.unit.specs.Ranges.{unit_in, seconds_in}

-- values out of range 5, then a request beyond the rating 10; 0 for nothing
unfoldable pub step_refusal : Unit → ℕ → ℤ → ℕ
unfolding unit_in
step_refusal u seconds request =
    cond (not (seconds_in seconds && unit_in u)) 5 (cond (not (leb (nat_abs request) u.rating)) 10 0)
