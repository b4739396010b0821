-- What a meter's maker means by "rounded to the nearest, ties to even", as IEEE 754 has it, for any n / d with d above 0. `nearest-proved` proves it.
use Rattle.std.specs.Prelude.{ℕ, ◌+◌, ◌-◌, ◌*◌, ◌%◌, ◌≤◌, ◌<◌, ◌≡◌}
use Rattle.reading.specs.Conversion.{nearest}

-- how far a whole number w is from n / d, in d-ths
abbrev pub away : ℕ → ℕ → ℕ → ℕ
away n d w = (n - w * d) + (w * d - n)

pub record Nearest (n d : ℕ) : Type 0 where
  -- no whole number is nearer
  pub closest : (w : ℕ) → away n d (nearest n d) ≤ away n d w
  -- and where another is as near, it is the even one
  pub even : (w : ℕ) → away n d w ≡ away n d (nearest n d) → (w ≡ nearest n d → ⊥) → nearest n d % 2 ≡ 0

-- the theorem: of every fraction
abbrev pub NearestTheorem : Type 0
NearestTheorem = (n d : ℕ) → 0 < d → Nearest n d
