-- A range (rules Q): from low to high, both ends within it.
use Rattle.std.specs.Prelude.{ℕ, Bool, ◌&&◌, leb}

abbrev pub between : ℕ → ℕ → ℕ → Bool
between low high x = leb low x && leb x high
