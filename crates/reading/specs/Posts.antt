-- Nobody has to believe this file: whether a conversion gave a number, and what the meter shows of three that it gave.
use Rattle.std.specs.Prelude.{ℕ, Bool, true, false, cond, leb, Err, None, Option, Some, ℤ}
use Rattle.whole.specs.Call.{refusal}
use Rattle.reading.specs.Choice.{chosen_of, shown_by}

-- a converted power or current that is not refused
abbrev pub is_whole : Option ℤ → Bool
is_whole (Some w) = true
is_whole None = false

-- three converted powers or currents at a phase
abbrev pub shown_of : ℕ → Option ℤ → Option ℤ → Option ℤ → Option ℤ
shown_of phase a b c = shown_by (cond (leb phase 5) (chosen_of phase a b c) (Err (refusal 5)))
