-- What holds of the vars requested. `lead-law` proves it.
use Rattle.std.specs.Prelude.{ℕ, ◌≤◌, true, ◌≡◌, ℤ, nat_abs}
use Rattle.whole.specs.Largest.{leg_of}
use Rattle.lead.specs.declared.Lead.{Lead}
use Rattle.lead.specs.Lead.{Modest, led_vars}

-- for a curve's value of at most one either way
pub record LeadLaw (l : Lead) (S watts : ℕ) : Type 0 where
  pub within_s : nat_abs (led_vars l S watts) ≤ S
  -- L8: by what the circle leaves after the watts, they fit the circle beside them
  pub fits : l.after ≡ true → nat_abs (led_vars l S watts) ≤ leg_of S watts

-- the theorem
abbrev pub LeadTheorem : Type 0
LeadTheorem = (l : Lead) (S watts : ℕ) → Modest l → LeadLaw l S watts
