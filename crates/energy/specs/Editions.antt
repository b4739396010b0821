-- Rule U17: where both limits are S, as edition 1 has them, a unit holds a request and gives vars as units did before they had limits of their own.
use Rattle.std.specs.Prelude.{ℕ, min, ◌≡◌, ℤ, nat_abs}
use Rattle.whole.specs.Circle.{watts_in, vars_in}
use Rattle.whole.specs.Signed.{negative}
use Rattle.unit.specs.declared.Unit.{Unit}
use Rattle.energy.specs.Limits.{held_size, vars_of}

-- the size of the var request, at most S
abbrev pub vars_within : Unit → ℕ
vars_within u = min (nat_abs u.var_request) u.kva

pub record AsBefore (u : Unit) : Type 0 where
  pub held : (request : ℤ) → held_size u request ≡ watts_in u.kva u.priority (vars_within u) (nat_abs request)
  pub vars : (watts : ℤ) → vars_of u watts ≡ vars_in u.kva (negative u.var_request) (vars_within u) (nat_abs watts)

-- the theorem: of every unit whose limits are both S
abbrev pub AsBeforeTheorem : Type 0
AsBeforeTheorem = (u : Unit) → u.provide ≡ u.kva → u.absorb ≡ u.kva → AsBefore u
