-- What limits one step of one unit: by its circle, its var limits and its store (rules U2 to U7 and U12). Power is whole watts; energy whole joules.
use Rattle.std.specs.Prelude.{ℕ, ◌+◌, ◌-◌, ◌*◌, ◌/◌, min, cond, leb, ℤ, nat_abs}
use Rattle.whole.specs.Circle.{watts_in, vars_in}
use Rattle.whole.specs.Largest.{largest}
use Rattle.whole.specs.Quotient.{ceil}
use Rattle.whole.specs.Signed.{negative}
use Rattle.unit.specs.declared.Unit.{Unit}

-- U2: the loss that sits on the DC side, and that at the grid; what limits a unit's vars is its limit for absorbing where it is asked to absorb, else that for
-- providing
abbrev pub direct_loss : Unit → ℕ
direct_loss u = u.dc_loss

abbrev pub grid_loss : Unit → ℕ
grid_loss u = u.grid_loss

abbrev pub var_limit : Unit → ℕ
var_limit u = cond (negative u.var_request) u.absorb u.provide

-- the size of v, the var request brought down to that limit
abbrev pub limited_vars : Unit → ℕ
limited_vars u = min (nat_abs u.var_request) (var_limit u)

-- U3: the request that a unit holds is at most S in size; under var priority also at most the leg beside v
unfoldable pub held_size : Unit → ℤ → ℕ
unfolding watts_in
held_size u request = watts_in u.kva u.priority (limited_vars u) (nat_abs request)

-- U4: the joules that delivering p watts removes from the store
unfoldable pub removed_by : Unit → ℕ → ℕ → ℕ
unfolding ceil
removed_by u seconds p = ceil ((ceil (p * 10000) u.inverter + direct_loss u) * seconds * 10000) u.discharge

-- U5: the largest watt count from 1 to p whose removal the store above the reserve covers; 0 stands for none
unfoldable pub deliverable : Unit → ℕ → ℕ → ℕ
unfolding removed_by largest
deliverable u seconds p = largest (λ (x : ℕ). leb (removed_by u seconds x) (u.stored - u.reserve)) p

-- U6: the joules that taking p watts adds to the store
unfoldable pub added_by : Unit → ℕ → ℕ → ℕ
added_by u seconds p = (p * u.inverter / 10000 - direct_loss u) * seconds * u.charge / 10000

-- U7: the largest count from 0 to p whose addition there is room for
unfoldable pub takeable : Unit → ℕ → ℕ → ℕ
unfolding added_by largest
takeable u seconds p = largest (λ (x : ℕ). leb (added_by u seconds x) (u.rated - u.stored)) p

-- U12: last the vars, with the var request's sign, and the smaller of v's size and the leg beside the watts
unfoldable pub vars_of : Unit → ℤ → ℤ
unfolding vars_in
vars_of u watts = vars_in u.kva (negative u.var_request) (limited_vars u) (nat_abs watts)
