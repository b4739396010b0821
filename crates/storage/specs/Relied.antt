-- What a planner relies on (rules U13 to U16), of the definition of a step: for a unit in its ranges, a step length in its range and any request.
use Rattle.std.specs.Prelude.{ℕ, ◌+◌, ◌*◌, ◌≤◌, true, ◌≡◌, ◌⊎◌, ℤ, pos, negsuc, neg_ℤ, nat_abs, ◌+ℤ◌, ◌≤ℤ◌}
use Rattle.unit.specs.declared.Unit.{Unit}
use Rattle.unit.specs.Ranges.{idle_draw, unit_in, seconds_in}
use Rattle.storage.specs.declared.Outcome.{Outcome}
use Rattle.storage.specs.Step.{step_of}

-- energy is conserved to the joule, by the watts at the grid: what leaves the store is what is delivered and the loss; what is drawn is what is stored and the loss
abbrev pub Balanced : ℕ → ℕ → ℤ → ℕ → ℕ → Type 0
Balanced seconds before (pos x) after loss = before ≡ after + (x * seconds + loss)
Balanced seconds before (negsuc x) after loss = after + loss ≡ before + nat_abs (negsuc x) * seconds

abbrev pub Conserved : ℕ → ℕ → Outcome → Type 0
Conserved seconds stored o = Balanced seconds stored o.watts o.stored o.loss

-- the inverter's watts: those at the grid and the loss there
abbrev pub carried : Unit → Outcome → ℤ
carried u o = o.watts +ℤ pos u.grid_loss

pub record Relied (u : Unit) (seconds : ℕ) (request : ℤ) : Type 0 where
  -- a store between reserve and rated stays there
  pub stays_within : u.reserve ≤ u.stored → (u.reserve ≤ (step_of u seconds request).stored) × ((step_of u seconds request).stored ≤ u.rated)
  -- no store rises above rated, whatever its reserve
  pub never_above_rated : (step_of u seconds request).stored ≤ u.rated
  -- the inverter's watts and the vars lie in the kVA circle
  pub in_circle : nat_abs (carried u (step_of u seconds request)) * nat_abs (carried u (step_of u seconds request))
      + nat_abs (step_of u seconds request).vars * nat_abs (step_of u seconds request).vars ≤ u.kva * u.kva
  -- the vars lie between the unit's limits
  pub no_more_provided : (step_of u seconds request).vars ≤ℤ pos u.provide
  pub no_more_absorbed : neg_ℤ (pos u.absorb) ≤ℤ (step_of u seconds request).vars
  pub conserved : Conserved seconds u.stored (step_of u seconds request)
  -- a unit delivers no more than it is asked, and nothing where it is asked to charge
  pub no_more_than_asked : (x : ℕ) → request ≡ pos x → (step_of u seconds request).watts ≤ℤ pos x
  pub nothing_while_charging : (x : ℕ) → request ≡ negsuc x → (step_of u seconds request).watts ≤ℤ pos 0
  -- its inverter moves no more than it is asked either way, or it idles and its inverter draws the idle draw
  pub moves_no_more : (nat_abs (carried u (step_of u seconds request)) ≤ nat_abs request) ⊎ (carried u (step_of u seconds request) ≡ neg_ℤ (pos (idle_draw u)))

-- the theorem
abbrev pub ReliedTheorem : Type 0
ReliedTheorem = (u : Unit) (seconds : ℕ) (request : ℤ) → unit_in u ≡ true → seconds_in seconds ≡ true → Relied u seconds request
