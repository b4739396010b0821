-- One step of one unit that a voltage leads (rules L2 to L9).
use Rattle.std.specs.Prelude.{ℕ, ◌≤◌, min, true, false, cond, ◌≡◌, ℤ, nat_abs}
use Rattle.whole.specs.Signed.{negative, signed}
use Rattle.whole.specs.Largest.{leg_of}
use Rattle.unit.specs.declared.Unit.{Unit}
use Rattle.unit.specs.Ranges.{Ranged}
use Rattle.lead.specs.declared.Lead.{Lead}
use Rattle.lead.specs.Lead.{Modest, first_by, requested_by, kept_by}
use Rattle.flows.specs.Flows.{flow_of, inverter_watts}
use Rattle.storage.specs.declared.Outcome.{Outcome}
use Rattle.storage.specs.Step.{step_of}
use Rattle.storage.specs.Relied.{Relied}

-- L4, L5: the unit with the vars requested in place of its var request, and with the priority that counts
abbrev pub led_unit : Lead → Unit → ℤ → Unit
led_unit l u vars = record {
  rated = u.rated;
  reserve = u.reserve;
  stored = u.stored;
  rating = u.rating;
  kva = u.kva;
  dc_loss = u.dc_loss;
  var_request = vars;
  weight = u.weight;
  inverter = u.inverter;
  charge = u.charge;
  discharge = u.discharge;
  priority = first_by l u.priority;
  provide = u.provide;
  absorb = u.absorb;
  grid_loss = u.grid_loss;
  link = u.link;
}

-- L2, L6: the inverter's watts, once the store has cut them. They count only where the base is what they leave, and there they come first: whatever the
-- vars are, they are the same
unfoldable pub watts_first : Lead → Unit → ℕ → ℤ → ℤ
unfolding flow_of inverter_watts
watts_first l u seconds request = let v = led_unit l u u.var_request in inverter_watts v (flow_of v seconds request)

-- the vars requested
unfoldable pub requested_of : Lead → Unit → ℤ → ℕ → ℤ → ℤ
unfolding requested_by watts_first
requested_of l u last seconds request = requested_by l u.var_request last u.kva (nat_abs (watts_first l u seconds request))

-- what the step gives, and the vars kept as last requested
unfoldable pub led_step : Lead → Unit → ℤ → ℕ → ℤ → Outcome
unfolding requested_of step_of
led_step l u last seconds request = step_of (led_unit l u (requested_of l u last seconds request)) seconds request

unfoldable pub vars_kept : Lead → Unit → ℤ → ℕ → ℤ → ℤ
unfolding requested_of
vars_kept l u last seconds request = kept_by l last (requested_of l u last seconds request)

-- what leads a step, in its bounds: a curve's value, and vars last requested of at most 10^8 either way
pub record Guiding (l : Lead) (last : ℤ) : Type 0 where
  pub modest : Modest l
  pub last_small : nat_abs last ≤ 100000000

-- what can be relied on, for a unit and a step length in their ranges, any request, a curve's value of at most one and vars last requested of at most 10^8 either way:
-- `led-law` proves it
pub record LedLaw (l : Lead) (u : Unit) (last : ℤ) (seconds : ℕ) (request : ℤ) : Type 0 where
  -- L7: all that a planner relies on, of the unit as it is led: its store, its limits and its circle are its own
  pub relied : Relied (led_unit l u (requested_of l u last seconds request)) seconds request
  pub kept_small : nat_abs (vars_kept l u last seconds request) ≤ 100000000
  -- L8: the watts that the base goes by are those of this very step
  pub same_watts : l.after ≡ true → let v = led_unit l u (requested_of l u last seconds request) in watts_first l u seconds request ≡ inverter_watts v (flow_of v seconds request)
  -- L8: by what the circle leaves after the watts, the vars requested fit the circle beside the watts of this very step, and only the unit's limit for their direction cuts them
  pub fits : l.fresh ≡ true → l.after ≡ true → let v = led_unit l u (requested_of l u last seconds request) in
      nat_abs (requested_of l u last seconds request) ≤ leg_of u.kva (nat_abs (inverter_watts v (flow_of v seconds request)))
  pub limited_only : l.fresh ≡ true → l.after ≡ true → let r = requested_of l u last seconds request in
      (led_step l u last seconds request).vars ≡ signed (negative r) (min (nat_abs r) (cond (negative r) u.absorb u.provide))
  -- L9: without a function it is the step as it was, and what is kept stands
  pub unled : l.leads ≡ false → l.after ≡ false → l.fresh ≡ false → led_step l u last seconds request ≡ step_of u seconds request
  pub stands : l.leads ≡ false → vars_kept l u last seconds request ≡ last

-- the theorem
abbrev pub LedTheorem : Type 0
LedTheorem = (l : Lead) (u : Unit) (last : ℤ) (seconds : ℕ) (request : ℤ) → Ranged u seconds → Guiding l last → LedLaw l u last seconds request
