-- What can be relied on of a led unit: it is a unit in its ranges, whatever vars are requested; and vars led by what the circle leaves after the watts fit
-- beside these, which are the same with whatever vars. Assumes nothing.
use mathlib.Core.Path.{◌≡◌, subst}
use mathlib.Core.Bool.{true, cond}
use Prim.Native.Nat.{ℕ, ◌≤◌, min}
use lib.IntN.{ℤ, nat_abs}
use Rattle.whole.specs.Largest.{leg_of}
use Rattle.whole.specs.Signed.{negative, signed}
use Rattle.unit.specs.declared.Unit.{Unit}
use Rattle.unit.specs.Ranges.{Ranged}
use Rattle.energy.specs.Limits.{vars_of}
use Rattle.flows.specs.Flows.{flow_of, inverter_watts}
use Rattle.storage.specs.Step.{outcome_of, step_of}
use Rattle.storage.proofs.ReliedProved.{relied}
use Rattle.lead.specs.declared.Lead.{Lead}
use Rattle.guided.specs.Units.{Guiding}
use Rattle.guided.specs.Units.{led_unit, watts_first, requested_of, led_step, vars_kept, LedTheorem}
use Rattle.guided.proofs.SharedLaws.{requested_fits, kept_most, vars_limited}
use Rattle.guided.proofs.UnitLaws.{led_ranged, carried_same, unled_is, stands_is, asked_small}

module _ (l : Lead) (u : Unit) (last : ℤ) (seconds : ℕ) (request : ℤ) (r : Ranged u seconds) (g : Guiding l last) where
  abbrev requested : ℤ
  requested = requested_of l u last seconds request

  abbrev led : Unit
  led = led_unit l u requested

  small : nat_abs requested ≤ 100000000
  small = asked_small l u last seconds request r g

  kept : nat_abs (vars_kept l u last seconds request) ≤ 100000000
  unfolding vars_kept
  kept = kept_most l last requested g.last_small small

  same : l.after ≡ true → watts_first l u seconds request ≡ inverter_watts led (flow_of led seconds request)
  unfolding watts_first
  same a = carried_same l u seconds request a u.var_request requested

  -- by what the circle leaves after the watts
  module _ (f : l.fresh ≡ true) (a : l.after ≡ true) where
    beside : nat_abs requested ≤ leg_of u.kva (nat_abs (inverter_watts led (flow_of led seconds request)))
    unfolding requested_of
    beside =
        subst (λ (w : ℤ). nat_abs requested ≤ leg_of u.kva (nat_abs w)) (same a)
        (requested_fits l u.var_request last u.kva g (nat_abs (watts_first l u seconds request)) f a)

    limited : (led_step l u last seconds request).vars ≡ signed (negative requested) (min (nat_abs requested) (cond (negative requested) u.absorb u.provide))
    unfolding led_step step_of outcome_of vars_of
    limited =
        vars_limited requested u.kva (nat_abs (inverter_watts led (flow_of led seconds request))) beside (cond (negative requested) u.absorb u.provide)

pub led_law : LedTheorem
led_law l u last seconds request r g =
    let v : Ranged (led l u last seconds request r g) seconds = led_ranged l u seconds r (requested_of l u last seconds request) (small l u last seconds request r g) in
    record {
      relied = relied (led l u last seconds request r g) seconds request v.unit v.seconds_in_is;
      kept_small = kept l u last seconds request r g;
      same_watts = same l u last seconds request r g;
      fits = beside l u last seconds request r g;
      limited_only = limited l u last seconds request r g;
      unled = unled_is l u last seconds request;
      stands = stands_is l u last seconds request;
    }
