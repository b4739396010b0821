-- One step of one unit (rules U1 to U12; what limits it stands in `energy`, what flows in `flows`). Power is whole watts, positive for discharge; energy whole joules.
use Rattle.std.specs.Prelude.{ℕ, ◌+◌, ◌*◌, cond, eqb, ℤ, pos, ◌-ℤ◌, Err, Ok, Result}
use Rattle.whole.specs.Call.{refusal}
use Rattle.unit.specs.declared.Unit.{Unit}
use Rattle.flows.specs.declared.Flow.{Flow}
use Rattle.storage.specs.declared.Outcome.{Outcome}
use Rattle.unit.specs.Ranges.{edition_in, in_edition}
use Rattle.energy.specs.Limits.{grid_loss, vars_of}
use Rattle.flows.specs.Flows.{flow_of, inverter_watts, stored_of, loss_of}
use Rattle.storage.specs.Ranges.{step_refusal}
use Rattle.whole.specs.declared.Refusal.{Refusal}

-- U9: the watts at the grid, the inverter's less the loss there
unfoldable pub grid_watts : Unit → Flow → ℤ
unfolding inverter_watts
grid_watts u flow = inverter_watts u flow -ℤ pos (grid_loss u)

-- what a step gives, by what flows
unfoldable pub outcome_of : Unit → ℕ → Flow → Outcome
unfolding inverter_watts grid_watts stored_of loss_of vars_of
outcome_of u seconds flow = record {
  watts = grid_watts u flow;
  vars = vars_of u (inverter_watts u flow);
  stored = stored_of u seconds flow;
  loss = loss_of u seconds flow + grid_loss u * seconds;
}

-- one step
unfoldable pub step_of : Unit → ℕ → ℤ → Outcome
unfolding flow_of outcome_of
step_of u seconds request = outcome_of u seconds (flow_of u seconds request)

-- a step of any numbers: its outcome, or the refusal
unfoldable pub stepped_of : Unit → ℕ → ℤ → Result Outcome Refusal
unfolding step_of step_refusal
stepped_of u seconds request =
    let n = step_refusal u seconds request in
    let o = step_of u seconds request in
    cond (eqb n 0) (Ok o) (Err (refusal n))

-- and of a unit of an edition: 5 for an edition that there is not
unfoldable pub stepped_as : ℕ → Unit → ℕ → ℤ → Result Outcome Refusal
unfolding stepped_of in_edition
stepped_as edition u seconds request = cond (edition_in edition) (stepped_of (in_edition edition u) seconds request) (Err (refusal 5))
