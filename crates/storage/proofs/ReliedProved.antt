-- What a planner relies on holds of a step, since the store has what flows or has room for it, and what flows is at most the held size, which is
-- at most the request and at most S. Assumes nothing.
use mathlib.Core.Path.{◌≡◌, ap, subst⁻¹}
use mathlib.Core.Logic.{◌⊎◌}
use Prim.Native.Nat.{◌+◌, ◌*◌, ◌≤◌}
use native.Mathlib.Nat.{le_trans, le_of_eq}
use lib.IntN.{ℤ, pos, neg_ℤ, nat_abs, -ℤ-+ℤ_cancel}
use Rattle.unit.proofs.RangeLaws.{bounds}
use Rattle.storage.proofs.GridLaws.{no_more_less}
use Rattle.energy.proofs.LimitLaws.{held_most}
use Rattle.flows.proofs.FlowLaws.{flow_able}
use Rattle.storage.proofs.ReliedLaws.{vars_in_circle, vars_provided, vars_absorbed, no_more, moves_no_more_lem, charging_draws, watts_le, stays, never_above, conserves}
use Rattle.unit.specs.Ranges.{idle_draw}
use Rattle.storage.specs.Relied.{ReliedTheorem}
use Rattle.energy.specs.Limits.{held_size, grid_loss, vars_of}
use Rattle.flows.specs.Flows.{flow_of, inverter_watts}
use Rattle.storage.specs.Step.{grid_watts, outcome_of, step_of}

pub relied : ReliedTheorem
unfolding step_of outcome_of grid_watts
relied u seconds request e t =
    let p = held_size u request in
    let f = flow_of u seconds request in
    let a = flow_able u seconds request in
    let b = bounds {u = u} {seconds = seconds} (record { unit = e; seconds_in_is = t }) in
    let (asked, rated) = held_most u request in
    -- what the inverter carries, from the watts at the grid
    let back = -ℤ-+ℤ_cancel (inverter_watts u f) (pos (grid_loss u)) in
    record {
      stays_within = λ r. (stays u seconds p b r f a, never_above u seconds p b f a);
      never_above_rated = never_above u seconds p b f a;
      in_circle =
          subst⁻¹ (λ (w : ℤ). nat_abs w * nat_abs w + nat_abs (vars_of u (inverter_watts u f)) * nat_abs (vars_of u (inverter_watts u f)) ≤ u.kva * u.kva) back
          (vars_in_circle u (inverter_watts u f) (watts_le u seconds p b rated f a));
      no_more_provided = vars_provided u (inverter_watts u f);
      no_more_absorbed = vars_absorbed u (inverter_watts u f);
      conserved = conserves u seconds p b f a;
      no_more_than_asked = λ x q. no_more_less (inverter_watts u f) (grid_loss u) x (no_more u seconds p x (le_trans asked (le_of_eq (ap nat_abs q))) f a);
      nothing_while_charging = λ x q. no_more_less (inverter_watts u f) (grid_loss u) 0 (charging_draws u seconds request x q);
      moves_no_more = subst⁻¹ (λ (w : ℤ). (nat_abs w ≤ nat_abs request) ⊎ (w ≡ neg_ℤ (pos (idle_draw u)))) back (moves_no_more_lem u seconds p (nat_abs request) asked f a);
    }
