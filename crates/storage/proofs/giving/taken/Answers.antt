-- The outcome of watts that flow in, each number by its definition, with the vars as they are; all fit, since the unit can carry what flows.
use mathlib.Core.Path.{refl, ◌∙◌}
use mathlib.Core.Bool.{true}
use native.Mathlib.Nat.{le_trans}
use native.Mathlib.Omega.{arith}
use mir.Syntax.{w32}
use Rattle.whole.proofs.SignLaws.{signed_fits}
use Rattle.unit.proofs.RangeLaws.{bounds}
use Rattle.flows.specs.declared.Flow.TheVariants.{In}
use Rattle.flows.specs.Posts.{Moving}
use Rattle.flows.proofs.FlowLaws.{in_small, in_room, in_covered, in_fits, in_watts_lem, in_stored, in_loss}
use Rattle.storage.proofs.StepLaws.{grid_fits, outcome_with_lem, flow_carried_small, flow_loss_fits}
use Rattle.storage.proofs.GivingLaws.{takes_moving}
use Rattle.storage.proofs.giving.taken.Goals as goal
use Rattle.storage.proofs.giving.taken.Goals.{After-added-moved, After-at_grid, After-signed32, Start}

-- what flows, with what it moves
moving : (r : After-added-moved) → Moving r.args.u r.args.seconds (In r.args.x) r.added-moved.result
moving r = takes_moving r.args.u r.args.seconds r.args.x r.requires.ranged r.requires.carried r.added-moved.result r.added-moved.ensures

pub added-moved-requires : goal.added-moved-requires
added-moved-requires c = record { ranged = c.requires.ranged; p_bound = le_trans c.requires.carried.0 (bounds c.requires.ranged).kva_most }

pub overflow_mul-lost : goal.overflow_mul-lost
overflow_mul-lost c = record { fits = grid_fits c.args.u c.args.seconds c.requires.ranged }

pub signed32-requires : goal.signed32-requires
signed32-requires c = signed_fits w32 true c.args.x (omega (arith, in_small (moving (goal.at.signed32-requires c).After-added-moved) refl))

pub at_grid-requires : goal.at_grid-requires
at_grid-requires c =
    let w = c.signed32 in
    let a = c.args in record { carried_bound = flow_carried_small a.u a.seconds (In a.x) c.added-moved.result (moving (goal.at.at_grid-requires c).After-added-moved) w.result (w.ensures ∙ in_watts_lem (moving (goal.at.at_grid-requires c).After-added-moved) refl) w.type_inv; grid_loss_bound = (bounds c.requires.ranged).grid_most }

pub overflow_add-result : goal.overflow_add-result
overflow_add-result c = omega (arith, in_room (moving (goal.at.overflow_add-result c).After-added-moved) refl)

pub overflow_mul-result : goal.overflow_mul-result
overflow_mul-result c = record { fits = in_fits (moving (goal.at.overflow_mul-result c).After-added-moved) refl }

pub overflow_sub-result : goal.overflow_sub-result
overflow_sub-result c = in_covered (moving (goal.at.overflow_sub-result c).After-added-moved) refl

pub overflow_add-result-2 : goal.overflow_add-result-2
overflow_add-result-2 c =
    let a = c.args in
    record { fits = flow_loss_fits a.u a.seconds (In a.x) c.added-moved.result (moving (goal.at.overflow_add-result-2 c).After-added-moved) _ (in_loss (moving (goal.at.overflow_add-result-2 c).After-added-moved) refl) }

pub returns : goal.returns
returns c =
    let a = c.args in
    outcome_with_lem a.u a.seconds (In a.x) c.signed32.result c.at_grid.result a.vars c.signed32.type_inv c.at_grid.type_inv c.ranges.vars.sfits _ _
    (c.signed32.ensures ∙ in_watts_lem (moving (goal.at.returns c).After-added-moved) refl) c.at_grid.ensures (in_stored (moving (goal.at.returns c).After-added-moved) refl) (in_loss (moving (goal.at.returns c).After-added-moved) refl)
