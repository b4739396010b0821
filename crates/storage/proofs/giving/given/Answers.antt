-- The outcome of watts that flow out, each number by its definition, with the vars as they are; all fit, since the unit can carry what flows.
use mathlib.Core.Path.{refl, ◌∙◌}
use mathlib.Core.Bool.{false}
use native.Mathlib.Nat.{le_trans}
use native.Mathlib.Omega.{arith}
use mir.Syntax.{w32}
use Rattle.whole.proofs.SignLaws.{signed_fits}
use Rattle.unit.proofs.RangeLaws.{bounds}
use Rattle.flows.specs.declared.Flow.TheVariants.{Out}
use Rattle.flows.specs.Posts.{Moving}
use Rattle.flows.proofs.FlowLaws.{out_small, out_held, out_covers, out_fits, out_watts, out_stored, out_loss}
use Rattle.storage.proofs.StepLaws.{grid_fits, outcome_with_lem, flow_carried_small, flow_loss_fits}
use Rattle.storage.proofs.GivingLaws.{gives_moving}
use Rattle.storage.proofs.giving.given.Goals as goal
use Rattle.storage.proofs.giving.given.Goals.{After-at_grid, After-removed-moved, After-signed32, Start}

-- what flows, with what it moves
moving : (r : After-removed-moved) → Moving r.args.u r.args.seconds (Out r.args.x) r.removed-moved.result
moving r = gives_moving r.args.u r.args.seconds r.args.x r.requires.ranged r.requires.carried r.removed-moved.result r.removed-moved.ensures

pub removed-moved-requires : goal.removed-moved-requires
removed-moved-requires c = record { ranged = c.requires.ranged; p_bound = le_trans c.requires.carried.0 (bounds c.requires.ranged).kva_most }

pub overflow_mul-lost : goal.overflow_mul-lost
overflow_mul-lost c = record { fits = grid_fits c.args.u c.args.seconds c.requires.ranged }

pub signed32-requires : goal.signed32-requires
signed32-requires c = signed_fits w32 false c.args.x (omega (arith, out_small (moving (goal.at.signed32-requires c).After-removed-moved) refl))

pub at_grid-requires : goal.at_grid-requires
at_grid-requires c =
    let w = c.signed32 in
    let a = c.args in record { carried_bound = flow_carried_small a.u a.seconds (Out a.x) c.removed-moved.result (moving (goal.at.at_grid-requires c).After-removed-moved) w.result (w.ensures ∙ out_watts (moving (goal.at.at_grid-requires c).After-removed-moved) refl) w.type_inv; grid_loss_bound = (bounds c.requires.ranged).grid_most }

pub overflow_sub-result : goal.overflow_sub-result
overflow_sub-result c = out_held (moving (goal.at.overflow_sub-result c).After-removed-moved) refl

pub overflow_mul-result : goal.overflow_mul-result
overflow_mul-result c = record { fits = out_fits (moving (goal.at.overflow_mul-result c).After-removed-moved) refl }

pub overflow_sub-result-2 : goal.overflow_sub-result-2
overflow_sub-result-2 c = out_covers (moving (goal.at.overflow_sub-result-2 c).After-removed-moved) refl

pub overflow_add-result : goal.overflow_add-result
overflow_add-result c =
    let a = c.args in
    record { fits = flow_loss_fits a.u a.seconds (Out a.x) c.removed-moved.result (moving (goal.at.overflow_add-result c).After-removed-moved) _ (out_loss (moving (goal.at.overflow_add-result c).After-removed-moved) refl) }

pub returns : goal.returns
returns c =
    let a = c.args in
    outcome_with_lem a.u a.seconds (Out a.x) c.signed32.result c.at_grid.result a.vars c.signed32.type_inv c.at_grid.type_inv c.ranges.vars.sfits _ _
    (c.signed32.ensures ∙ out_watts (moving (goal.at.returns c).After-removed-moved) refl) c.at_grid.ensures (out_stored (moving (goal.at.returns c).After-removed-moved) refl) (out_loss (moving (goal.at.returns c).After-removed-moved) refl)
