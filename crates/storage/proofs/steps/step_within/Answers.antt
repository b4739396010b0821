-- A step is what flows with what that moves, and then the watts, the vars, the store and the loss of that flow, which the unit can carry; at the grid less the
-- loss there, which is lost too.
use Rattle.unit.proofs.RangeLaws.{bounds}
use Rattle.storage.proofs.StepLaws.{moving, grid_fits, outcome_by, flow_carried_small, flow_loss_fits, step_by}
use Rattle.storage.proofs.steps.step_within.Goals as goal
use Rattle.storage.proofs.steps.step_within.Goals.{After-at_grid, After-flow-m, After-stored, After-vars, After-watts-carried, Start}

pub watts-carried-requires : goal.watts-carried-requires
watts-carried-requires c =
    moving c.args.u c.args.seconds c.args.request c.ranges.request.sfits c.flow-m.result c.flow-m.ensures c.requires

pub overflow_mul-lost : goal.overflow_mul-lost
overflow_mul-lost c = record { fits = grid_fits c.args.u c.args.seconds c.requires }

pub at_grid-requires : goal.at_grid-requires
at_grid-requires c =
    let m = moving c.args.u c.args.seconds c.args.request c.ranges.request.sfits c.flow-m.result c.flow-m.ensures c.requires in record { carried_bound = flow_carried_small c.args.u c.args.seconds c.flow-m.result.flow c.flow-m.result.moved m c.watts-carried.result c.watts-carried.ensures c.watts-carried.type_inv; grid_loss_bound = (bounds c.requires).grid_most }

pub vars-requires : goal.vars-requires
vars-requires c = (bounds c.requires).vars_most

pub stored-requires : goal.stored-requires
stored-requires c =
    moving c.args.u c.args.seconds c.args.request c.ranges.request.sfits c.flow-m.result c.flow-m.ensures c.requires

pub loss-requires : goal.loss-requires
loss-requires c =
    moving c.args.u c.args.seconds c.args.request c.ranges.request.sfits c.flow-m.result c.flow-m.ensures c.requires

pub overflow_add-result : goal.overflow_add-result
overflow_add-result c =
    let m = moving c.args.u c.args.seconds c.args.request c.ranges.request.sfits c.flow-m.result c.flow-m.ensures c.requires in
    record { fits = flow_loss_fits c.args.u c.args.seconds c.flow-m.result.flow c.flow-m.result.moved m c.loss.result c.loss.ensures }

pub returns : goal.returns
returns c =
    let o = outcome_by c.args.u c.args.seconds c.flow-m.result.flow c.watts-carried.result c.at_grid.result c.vars.result
    c.watts-carried.type_inv c.at_grid.type_inv c.vars.type_inv c.stored.result c.loss.result
    c.watts-carried.ensures c.at_grid.ensures c.vars.ensures c.stored.ensures c.loss.ensures in
    step_by c.args.u c.args.seconds c.args.request c.ranges.request.sfits c.flow-m.result c.flow-m.ensures _ o
