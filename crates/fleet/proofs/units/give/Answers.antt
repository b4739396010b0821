-- Where nothing leads, the step is that of the row's unit without a lead; otherwise it is the led one. Both go by what the row keeps, with what the unit holds now
-- in place of what the row says.
use lib.ListN.{get_or}
use Rattle.unit.specs.declared.Unit.{Unit}
use Rattle.rows.specs.Rows.{no_row, unit_by}
use Rattle.fleet.proofs.UnitLaws.{ranged, give_asks, step_is, kept_is, own_is, own_keeps}
use mathlib.Core.Path.{ap}
use mathlib.Core.Bool.{not}
use Rattle.fleet.proofs.units.give.Goals as goal
use Rattle.fleet.proofs.units.give.Goals.{Start, Then-not-l}

-- the row's unit
abbrev unit : Start → Unit
unit s = unit_by (get_or s.args.units.now s.args.i no_row)

pub step_of-requires : goal.step_of-requires
step_of-requires c =
    let a = c.args in record { i_in_bounds = c.requires.i_in_bounds; rested = c.requires.rested; ranged = ranged a.l (unit (goal.at.step_of-requires c).Start) a.held a.last a.seconds a.request c.requires.ranged c.requires.held_bound c.requires.guiding c.ranges.request.sfits }

pub returns-then-not-l : goal.returns-then-not-l
returns-then-not-l c =
    let a = c.args in record { outcome_value = own_is a.l (unit (goal.at.returns-then-not-l c).Start) a.held a.last a.seconds a.request c.requires.ranged c.requires.held_bound c.requires.guiding c.ranges.request.sfits (ap not c.if-not-l.true) c.step_of.result c.step_of.ensures; vars_value = own_keeps a.l (unit (goal.at.returns-then-not-l c).Start) a.held a.last a.seconds a.request c.requires.ranged c.requires.held_bound c.requires.guiding c.ranges.request.sfits (ap not c.if-not-l.true) }

pub give-requires : goal.give-requires
give-requires c =
    let a = c.args in let rest = give_asks a.l (unit (goal.at.give-requires c).Start) a.held a.last a.seconds a.request c.requires.ranged c.requires.held_bound c.requires.guiding c.ranges.request.sfits in record { i_in_bounds = c.requires.i_in_bounds; rested = c.requires.rested; ranged = rest.0; guiding = rest.1 }

pub returns : goal.returns
returns c =
    let a = c.args in record { outcome_value = step_is a.l (unit (goal.at.returns c).Start) a.held a.last a.seconds a.request c.requires.ranged c.requires.held_bound c.requires.guiding c.ranges.request.sfits c.give.result.outcome c.give.ensures.outcome_value; vars_value = kept_is a.l (unit (goal.at.returns c).Start) a.held a.last a.seconds a.request c.requires.ranged c.requires.held_bound c.requires.guiding c.ranges.request.sfits c.give.result.vars c.give.ensures.vars_value }
