-- The vars are requested after the watts, or whatever these are. Assumes nothing.
use Rattle.storage.specs.Posts.{row_unit}
use Rattle.guided.proofs.SharedLaws.{guiding_back}
use Rattle.guided.proofs.UnitLaws.{step_read, kept_read}
use Rattle.guided.proofs.units.give.Goals as goal
use Rattle.guided.proofs.units.give.Goals.{Start}

pub after_watts-requires : goal.after_watts-requires
after_watts-requires c =
    let a = c.args in record { i_in_bounds = c.requires.i_in_bounds; rested = c.requires.rested; ranged = c.requires.ranged; guiding = guiding_back a.l a.last c.requires.guiding; after_value = c.if-l.true }

pub returns-then-l : goal.returns-then-l
returns-then-l c =
    let a = c.args in
    let u = row_unit a.units.now a.i a.held in
    let w = c.after_watts in record { outcome_value = step_read a.l u a.last a.seconds a.request c.requires.ranged c.requires.guiding c.ranges.request.sfits w.result.outcome w.ensures.outcome_value; vars_value = kept_read a.l u a.last a.seconds a.request c.requires.ranged c.requires.guiding c.ranges.request.sfits w.result.vars w.ensures.vars_value }

pub before_watts-requires : goal.before_watts-requires
before_watts-requires c =
    let a = c.args in record { i_in_bounds = c.requires.i_in_bounds; rested = c.requires.rested; ranged = c.requires.ranged; guiding = guiding_back a.l a.last c.requires.guiding; after_value = c.if-l.false }

pub returns : goal.returns
returns c =
    let a = c.args in
    let u = row_unit a.units.now a.i a.held in
    let w = c.before_watts in record { outcome_value = step_read a.l u a.last a.seconds a.request c.requires.ranged c.requires.guiding c.ranges.request.sfits w.result.outcome w.ensures.outcome_value; vars_value = kept_read a.l u a.last a.seconds a.request c.requires.ranged c.requires.guiding c.ranges.request.sfits w.result.vars w.ensures.vars_value }
