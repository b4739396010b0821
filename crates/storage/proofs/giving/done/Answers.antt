-- Of each kind what its function does; of a unit that idles by what the row keeps of it.
use mathlib.Core.Path.{◌≡◌, sym, ◌∙◌}
use lib.ListN.{get_or}
use Rattle.unit.specs.declared.Unit.{Unit}
use Rattle.rows.specs.Rows.{no_row, unit_by, draw_by}
use Rattle.flows.specs.declared.Flow.TheVariants.{Out, In}
use Rattle.storage.specs.Posts.{row_unit, rest_draw, flow_by}
use Rattle.storage.proofs.StepLaws.{resting_small}
use Rattle.storage.proofs.GivingLaws.{holding_draw, flow_gives, flow_takes, flow_idles, done_asks, done_is, rests_is}
use Rattle.storage.proofs.giving.done.Goals as goal
use Rattle.storage.proofs.giving.done.Goals.{Start}

abbrev unit : Start → Unit
unit s = row_unit s.args.units.now s.args.i s.args.held

pub given-requires : goal.given-requires
given-requires c =
    let a = c.args in let parts = done_asks (unit (goal.at.given-requires c).Start) c.unit_holding.result c.unit_holding.ensures a.seconds (Out a.p) (flow_by a.kind a.p) (flow_gives a.kind a.p c.if-kind-eq-GIVES.true)
    c.requires.ranged c.requires.carried in record { ranged = parts.0; carried = parts.1 }

pub returns-then-kind-eq-GIVES : goal.returns-then-kind-eq-GIVES
returns-then-kind-eq-GIVES c =
    let a = c.args in
    done_is (unit (goal.at.returns-then-kind-eq-GIVES c).Start) c.unit_holding.result c.unit_holding.ensures a.seconds (Out a.p) (flow_by a.kind a.p) (flow_gives a.kind a.p c.if-kind-eq-GIVES.true)
    a.vars c.ranges.vars.sfits c.given.result c.given.ensures

pub taken-requires : goal.taken-requires
taken-requires c =
    let a = c.args in let parts = done_asks (unit (goal.at.taken-requires c).Start) c.unit_holding-then-kind-eq-TAKES.result c.unit_holding-then-kind-eq-TAKES.ensures a.seconds (In a.p) (flow_by a.kind a.p) (flow_takes a.kind a.p c.if-kind-eq-TAKES.true)
    c.requires.ranged c.requires.carried in record { ranged = parts.0; carried = parts.1 }

pub returns-then-kind-eq-TAKES : goal.returns-then-kind-eq-TAKES
returns-then-kind-eq-TAKES c =
    let a = c.args in
    done_is (unit (goal.at.returns-then-kind-eq-TAKES c).Start) c.unit_holding-then-kind-eq-TAKES.result c.unit_holding-then-kind-eq-TAKES.ensures a.seconds (In a.p) (flow_by a.kind a.p) (flow_takes a.kind a.p c.if-kind-eq-TAKES.true)
    a.vars c.ranges.vars.sfits c.taken.result c.taken.ensures

-- what the unit draws while it idles
draw : (s : Start) → draw_by (get_or s.args.units.now s.args.i no_row) ≡ rest_draw (unit_by (get_or s.args.units.now s.args.i no_row))
draw s = (s.requires.rested.told s.args.i s.requires.i_in_bounds).draw_is

pub rest-requires : goal.rest-requires
rest-requires c =
    let a = c.args in
    resting_small (unit (goal.at.rest-requires c).Start) c.requires.ranged.unit _ (draw (goal.at.rest-requires c).Start ∙ sym (holding_draw (unit_by (get_or a.units.now a.i no_row)) a.held))

pub returns : goal.returns
returns c =
    let a = c.args in
    rests_is (unit_by (get_or a.units.now a.i no_row)) a.held a.seconds _ (draw (goal.at.returns c).Start) (flow_by a.kind a.p)
    (flow_idles a.kind a.p c.if-kind-eq-GIVES.false c.if-kind-eq-TAKES.false) a.vars c.ranges.vars.sfits c.rest.result c.rest.ensures
