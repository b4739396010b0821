-- The code is the definition: idle where no watt is deliverable, and those watts out otherwise, with what they remove. They are no more than asked,
-- so their removal fits.
use mathlib.Core.Path.{ap, ◌∙◌}
use native.Mathlib.Omega.{arith}
use Rattle.energy.proofs.LimitLaws.{deliverable_most}
use Rattle.flows.proofs.FlowLaws.{discharged_none, discharged_some, out_moves}
use Rattle.flows.specs.Posts.{move_by}
use Rattle.flows.proofs.flows.discharge_less.Goals as goal

pub returns-then-x-eq0 : goal.returns-then-x-eq0
returns-then-x-eq0 c =
    let x = c.args in
    let none = discharged_none x.u x.seconds x.p c.requires.reserve_le_stored c.deliver-x.result c.deliver-x.ensures c.if-x-eq0.true in
    c.idle.ensures ∙ ap (move_by x.u x.seconds) none

pub removed-requires : goal.removed-requires
removed-requires c =
    let m = deliverable_most c.args.u c.args.seconds c.args.p in
    let e = c.deliver-x.ensures in record { ranged = c.requires.ranged; p_bound = omega arith }

pub returns : goal.returns
returns c =
    let x = c.args in
    let some = discharged_some x.u x.seconds x.p c.requires.reserve_le_stored c.deliver-x.result c.deliver-x.ensures c.if-x-eq0.false in
    out_moves x.u x.seconds c.deliver-x.result some c.removed.result c.removed.ensures
