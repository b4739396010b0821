-- The code is the definition: the watts that can be taken with what they add, idle where they add nothing. They are no more than asked, so their
-- addition fits.
use mathlib.Core.Path.{ap, ◌∙◌}
use native.Mathlib.Omega.{arith}
use Rattle.energy.proofs.LimitLaws.{takeable_most}
use Rattle.flows.proofs.FlowLaws.{charged_none, charged_some, in_moves}
use Rattle.flows.specs.Posts.{move_by}
use Rattle.flows.proofs.flows.charge_less.Goals as goal

pub added-moved-requires : goal.added-moved-requires
added-moved-requires c =
    let m = takeable_most c.args.u c.args.seconds c.args.p in
    let e = c.take_in-x.ensures in record { ranged = c.requires.ranged; p_bound = omega arith }

pub returns-then-moved-eq0 : goal.returns-then-moved-eq0
returns-then-moved-eq0 c =
    let x = c.args in
    let none = charged_none x.u x.seconds x.p (cc (c.take_in-x.ensures, c.added-moved.ensures, c.if-moved-eq0.true)) in
    c.idle.ensures ∙ ap (move_by x.u x.seconds) none

pub returns : goal.returns
returns c =
    let x = c.args in
    let t = c.take_in-x in
    let some = charged_some x.u x.seconds x.p t.result t.ensures (λ z. c.if-moved-eq0.false (cc (z, c.added-moved.ensures))) in
    in_moves x.u x.seconds t.result some c.added-moved.result c.added-moved.ensures
