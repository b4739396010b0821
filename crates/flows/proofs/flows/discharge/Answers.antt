-- Idle where nothing is asked or below the reserve; all that is asked where its removal is available, since then it is the largest count; and less
-- otherwise.
use mathlib.Core.Path.{ap, ◌∙◌, subst}
use Prim.Native.Nat.{ℕ, ◌-◌, ◌≤◌}
use Rattle.energy.proofs.LimitLaws.{deliverable_all}
use Rattle.flows.proofs.FlowLaws.{discharged_nothing, discharged_below, discharged_some, out_moves}
use Rattle.flows.specs.Posts.{move_by}
use Rattle.flows.proofs.flows.discharge.Goals as goal

pub returns-then-p-eq0 : goal.returns-then-p-eq0
returns-then-p-eq0 c =
    let x = c.args in
    c.idle.ensures ∙ ap (move_by x.u x.seconds) (discharged_nothing x.u x.seconds x.p c.if-p-eq0.true)

pub returns-then-u : goal.returns-then-u
returns-then-u c =
    let x = c.args in
    c.idle-then-u.ensures ∙ ap (move_by x.u x.seconds) (discharged_below x.u x.seconds x.p c.if-u.true)

pub returns : goal.returns
returns c =
    let x = c.args in
    let fits = subst (λ (n : ℕ). n ≤ x.u.stored - x.u.reserve) c.removed-all.ensures c.if-u-all.false in
    let all = discharged_some x.u x.seconds x.p c.if-u.false x.p (deliverable_all x.u x.seconds x.p fits) c.if-p-eq0.false in
    out_moves x.u x.seconds x.p all c.removed-all.result c.removed-all.ensures
