-- All that is asked where the store has room for what it adds, since then it is the largest count, and idle where that is nothing; less otherwise.
use mathlib.Core.Path.{sym, ap, ◌∙◌, subst}
use Prim.Native.Nat.{ℕ, ◌-◌, ◌≤◌}
use Rattle.unit.proofs.RangeLaws.{bounds}
use Rattle.energy.proofs.LimitLaws.{takeable_all}
use Rattle.flows.proofs.FlowLaws.{charged_none, charged_some, in_moves}
use Rattle.flows.specs.Posts.{move_by}
use Rattle.energy.specs.Limits.{added_by}
use Rattle.flows.proofs.flows.charge.Goals as goal

pub overflow_sub-u : goal.overflow_sub-u
overflow_sub-u c = (bounds c.requires.ranged).stored_most

pub returns-then-all-eq0 : goal.returns-then-all-eq0
returns-then-all-eq0 c =
    let x = c.args in
    let fits = subst (λ (n : ℕ). n ≤ x.u.rated - x.u.stored) c.added-all.ensures c.if-u-all.false in
    let same = takeable_all x.u x.seconds x.p fits in
    let none = charged_none x.u x.seconds x.p (ap (added_by x.u x.seconds) (sym same) ∙ sym c.added-all.ensures ∙ c.if-all-eq0.true) in
    c.idle.ensures ∙ ap (move_by x.u x.seconds) none

pub returns : goal.returns
returns c =
    let x = c.args in
    let fits = subst (λ (n : ℕ). n ≤ x.u.rated - x.u.stored) c.added-all.ensures c.if-u-all.false in
    let all = charged_some x.u x.seconds x.p x.p (takeable_all x.u x.seconds x.p fits) (λ z. c.if-all-eq0.false (c.added-all.ensures ∙ z)) in
    in_moves x.u x.seconds x.p all c.added-all.result c.added-all.ensures
