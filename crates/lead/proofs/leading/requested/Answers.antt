-- By the two tests: the vars led, those last requested, or the own. Assumes nothing.
use mathlib.Core.Path.{ap, ◌∙◌}
use Prim.Native.Nat.{ℕ}
use native.Mathlib.Nat.{le_trans, le_of_eq}
use lib.IntN.{pos, ◌*ℤ◌}
use mir.Syntax.{w32}
use Rattle.whole.proofs.SignLaws.{read}
use Rattle.whole.specs.Quotient.{cut}
use Rattle.lead.proofs.LeadLaws.{base_le, requested_fresh, requested_last, requested_own}
use Rattle.lead.proofs.leading.requested.Goals as goal
use Rattle.lead.proofs.leading.requested.Goals.{After-base, Start}

-- the base is at most S
pub part-requires : goal.part-requires
part-requires c =
    let a = c.args in record { modest = c.requires.modest; base_bound = le_trans (le_of_eq c.base.ensures) (le_trans (base_le a.l.after a.s a.watts) c.requires.s_bound) }

pub returns-then-l : goal.returns-then-l
returns-then-l c =
    let a = c.args in
    read w32 c.part.result c.part.type_inv ∙ c.part.ensures ∙ ap (λ (n : ℕ). cut (pos n *ℤ a.l.y) 10000) c.base.ensures
    ∙ requested_fresh a.l a.own a.last a.s a.watts c.if-l.true

pub returns-then-l-2 : goal.returns-then-l-2
returns-then-l-2 c =
    let a = c.args in
    read w32 a.last c.ranges.last.sfits ∙ requested_last a.l a.own a.last a.s a.watts c.if-l.false c.if-l-2.true

pub returns-else-l-2 : goal.returns-else-l-2
returns-else-l-2 c =
    let a = c.args in
    read w32 a.own c.ranges.own.sfits ∙ requested_own a.l a.own a.last a.s a.watts c.if-l.false c.if-l-2.false
