-- By the test: what is requested, or what stood. Assumes nothing.
use mathlib.Core.Path.{sym, ap, ◌∙◌}
use mathlib.Core.Bool.{Bool, cond}
use mir.Syntax.{w32}
use Rattle.whole.proofs.SignLaws.{read}
use Rattle.lead.proofs.leading.kept.Goals as goal
use Rattle.lead.proofs.leading.kept.Goals.{Start}

pub returns-then-l : goal.returns-then-l
returns-then-l c =
    let a = c.args in
    read w32 a.requested c.ranges.requested.sfits ∙ sym (ap (λ (t : Bool). cond t a.requested a.last) c.if-l.true)

pub returns-else-l : goal.returns-else-l
returns-else-l c =
    let a = c.args in
    read w32 a.last c.ranges.last.sfits ∙ sym (ap (λ (t : Bool). cond t a.requested a.last) c.if-l.false)
