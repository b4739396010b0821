-- By the test of what the base is, it is the leg beside the watts, or S. Assumes nothing.
use mathlib.Core.Path.{sym, ap, ◌∙◌}
use mathlib.Core.Bool.{Bool}
use Rattle.lead.specs.Lead.{base_of}
use Rattle.lead.proofs.leading.base.Goals as goal

pub returns-then-after : goal.returns-then-after
returns-then-after c =
    let a = c.args in
    c.leg.ensures ∙ sym (ap (λ (t : Bool). base_of t a.s a.watts) c.if-after.true)
