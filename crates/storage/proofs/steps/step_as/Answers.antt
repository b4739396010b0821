-- The code is the definition: the edition's test, and then a step of the unit as the edition has it.
use mathlib.Core.Path.{ap, ◌∙◌}
use mathlib.Core.Bool.{not}
use mir.Syntax.{w32}
use Rattle.whole.proofs.SignLaws.{read}
use Rattle.storage.proofs.StepLaws.{no_edition, as_edition}
use Rattle.storage.proofs.steps.step_as.Goals as goal
use Rattle.storage.proofs.steps.step_as.Goals.{After-edition_in, After-in_edition, Else-not-edition_in, Start, Then-not-edition_in}

pub returns-then-not-edition_in : goal.returns-then-not-edition_in
returns-then-not-edition_in c =
    let x = c.args in
    no_edition x.edition x.u x.seconds x.request c.edition_in.result c.edition_in.ensures (ap not c.if-not-edition_in.true) c.refused.result c.refused.ensures

pub returns : goal.returns
returns c =
    let x = c.args in
    c.step.ensures
    ∙ cc (c.in_edition.ensures, read w32 x.request c.ranges.request.sfits)
    ∙ as_edition x.edition x.u x.seconds x.request c.edition_in.result c.edition_in.ensures (ap not c.if-not-edition_in.false)
