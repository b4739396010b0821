-- By the request's sign, as the definition has it.
use mathlib.Core.Path.{sym, ◌∙◌}
use mathlib.Core.Bool.{true, false}
use mir.Syntax.{w32}
use Rattle.whole.proofs.SignLaws.{sign_is}
use Rattle.storage.specs.Posts.{row_unit}
use Rattle.storage.proofs.GivingLaws.{of_by}
use Rattle.storage.proofs.giving.kind_of.Goals as goal
use Rattle.storage.proofs.giving.kind_of.Goals.{Else-request-lt0, Start, Then-request-lt0}

pub returns-then-request-lt0 : goal.returns-then-request-lt0
returns-then-request-lt0 c =
    let a = c.args in
    c.kind_in.ensures
    ∙ of_by (row_unit a.units.now a.i a.held) a.seconds a.p a.clear a.request true (sym (sign_is w32 a.request c.ranges.request) ∙ c.if-request-lt0.true)

pub returns : goal.returns
returns c =
    let a = c.args in
    c.kind_out.ensures
    ∙ of_by (row_unit a.units.now a.i a.held) a.seconds a.p a.clear a.request false (sym (sign_is w32 a.request c.ranges.request) ∙ c.if-request-lt0.false)
