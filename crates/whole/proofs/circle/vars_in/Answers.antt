-- The sign is put on the smaller of v and the leg beside the watts, which is no larger than v, and so it fits.
use mathlib.Core.Path.{ap, ◌∙◌}
use native.Mathlib.Omega.{arith}
use mir.Syntax.{w32}
use Rattle.whole.specs.Signed.{signed}
use Rattle.whole.specs.Circle.{vars_in}
use Rattle.whole.proofs.SignLaws.{read, signed_fits}
use Rattle.whole.proofs.circle.vars_in.Goals as goal

pub signed32-requires : goal.signed32-requires
signed32-requires c =
    let a = c.args in
    let few = c.requires in
    let least = c.beside.ensures in
    signed_fits w32 a.below c.beside.result (omega arith)

pub returns : goal.returns
unfolding vars_in
returns c =
    let a = c.args in
    read w32 c.signed32.result c.signed32.type_inv ∙ c.signed32.ensures ∙ ap (signed a.below) c.beside.ensures
