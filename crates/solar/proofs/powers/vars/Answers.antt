-- The circle's vars, of the limited var request beside the watts.
use mathlib.Core.Path.{◌∙◌}
use mir.Syntax.{w32}
use Rattle.whole.proofs.SignLaws.{read}
use Rattle.solar.proofs.PowerLaws.{vars_are}
use Rattle.solar.proofs.powers.vars.Goals as goal
use Rattle.solar.proofs.powers.vars.Goals.{After-below_zero32-below, After-limited, After-struct_told-1}

pub returns : goal.returns
returns c =
    let a = c.args in
    read w32 c.vars_in.result c.vars_in.type_inv
    ∙ vars_are a.v a.watts c.struct_told-1.given.1.1.1.1.1.0.1 c.below_zero32-below.result c.limited.result c.vars_in.result
    c.below_zero32-below.ensures c.limited.ensures c.vars_in.ensures
