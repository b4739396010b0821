-- The circle's vars, of the limited var request beside the size of the watts.
use mathlib.Core.Path.{◌∙◌}
use mir.Syntax.{w32}
use Rattle.whole.proofs.SignLaws.{read}
use Rattle.energy.proofs.LimitLaws.{vars_are}
use Rattle.energy.proofs.limits.vars.Goals as goal

pub returns : goal.returns
returns c =
    let x = c.args in
    read w32 c.vars_in.result c.vars_in.type_inv
    ∙ vars_are x.u x.watts c.struct_told-1.given.1.1.1.1.1.1.0.1 c.ranges.watts.sfits c.below_zero32-below.result c.limited.result c.unsigned_abs.result c.vars_in.result
    c.below_zero32-below.ensures c.limited.ensures c.unsigned_abs.ensures.value c.vars_in.ensures
