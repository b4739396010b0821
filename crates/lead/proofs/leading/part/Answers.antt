-- The size of the product is cut, and the sign of the curve's value put on it; the part is no more than the base, and so it fits. Assumes nothing.
use mathlib.Core.Path.{◌∙◌}
use mir.Syntax.{w32}
use Rattle.whole.proofs.SignLaws.{read}
use Rattle.lead.proofs.LeadLaws.{product_fits, parts_fit, signed_small, part_is}
use Rattle.lead.proofs.leading.part.Goals as goal
use Rattle.lead.proofs.leading.part.Goals.{After-below_zero32, After-unsigned_abs-size, After-struct_told-1, Start}

pub overflow_mul-parts : goal.overflow_mul-parts
overflow_mul-parts c =
    let a = c.args in
    record { fits = product_fits a.l.y a.base c.requires.modest.y_small c.requires.base_bound c.struct_told-1.given.1.1.1.0.1 c.unsigned_abs-size.result c.unsigned_abs-size.ensures.value }

pub overflow_cast-parts-2 : goal.overflow_cast-parts-2
overflow_cast-parts-2 c =
    let a = c.args in
    record { fits = parts_fit a.l.y a.base c.requires.modest.y_small c.requires.base_bound c.struct_told-1.given.1.1.1.0.1 c.unsigned_abs-size.result c.unsigned_abs-size.ensures.value }

pub signed32-requires : goal.signed32-requires
signed32-requires c =
    let a = c.args in
    signed_small a.l.y a.base c.requires.modest.y_small c.requires.base_bound c.struct_told-1.given.1.1.1.0.1 c.unsigned_abs-size.result c.unsigned_abs-size.ensures.value c.below_zero32.result

pub returns : goal.returns
returns c =
    let a = c.args in
    read w32 c.signed32.result c.signed32.type_inv
    ∙ part_is a.l.y a.base c.requires.modest.y_small c.requires.base_bound c.struct_told-1.given.1.1.1.0.1 c.unsigned_abs-size.result c.unsigned_abs-size.ensures.value
    c.below_zero32.result c.below_zero32.ensures c.signed32.result c.signed32.ensures
