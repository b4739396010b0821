-- The size of the var request, brought down to the limit for its direction.
use mathlib.Core.Bool.{true, false}
use Rattle.energy.proofs.LimitLaws.{limited_by}
use Rattle.energy.proofs.limits.limited.Goals as goal

pub returns-then-below_zero32 : goal.returns-then-below_zero32
returns-then-below_zero32 c =
    limited_by c.args.u c.struct_told-1.given.1.1.1.1.1.1.0.1 c.unsigned_abs-size.result c.unsigned_abs-size.ensures.value c.below_zero32.result c.below_zero32.ensures true c.if-below_zero32.true c.min.result c.min.ensures

pub returns : goal.returns
returns c =
    limited_by c.args.u c.struct_told-1.given.1.1.1.1.1.1.0.1 c.unsigned_abs-size.result c.unsigned_abs-size.ensures.value c.below_zero32.result c.below_zero32.ensures false c.if-below_zero32.false c.min-2.result c.min-2.ensures
