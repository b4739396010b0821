-- Against the mode the answer is 0, and otherwise z has the sign of the mode, and its size is limited to the rating.
use Rattle.rules.proofs.RuleLaws.{turned_is, small_fits, small_is, large_fits, large_is}
use Rattle.rules.proofs.rules.directed.Goals as goal

pub returns-then-charging-negative : goal.returns-then-charging-negative
returns-then-charging-negative c =
    let a = c.args in
    turned_is a.charging a.rating a.z c.requires c.ranges.z.sfits c.below_zero64-negative.result c.below_zero64-negative.ensures c.if-charging-negative.true

pub signed32-requires : goal.signed32-requires
signed32-requires c =
    let a = c.args in
    small_fits a.charging a.rating a.z c.requires c.ranges.z.sfits c.below_zero64-negative.result c.below_zero64-negative.ensures c.if-charging-negative.false c.unsigned_abs-size.result c.unsigned_abs-size.ensures.value c.if-size-rating.true

pub returns-then-size-rating : goal.returns-then-size-rating
returns-then-size-rating c =
    let a = c.args in
    small_is a.charging a.rating a.z c.requires c.ranges.z.sfits c.below_zero64-negative.result c.below_zero64-negative.ensures c.if-charging-negative.false c.unsigned_abs-size.result c.unsigned_abs-size.ensures.value c.if-size-rating.true c.signed32.result c.signed32.type_inv c.signed32.ensures

pub signed32-requires-2 : goal.signed32-requires-2
signed32-requires-2 c =
    let a = c.args in
    large_fits a.charging a.rating a.z c.requires c.ranges.z.sfits c.below_zero64-negative.result c.below_zero64-negative.ensures c.if-charging-negative.false

pub returns : goal.returns
returns c =
    let a = c.args in
    large_is a.charging a.rating a.z c.requires c.ranges.z.sfits c.below_zero64-negative.result c.below_zero64-negative.ensures c.if-charging-negative.false c.unsigned_abs-size.result c.unsigned_abs-size.ensures.value c.if-size-rating.false c.signed32-2.result c.signed32-2.type_inv c.signed32-2.ensures
