-- The function's curve can be read, and its value lies within -10,000 and 10,000, which 32 bits hold. Assumes nothing.
use mathlib.Core.Path.{refl}
use native.Mathlib.Omega.{arith}
use Rattle.lead.proofs.FunctionLaws.{curve_usable, value_fits, value_is, value_most}
use Rattle.lead.proofs.leading.value_at.Goals as goal
use Rattle.lead.proofs.leading.value_at.Goals.{Start}

pub overflow_add-at : goal.overflow_add-at
overflow_add-at c = let w = c.requires.within refl in omega arith

pub value-requires : goal.value-requires
value-requires c = curve_usable c.args.bytes.now c.args.at c.requires

pub overflow_cast-result : goal.overflow_cast-result
overflow_cast-result c =
    let a = c.args in
    value_fits a.bytes.now a.at c.requires a.x c.ranges.x.fits c.value.result c.value.type_inv c.value.ensures

pub returns : goal.returns
returns c =
    let a = c.args in record { value = value_is a.bytes.now a.at c.requires a.x c.ranges.x.fits c.value.result c.value.type_inv c.value.ensures; result_bound = value_most a.bytes.now a.at c.requires a.x c.ranges.x.fits c.value.result c.value.type_inv c.value.ensures }
