-- An addition is at most the room exactly when the watts are at most the quotient that the code computes, so the largest such count up to p is the smaller
-- of the two. Nothing wraps: what 10^13 J of room keep is at most ten watts to a joule, times 10,000.
use mathlib.Core.Path.{sym, ◌∙◌}
use Prim.Native.Nat.{◌-◌}
use native.Mathlib.Nat.{mul-le-mul, lt_of_le_of_lt, lt_of_lt_of_le}
use native.Mathlib.Omega.{arith}
use lib.Dec.{lit<}
use Rattle.unit.proofs.RangeLaws.{bounds}
use Rattle.energy.proofs.EnergyLaws.{keepable_most}
use Rattle.energy.proofs.LimitLaws.{takeable_is}
use Rattle.energy.proofs.energy.take_in.Goals as goal

pub overflow_sub-room : goal.overflow_sub-room
overflow_sub-room c = let b = bounds c.requires in omega arith

pub overflow_add-kept : goal.overflow_add-kept
overflow_add-kept c = let b = bounds c.requires in omega arith

pub overflow_mul-kept : goal.overflow_mul-kept
overflow_mul-kept c = let b = bounds c.requires in omega arith

pub overflow_mul-kept-2 : goal.overflow_mul-kept-2
overflow_mul-kept-2 c =
    let b = bounds c.requires in
    record { fits = lt_of_le_of_lt (mul-le-mul b.seconds_most b.charge_most) (lit< tt) }

pub nonzero_div-kept : goal.nonzero_div-kept
nonzero_div-kept c =
    let b = bounds c.requires in
    lt_of_lt_of_le (lit< tt) (mul-le-mul b.seconds_least b.charge_least)

pub overflow_add-d : goal.overflow_add-d
overflow_add-d c =
    let b = bounds c.requires in
    let k = keepable_most (c.args.u.rated - c.args.u.stored) c.args.u.charge c.args.seconds b.charge_least b.seconds_least in
    omega arith

pub overflow_add-d-2 : goal.overflow_add-d-2
overflow_add-d-2 c =
    let b = bounds c.requires in
    let k = keepable_most (c.args.u.rated - c.args.u.stored) c.args.u.charge c.args.seconds b.charge_least b.seconds_least in
    omega arith

pub overflow_mul-d : goal.overflow_mul-d
overflow_mul-d c =
    let b = bounds c.requires in
    let k = keepable_most (c.args.u.rated - c.args.u.stored) c.args.u.charge c.args.seconds b.charge_least b.seconds_least in
    omega arith

pub nonzero_div-d : goal.nonzero_div-d
nonzero_div-d c = let b = bounds c.requires in omega arith

pub returns : goal.returns
returns c =
    c.min.ensures ∙ sym (takeable_is c.args.u c.args.seconds c.args.p (bounds c.requires))
