-- A removal is at most what is available exactly when the watts are at most the quotient that the code computes, so the largest such count up to p is the
-- smaller of the two. Nothing wraps: 10^13 J times 10,000.
use mathlib.Core.Path.{sym, ◌∙◌}
use Prim.Native.Nat.{◌-◌, ◌*◌, ◌≤◌}
use native.Mathlib.Nat.{mul-le-mul, le_of_lt}
use native.Mathlib.Omega.{arith}
use Rattle.unit.proofs.RangeLaws.{bounds}
use Rattle.energy.proofs.EnergyLaws.{delivered_room}
use Rattle.energy.proofs.LimitLaws.{deliverable_is, deliverable_none, deliverable_empty}
use Rattle.energy.proofs.energy.deliver.Goals as goal

pub returns-then-u : goal.returns-then-u
returns-then-u c =
    deliverable_empty c.args.u c.args.seconds c.args.p (bounds c.requires) c.if-u.true

pub overflow_mul-drawn : goal.overflow_mul-drawn
overflow_mul-drawn c =
    let b = bounds c.requires in
    let m : (c.args.u.stored - c.args.u.reserve) * c.args.u.discharge ≤ 10000000000000 * 10000 = mul-le-mul {n₂ = 10000000000000} (omega arith) b.discharge_most in
    omega arith

pub nonzero_div-drawn : goal.nonzero_div-drawn
nonzero_div-drawn c = let b = bounds c.requires in omega arith

pub returns-then-drawn-idle : goal.returns-then-drawn-idle
returns-then-drawn-idle c =
    deliverable_none c.args.u c.args.seconds c.args.p (bounds c.requires) (le_of_lt c.if-drawn-idle.true)

pub overflow_mul-drawn-3 : goal.overflow_mul-drawn-3
overflow_mul-drawn-3 c =
    let b = bounds c.requires in
    let u = c.args.u in
    let m = delivered_room (u.stored - u.reserve) u.discharge c.args.seconds u.dc_loss u.inverter (omega arith) b.discharge_most b.seconds_least b.inverter_most in
    omega arith

pub returns : goal.returns
returns c =
    c.min.ensures ∙ sym (deliverable_is c.args.u c.args.seconds c.args.p (bounds c.requires))
