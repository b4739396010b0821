-- The code is the definition, whose difference ends at 0. Nothing wraps: at most 100,000,000 W over a day, times 10,000.
use mathlib.Core.Path.{refl}
use Prim.Native.Nat.{◌-◌, ◌*◌, ◌/◌, ◌≤◌}
use native.Mathlib.Nat.{mul-le-mul, lt_of_le_of_lt}
use native.Mathlib.Omega.{arith}
use lib.Dec.{lit<}
use Rattle.unit.proofs.RangeLaws.{bounds}
use Rattle.energy.proofs.EnergyLaws.{added_room, added_none}
use Rattle.energy.specs.Limits.{added_by}
use Rattle.energy.proofs.energy.added.Goals as goal

pub overflow_mul-d : goal.overflow_mul-d
overflow_mul-d c =
    let b = bounds c.requires.ranged in
    let m : c.args.p * c.args.u.inverter ≤ 100000000 * 10000 = mul-le-mul c.requires.p_bound b.inverter_most in
    omega arith

pub returns-then-d-idle : goal.returns-then-d-idle
unfolding added_by
returns-then-d-idle c =
    let x = c.args in
    added_none (x.p * x.u.inverter / 10000 - x.u.dc_loss) x.seconds x.u.charge (omega arith)

pub overflow_mul-result : goal.overflow_mul-result
overflow_mul-result c =
    let b = bounds c.requires.ranged in
    let m = added_room c.args.p c.args.u.inverter c.args.u.dc_loss c.args.seconds c.requires.p_bound b.inverter_most b.seconds_most in
    omega arith

pub overflow_mul-result-2 : goal.overflow_mul-result-2
overflow_mul-result-2 c =
    let b = bounds c.requires.ranged in
    let m = added_room c.args.p c.args.u.inverter c.args.u.dc_loss c.args.seconds c.requires.p_bound b.inverter_most b.seconds_most in
    record { fits = lt_of_le_of_lt (mul-le-mul m b.charge_most) (lit< tt) }

pub returns : goal.returns
unfolding added_by
returns c = refl
