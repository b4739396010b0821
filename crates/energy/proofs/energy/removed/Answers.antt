-- The code is the definition, whose ceilings are these quotients. Nothing wraps: 100,000,000 W draw at most ten times as much, and with the idle loss, over a
-- day, times 10,000, that is below 2^60.
use mathlib.Core.Path.{sym, ap}
use Prim.Native.Nat.{ℕ, ◌+◌, ◌-◌, ◌*◌, ◌/◌, ◌≤◌}
use native.Mathlib.Nat.{mul_assoc}
use native.Mathlib.Omega.{arith}
use Rattle.whole.specs.Quotient.{ceil}
use Rattle.unit.proofs.RangeLaws.{bounds}
use Rattle.energy.proofs.EnergyLaws.{drawn_room}
use Rattle.energy.specs.Limits.{removed_by}
use Rattle.energy.proofs.energy.removed.Goals as goal
use Rattle.energy.proofs.energy.removed.Goals.{Start}

-- what is drawn, as the code has it
abbrev direct : Start → ℕ
direct s = (s.args.p * 10000 + (s.args.u.inverter - 1)) / s.args.u.inverter

room : (s : Start) → (direct s ≤ 1000000000) × ((direct s + s.args.u.dc_loss) * (s.args.seconds * 10000) ≤ 872640000000000000)
room s =
    let b = bounds s.requires.ranged in
    let u = s.args.u in
    drawn_room s.args.p u.inverter u.dc_loss s.args.seconds s.requires.p_bound b.inverter_least b.idle_most b.seconds_most

pub overflow_sub-d : goal.overflow_sub-d
overflow_sub-d c = let b = bounds c.requires.ranged in omega (arith, b.inverter_least)

pub overflow_add-d : goal.overflow_add-d
overflow_add-d c = let b = bounds c.requires.ranged in omega (arith, b.inverter_most, c.requires.p_bound)

pub nonzero_div-d : goal.nonzero_div-d
nonzero_div-d c = let b = bounds c.requires.ranged in omega (arith, b.inverter_least)

pub overflow_add-drawn : goal.overflow_add-drawn
overflow_add-drawn c = let b = bounds c.requires.ranged in omega (arith, (room (goal.at.overflow_add-drawn c).Start).0, b.idle_most)

pub overflow_mul-drawn-2 : goal.overflow_mul-drawn-2
overflow_mul-drawn-2 c = omega (arith, (room (goal.at.overflow_mul-drawn-2 c).Start).1)

pub overflow_sub-result : goal.overflow_sub-result
overflow_sub-result c = let b = bounds c.requires.ranged in omega (arith, b.discharge_least)

pub overflow_add-result : goal.overflow_add-result
overflow_add-result c = let b = bounds c.requires.ranged in omega (arith, (room (goal.at.overflow_add-result c).Start).1, b.discharge_most)

pub nonzero_div-result : goal.nonzero_div-result
nonzero_div-result c = let b = bounds c.requires.ranged in omega (arith, b.discharge_least)

pub returns : goal.returns
unfolding removed_by ceil
returns c =
    let u = c.args.u in
    ap (λ (n : ℕ). (n + (u.discharge - 1)) / u.discharge) (sym (mul_assoc (direct (goal.at.returns c).Start + u.dc_loss) c.args.seconds 10000))
