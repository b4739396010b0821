-- Where x fits beside y it is at most the leg, which is the largest that fits; else the leg is sought.
use mathlib.Core.Path.{sym}
use Prim.Native.Nat.{◌+◌, ◌*◌, ◌≤◌}
use native.Mathlib.Nat.{min-eq_left}
use native.Mathlib.Omega.{arith}
use Rattle.whole.proofs.LargestLaws.{square_le, square_fits, leg_tops}
use Rattle.whole.proofs.circle.beside.Goals as goal

pub overflow_mul-size : goal.overflow_mul-size
overflow_mul-size c = record { fits = square_fits c.args.x c.ranges.x.fits }

pub overflow_mul-radius : goal.overflow_mul-radius
overflow_mul-radius c = record { fits = square_fits c.args.s c.ranges.s.fits }

pub overflow_mul-side : goal.overflow_mul-side
overflow_mul-side c = record { fits = square_fits c.args.y c.ranges.y.fits }

pub overflow_sub-radius : goal.overflow_sub-radius
overflow_sub-radius c = square_le c.if-side-radius.true

pub returns-then-size-radius : goal.returns-then-size-radius
returns-then-size-radius c =
    let s = c.before.before in
    let x = s.args.x in
    let y = s.args.y in
    let below : y * y ≤ s.args.s * s.args.s = square_le c.if-side-radius.true in
    let inside : x * x + y * y ≤ s.args.s * s.args.s = let t = c.if-size-radius.true in omega (arith, t) in
    sym (min-eq_left (leg_tops s.args.s y x inside))
