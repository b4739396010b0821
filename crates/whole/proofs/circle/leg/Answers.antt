use mathlib.Core.Path.{◌≡◌, refl, sym}
use Prim.Native.Nat.{ℕ, ◌+◌, ◌-◌, ◌*◌, ◌%◌, ◌^◌, ◌<◌}
use native.Mathlib.Nat.{lt_of_le_of_lt, sub-le}
use native.Mathlib.Omega.{arith}
use mir.Val.{bool_byte}
use lib.Dec.{leb}
use lib.Count.{leading_le}
use Rattle.whole.specs.Largest.{leg_of}
use Rattle.whole.proofs.LargestLaws.{square_le, square_fits, leg_none, leg_whole}
use Rattle.whole.proofs.BitLaws.{Turn, none_held, turn, all_tried}
use Rattle.whole.proofs.circle.leg.Goals as goal
use Rattle.whole.proofs.circle.leg.Goals.{After-loop-k, In-loop-k}

pub returns-then-s-y : goal.returns-then-s-y
returns-then-s-y c = sym (leg_none c.args.s c.args.y c.if-s-y.true)

pub returns-then-y-eq0 : goal.returns-then-y-eq0
returns-then-y-eq0 c = sym (leg_whole c.args.s c.args.y c.if-y-eq0.true)

pub overflow_mul-left : goal.overflow_mul-left
overflow_mul-left c = record { fits = square_fits c.args.s c.ranges.s.fits }

pub overflow_mul-left-2 : goal.overflow_mul-left-2
overflow_mul-left-2 c = record { fits = square_fits c.args.y c.ranges.y.fits }

pub overflow_sub-left : goal.overflow_sub-left
overflow_sub-left c = square_le c.if-s-y.false

pub overflow_sub-bits : goal.overflow_sub-bits
overflow_sub-bits c = let s = c.args in let l = leading_le 64 (s.s * s.s - s.y * s.y) in omega arith

pub loop-k-init : goal.loop-k-init
loop-k-init c =
    let s = c.args in
    none_held (s.s * s.s - s.y * s.y) (lt_of_le_of_lt (sub-le (s.s * s.s) (s.y * s.y)) (square_fits s.s c.ranges.s.fits))

-- what a further bit takes, and the turn that tries it
abbrev more_of : In-loop-k → ℕ
more_of c = let l = c.loop-k in l.low + (1 * 2 ^ (2 * (l.k - 1))) % 2 ^ 64

turned : (c : In-loop-k)
    → let l = c.loop-k in
    let s = c.args in
    Turn (s.s * s.s - s.y * s.y) l.k l.left l.low (2 * (l.k - 1)) (more_of c) (bool_byte (leb (more_of c) l.left))
turned c =
    let l = c.loop-k in
    let s = c.args in
    let some : 0 < l.k = let t = c.loop-k-test.true in omega (arith, t) in
    turn (s.s * s.s - s.y * s.y) l.k l.left l.low l.invariant some (more_of c) refl (leb (more_of c) l.left) refl

pub overflow_add-more : goal.overflow_add-more
overflow_add-more c = record { fits = (turned c).wide }

pub overflow_mul-left-in-loop-k : goal.overflow_mul-left-in-loop-k
overflow_mul-left-in-loop-k c = record { fits = (turned c).product }

pub overflow_sub-left-in-loop-k : goal.overflow_sub-left-in-loop-k
overflow_sub-left-in-loop-k c = (turned c).there

pub overflow_add-low : goal.overflow_add-low
overflow_add-low c = record { fits = (turned c).sum }

pub loop-k-preserved : goal.loop-k-preserved
loop-k-preserved c = (turned c).next

-- no bit is left
ended : (c : After-loop-k)
    → let s = c.args in (c.loop-k.low < 2 ^ 32) × (leg_of s.s s.y ≡ c.loop-k.low)
ended c =
    let l = c.loop-k in
    let s = c.args in
    let none : l.k ≡ 0 = let t = c.loop-k-test.false in omega arith in
    all_tried s.s s.y l.k l.left l.low c.if-s-y.false none l.invariant

pub overflow_cast-result : goal.overflow_cast-result
overflow_cast-result c = record { fits = (ended c).0 }

pub returns : goal.returns
returns c = sym (ended c).1
