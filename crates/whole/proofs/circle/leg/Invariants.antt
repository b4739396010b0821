-- The loop keeps (`Held`): q is found of the leg, low is q raised by the bits that are still to be tried, left is what q's square leaves of the
-- room, and q with all those bits is too large. A further bit b fits where 2qb + b², which is `more`, is there in left. No bit left, low is the leg.
use Prim.Native.Nat.{◌-◌, ◌*◌}
use Rattle.whole.proofs.BitLaws.{Held}
use Rattle.whole.proofs.circle.leg.Given as goal

abbrev pub invariant-loop-k : goal.invariant-loop-k
invariant-loop-k l = Held (l.s * l.s - l.y * l.y) l.k l.left l.low
