-- All are the same; or so many as the loop has passed are, and it stops at the first that is not, or where one side is over.
use Prim.Native.Nat.{◌≤◌}
use Rattle.partner.proofs.AlikeLaws.{SoFar}
use Rattle.partner.proofs.alike.alike.Given as goal

abbrev pub invariant-loop-i : goal.invariant-loop-i
invariant-loop-i l = (l.i ≤ l.most) × (SoFar l.ours l.n l.theirs l.at l.i)
