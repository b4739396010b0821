-- The requests passed are 0 and the others as they were; the flag says whether one of those passed was not 0.
use Prim.Native.Nat.{ℕ}
use lib.IntN.{ℤ, pos}
use Rattle.members.proofs.PlaceLaws.{Reached}
use Rattle.members.proofs.shares.clear.Given as goal

abbrev pub none : ℕ → ℤ → ℤ
none i r = pos 0

abbrev pub invariant-loop-r : goal.invariant-loop-r
invariant-loop-r l = Reached none l.initial.requests l.requests l.changed l.r-index
