-- From every field on, the fields before the steps end where they end from the first; each lies within the bytes, so the place comes nearer to the end.
use Prim.Native.Nat.{◌-◌}
use lib.ListN.{length}
use Rattle.intake.proofs.HeadLaws.{Heading}
use Rattle.intake.proofs.heads.head_end.Given as goal

abbrev pub invariant-loop-at : goal.invariant-loop-at
invariant-loop-at l = Heading l.bytes l.at

abbrev pub decreases-loop-at : goal.decreases-loop-at
decreases-loop-at l = length l.bytes - l.at
