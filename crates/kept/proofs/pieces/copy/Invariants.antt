-- The bytes passed lie at the place, one behind the other; the rest is as it was.
use lib.Seq.{slice}
use Rattle.kept.proofs.PieceLaws.{Laying}
use Rattle.kept.proofs.pieces.copy.Given as goal

abbrev pub invariant-loop-i : goal.invariant-loop-i
invariant-loop-i l = Laying l.initial.s l.s l.at (slice l.from l.to l.bytes) l.i
