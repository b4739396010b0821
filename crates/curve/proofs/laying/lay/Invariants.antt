-- The count is laid first; so far the points passed can be read back.
use Rattle.curve.proofs.LayLaws.{Laying}
use Rattle.curve.proofs.laying.lay.Given as goal

abbrev pub invariant-loop-i : goal.invariant-loop-i
invariant-loop-i l = Laying l.xs l.ys l.room l.i
