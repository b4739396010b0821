-- What the units passed hold and are asked lies behind one another; the rest is as it was.
use Rattle.kept.proofs.StandLaws.{Holding}
use Rattle.kept.proofs.stands.put_held.Given as goal

abbrev pub invariant-loop-i : goal.invariant-loop-i
invariant-loop-i l = Holding l.initial.s l.s l.stored l.requests l.i
