-- The vars passed lie behind one another; the rest is as it was.
use Rattle.kept.proofs.StandLaws.{Varying}
use Rattle.kept.proofs.stands.put_vars.Given as goal

abbrev pub invariant-loop-i : goal.invariant-loop-i
invariant-loop-i l = Varying l.initial.s l.s l.vars l.i
