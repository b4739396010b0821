-- The flags of the inverters passed lie behind one another; the rest is as it was.
use Rattle.kept.proofs.StandLaws.{Flagging}
use Rattle.kept.proofs.stands.put_flags.Given as goal

abbrev pub invariant-loop-i : goal.invariant-loop-i
invariant-loop-i l = Flagging l.initial.s l.s l.on l.i
