-- The places passed hold what the bytes say of their inverters, the others are as they were.
use Rattle.kept.specs.Layout.{flag_at}
use Rattle.kept.proofs.StandLaws.{Filled}
use Rattle.kept.proofs.stands.load_on.Given as goal

abbrev pub invariant-loop-i : goal.invariant-loop-i
invariant-loop-i l = Filled (flag_at l.s) l.initial.on l.on l.i
