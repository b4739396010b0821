-- The places passed hold what the bytes say of their vars, the others are as they were.
use Rattle.kept.specs.Layout.{var_at}
use Rattle.kept.proofs.StandLaws.{Filled}
use Rattle.kept.proofs.stands.load_vars.Given as goal

abbrev pub invariant-loop-i : goal.invariant-loop-i
invariant-loop-i l = Filled (var_at l.s) l.initial.vars l.vars l.i
