-- The places passed hold the units' own vars, the others are as they were; there are as many places as rows.
use Rattle.fleet.proofs.SiteLaws.{Owning}
use Rattle.fleet.proofs.units.own_vars.Given as goal

abbrev pub invariant-loop-i : goal.invariant-loop-i
invariant-loop-i l = Owning l.units l.initial.vars l.vars l.i
