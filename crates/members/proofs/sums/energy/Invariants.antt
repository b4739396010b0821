-- The sum so far is that of the units passed; 64 energies of at most 10^13 J are far below the type's end.
use mathlib.Core.Path.{◌≡◌}
use Rattle.members.specs.Sums.{total}
use Rattle.members.proofs.sums.energy.Given as goal

abbrev pub invariant-loop-x : goal.invariant-loop-x
invariant-loop-x l = l.sum ≡ total l.x-index l.xs
