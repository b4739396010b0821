-- The sums so far are those of the rows passed; 64 energies of at most 10^13 J, and 64 numbers of 16 bits, are far below the type's end.
use Rattle.members.proofs.ColumnLaws.{Summing}
use Rattle.members.proofs.sums.summed.Given as goal

abbrev pub invariant-loop-row : goal.invariant-loop-row
invariant-loop-row l = Summing l.units l.row-index l.rated l.reserve l.weight
