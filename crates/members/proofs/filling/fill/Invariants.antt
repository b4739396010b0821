-- The rows passed are those of the lists' units; there are as many rows as units.
use lib.ListN.{length}
use Rattle.members.specs.Ranges.{fleet_linked}
use Rattle.members.proofs.ColumnLaws.{Filled}
use Rattle.members.proofs.filling.fill.Given as goal

abbrev pub invariant-loop-i : goal.invariant-loop-i
invariant-loop-i l = Filled (fleet_linked l.rated l.reserve l.stored l.rating l.weight l.links) (length l.initial.rows) l.rows l.i
