-- So far ok says that the units passed are in their ranges.
use mathlib.Core.Path.{◌≡◌}
use Rattle.whole.specs.Over.{all_of}
use Rattle.members.specs.Ranges.{fleet_of, member_at}
use Rattle.members.proofs.ranges.units_in.Given as goal

abbrev pub invariant-loop-i : goal.invariant-loop-i
invariant-loop-i l = l.ok ≡ all_of l.i (member_at (fleet_of l.rated l.reserve l.stored l.rating l.weight))
