-- So far ok says that the connections passed are in their ranges.
use mathlib.Core.Path.{◌≡◌}
use Rattle.whole.specs.Over.{all_of}
use Rattle.members.specs.Ranges.{connection_at}
use Rattle.members.proofs.ranges.connections_in.Given as goal

abbrev pub invariant-loop-i : goal.invariant-loop-i
invariant-loop-i l = l.ok ≡ all_of l.i (connection_at l.phases l.volts)
