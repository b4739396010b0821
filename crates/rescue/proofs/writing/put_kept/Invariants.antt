-- At every group, what the groups before it kept and lost is laid at the start of the rooms, and what is kept from there on comes right behind it.
use Prim.Native.Nat.{◌-◌}
use lib.ListN.{length}
use Rattle.rescue.proofs.PutLaws.{Written}
use Rattle.rescue.proofs.writing.put_kept.Given as goal

abbrev pub invariant-loop-at : goal.invariant-loop-at
invariant-loop-at l = Written l.file l.initial.out l.initial.list l.st l.at l.to l.line l.out l.list

abbrev pub decreases-loop-at : goal.decreases-loop-at
decreases-loop-at l = length l.file - l.at
