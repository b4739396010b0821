-- The places passed hold their units' links, the others are as they were; a product of 8 and 16 bits fits 32.
use Rattle.rows.proofs.RowLaws.{Filling}
use Rattle.members.proofs.ColumnLaws.{link_at}
use Rattle.members.proofs.filling.link_all.Given as goal

abbrev pub invariant-loop-i : goal.invariant-loop-i
invariant-loop-i l = Filling (link_at l.phases l.volts) l.initial.links l.links l.i
