-- The places passed hold what the units hold, the others are as they were; there are as many places as rows.
use Prim.Native.Nat.{ℕ}
use lib.ListN.{get_or}
use Rattle.rows.specs.Rows.{no_row, unit_by}
use Rattle.rows.proofs.RowLaws.{Filling}
use Rattle.rows.proofs.rows.stores.Given as goal

abbrev pub invariant-loop-i : goal.invariant-loop-i
invariant-loop-i l = Filling (λ (k : ℕ). (unit_by (get_or l.units k no_row)).stored) l.initial.stored l.stored l.i
