-- The result: the records of all steps and the end record behind them, laid one after the other, and how long it is. Assumes nothing.
use mathlib.Core.Path.{◌≡◌, sym, ap, ◌∙◌}
use mathlib.Core.List.{List, ◌++◌}
use Prim.Native.Nat.{ℕ, ◌*◌}
use native.Mathlib.Nat.{zero-add}
use native.Mathlib.Omega.{arith}
use lib.ListN.{length}
use Rattle.octets.specs.BigEndian.{laid}
use Rattle.site.specs.declared.Step.{Step}
use Rattle.site.specs.Site.{Plant}
use Rattle.records.specs.Records.{end_of}
use Rattle.records.proofs.LayLaws.{behind, both, end_length}
use Rattle.stretch.specs.Stretch.{stands_first, records_from, all_bytes}
use Rattle.stretch.proofs.AppendLaws.{records_length}
use Rattle.season.specs.Run.{result_by, needed_by}

-- the result is as long as what is needed
pub by_length : (p : Plant) (ss : List Step) → length (result_by p ss) ≡ needed_by p (length ss)
unfolding result_by
by_length p ss = both (records_from p 0 (stands_first p) ss) (end_of (length ss)) (all_bytes p * length ss) 7 (records_length p 0 (stands_first p) ss) (end_length (length ss))

-- the end record behind those of all steps
pub end_laid : (room records mid-room then_room : List ℕ) (at count steps : ℕ) → length records ≡ at → steps ≡ count → mid-room ≡ laid room 0 records
    → then_room ≡ laid mid-room at (end_of count) → then_room ≡ laid room 0 (records ++ end_of steps)
end_laid room records mid-room then_room at count steps l n em et =
    behind room 0 (omega arith) records (end_of count) at l mid-room then_room em (et ∙ ap (λ (p : ℕ). laid mid-room p (end_of count)) (sym (zero-add at)))
    ∙ ap (λ (k : ℕ). laid room 0 (records ++ end_of k)) (sym n)
