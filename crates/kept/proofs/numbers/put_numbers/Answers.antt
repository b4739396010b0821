-- The two halves are laid one behind the other.
use native.Mathlib.Omega.{arith}
use Prim.Native.Nat.{◌≤◌}
use lib.ListN.{length}
use Rattle.records.proofs.LayLaws.{behind}
use Rattle.kept.specs.Layout.{progress_of, parts_of, numbers_of}
use Rattle.kept.proofs.NumberLaws.{progress_length}
use Rattle.kept.proofs.numbers.put_numbers.Goals as goal
use Rattle.kept.proofs.numbers.put_numbers.Goals.{After-put_parts, After-put_progress, Start}

pub returns : goal.returns
unfolding numbers_of
returns c =
    let s = c.args.s.now in
    let h : 0 ≤ length s = omega arith in
    let m = c.args.m in
    behind s 0 h (progress_of m) (parts_of m) 14 (progress_length m) c.put_progress.new.s c.put_parts.new.s c.put_progress.ensures c.put_parts.ensures
