-- So far ok says that the bytes passed are 0.
use Prim.Native.Nat.{ℕ, ◌+◌, ◌-◌, ◌≤◌}
use mathlib.Core.Path.{◌≡◌}
use lib.Dec.{eqb}
use lib.ListN.{get_or}
use Rattle.whole.specs.Over.{all_of}
use Rattle.kept.proofs.pieces.is_clear.Given as goal

abbrev pub invariant-loop-i : goal.invariant-loop-i
invariant-loop-i l = (l.i ≤ l.to - l.from) × (l.ok ≡ all_of l.i (λ (k : ℕ). eqb (get_or l.s (l.from + k) 0) 0))
