-- The points passed are not right of x.
use Prim.Native.Nat.{ℕ, ◌<◌}
use mathlib.Core.Path.{◌≡◌}
use mathlib.Core.Bool.{false}
use lib.Signed.{lt_z}
use Rattle.curve.specs.Layout.{x_at}
use Rattle.curve.proofs.values.segment.Given as goal

abbrev pub invariant-loop-i : goal.invariant-loop-i
invariant-loop-i l = (k : ℕ) → k < l.i → lt_z l.x (x_at l.bytes l.place k) ≡ false
