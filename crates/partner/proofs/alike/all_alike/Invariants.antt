-- What the flag says holds of the bytes that the loop has passed: one more is the same where it stays set.
use Prim.Native.Nat.{◌≤◌}
use mathlib.Core.Path.{◌≡◌}
use mathlib.Core.Bool.{true}
use Rattle.partner.specs.Posts.{SameAt}
use Rattle.partner.proofs.alike.all_alike.Given as goal

abbrev pub invariant-loop-i : goal.invariant-loop-i
invariant-loop-i l = (l.i ≤ l.most) × (l.same ≡ true → SameAt l.i l.ours 0 l.theirs l.at)
