-- The vars passed are the own request of their inverters, and the others as they were.
use mathlib.Core.Path.{◌≡◌}
use Prim.Native.Nat.{◌≤◌}
use lib.ListN.{length}
use Rattle.whole.proofs.OverLaws.{part}
use Rattle.roofs.specs.Posts.{roofs_here}
use Rattle.roofs.proofs.VarsLaws.{own}
use Rattle.roofs.proofs.steps.own_vars.Given as goal

abbrev pub invariant-loop-i : goal.invariant-loop-i
invariant-loop-i l = (l.i ≤ length l.initial.vars) × (l.vars ≡ part (own (roofs_here l.bytes l.first (length l.initial.vars))) l.initial.vars l.i)
