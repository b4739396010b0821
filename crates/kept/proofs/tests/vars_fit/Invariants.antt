-- So far ok says that the vars passed are in their bounds.
use Prim.Native.Nat.{◌≤◌}
use mathlib.Core.Path.{◌≡◌}
use Rattle.whole.specs.Over.{all_of}
use Rattle.kept.specs.Formed.{var_fits}
use Rattle.kept.proofs.tests.vars_fit.Given as goal

abbrev pub invariant-loop-i : goal.invariant-loop-i
invariant-loop-i l = (l.i ≤ l.n) × (l.ok ≡ all_of l.i (var_fits l.s))
