-- So far ok says that the units passed are within their ranges.
use Prim.Native.Nat.{◌≤◌}
use mathlib.Core.Path.{◌≡◌}
use lib.ListN.{length}
use Rattle.whole.specs.Over.{all_of}
use Rattle.stick.specs.Site.{site_of}
use Rattle.kept.specs.Formed.{unit_fits}
use Rattle.kept.proofs.tests.within.Given as goal

abbrev pub invariant-loop-i : goal.invariant-loop-i
invariant-loop-i l = (l.i ≤ length l.stored) × (l.ok ≡ all_of l.i (unit_fits (site_of l.site) l.stored l.requests))
