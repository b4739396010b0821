-- So far ok says that the requests passed are within their ratings.
use mathlib.Core.Path.{◌≡◌}
use lib.Dec.{leb}
use lib.IntN.{pos, nat_abs}
use lib.ListN.{get_or}
use Rattle.whole.specs.Over.{all_of}
use Rattle.members.proofs.ranges.within_ratings.Given as goal

abbrev pub invariant-loop-i : goal.invariant-loop-i
invariant-loop-i l = l.ok ≡ all_of l.i (λ k. leb (nat_abs (get_or l.requests k (pos 0))) (get_or l.rating k 0))
