-- What is noted so far is the signs of the requests passed.
use Rattle.members.proofs.RequestLaws.{SignsSo}
use Rattle.members.proofs.sums.signs.Given as goal

abbrev pub invariant-loop-r : goal.invariant-loop-r
invariant-loop-r l = SignsSo l.requests l.r-index l.above l.below
