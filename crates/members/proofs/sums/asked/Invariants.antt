-- What is asked so far is what the requests passed ask; each has 32 bits, so 64 of them stay below 10^12.
use Rattle.members.proofs.RequestLaws.{SoFar}
use Rattle.members.proofs.sums.asked.Given as goal

abbrev pub invariant-loop-r : goal.invariant-loop-r
invariant-loop-r l = SoFar l.requests l.r-index l.a
