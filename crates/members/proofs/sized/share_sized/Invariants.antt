-- The requests passed are what rule 6 makes of them by the sign and the size of the plain need, which is what it makes of them by each unit's own, and the
-- others as they were; the flag says whether one of those passed changed.
use Rattle.members.proofs.PlaceLaws.{Reached}
use Rattle.members.proofs.ShareLaws.{row_sized}
use Rattle.members.proofs.sized.share_sized.Given as goal

abbrev pub invariant-loop-i : goal.invariant-loop-i
invariant-loop-i l =
    Reached (row_sized l.charging l.below l.factor l.size l.weights l.units l.stored) l.initial.requests l.requests l.changed l.i
