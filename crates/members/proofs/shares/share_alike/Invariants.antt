-- By watts one need is every unit's own: the requests passed are what rule 6 makes of them by that need and the others as they were; the flag says
-- whether one of those passed changed.
use Rattle.members.proofs.PlaceLaws.{Reached}
use Rattle.members.proofs.ShareLaws.{row_next}
use Rattle.members.proofs.shares.share_alike.Given as goal

abbrev pub invariant-loop-i : goal.invariant-loop-i
invariant-loop-i l =
    Reached (row_next l.charging l.factor l.need l.weights l.units l.stored) l.initial.requests l.requests l.changed l.i
