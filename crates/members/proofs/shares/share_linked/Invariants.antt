-- The requests passed are what rule 6 makes of them and the others as they were; the flag says whether one of those passed changed.
use Rattle.members.specs.Posts.{fleet_by, shared_by}
use Rattle.members.proofs.PlaceLaws.{Reached}
use Rattle.members.proofs.shares.share_linked.Given as goal

abbrev pub invariant-loop-i : goal.invariant-loop-i
invariant-loop-i l =
    Reached (shared_by l.charging l.factor l.w l.weights (fleet_by l.units l.stored)) l.initial.requests l.requests l.changed l.i
