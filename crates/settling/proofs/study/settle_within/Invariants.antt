-- After some changing passes what is left of the study gives the whole study's answer; a pass that changes nothing, or the budget, ends it.
use lib.ListN.{length}
use Rattle.members.specs.Posts.{fleet_by}
use Rattle.settling.proofs.StudyLaws.{OnTheWay}
use Rattle.settling.proofs.study.settle_within.Given as goal

abbrev pub invariant-loop-passes : goal.invariant-loop-passes
invariant-loop-passes l =
    OnTheWay l.s l.load (fleet_by l.units l.stored) l.budget (length l.initial.requests) l.requests l.passes
