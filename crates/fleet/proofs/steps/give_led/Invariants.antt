-- Each unit's store is replaced by what its step leaves and its vars by those kept, and its record laid behind the one before: after the last unit all are.
use Rattle.fleet.specs.Posts.{site_in}
use Rattle.fleet.proofs.StepLaws.{Giving}
use Rattle.fleet.proofs.steps.give_led.Given as goal

abbrev pub invariant-loop-i : goal.invariant-loop-i
invariant-loop-i l = Giving (site_in l.f l.rows) l.m l.initial.stored l.requests l.initial.vars l.initial.room l.i l.stored l.vars l.room
