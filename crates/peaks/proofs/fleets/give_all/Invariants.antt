-- Each unit's store is replaced by what its step leaves and its vars by those kept, and what it does is added to the sums: after the last unit all are.
use Rattle.fleet.specs.Posts.{site_in}
use Rattle.peaks.proofs.GiveLaws.{Giving}
use Rattle.peaks.proofs.fleets.give_all.Given as goal

abbrev pub invariant-loop-i : goal.invariant-loop-i
invariant-loop-i l = Giving (site_in l.f l.rows) l.l l.initial.stored l.requests l.initial.vars l.i l.stored l.vars l.sums
