-- The places passed hold what the bytes say of their units, the others are as they were.
use Rattle.kept.specs.Layout.{store_at, request_at}
use Rattle.kept.proofs.StandLaws.{Filled}
use Rattle.kept.proofs.stands.load.Given as goal

abbrev pub invariant-loop-i : goal.invariant-loop-i
invariant-loop-i l = Filled (store_at l.s) l.initial.stored l.stored l.i × Filled (request_at l.s) l.initial.requests l.requests l.i
