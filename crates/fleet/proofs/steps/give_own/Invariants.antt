-- The loop as it is where something leads, with vars that are all zero: where nothing leads, a step is the unit's own whatever vars were last requested, and
-- these stay. So what it leaves is right for any vars.
use Rattle.fleet.specs.Posts.{site_by}
use Rattle.fleet.proofs.StepLaws.{Giving, no_vars}
use Rattle.fleet.proofs.steps.give_own.Given as goal

abbrev pub invariant-loop-i : goal.invariant-loop-i
invariant-loop-i l =
    Giving (site_by l.head l.rows) l.m l.initial.stored l.requests (no_vars (site_by l.head l.rows)) l.initial.room l.i l.stored (no_vars (site_by l.head l.rows)) l.room
