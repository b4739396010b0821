-- By what leads. Where nothing does, the units' own steps are right for any vars, so for those that stand, and these stay.
use mathlib.Core.Path.{sym}
use Rattle.fleet.specs.Posts.{Unled, site_in}
use Rattle.fleet.proofs.StepLaws.{unled, vars_stay}
use Rattle.fleet.proofs.steps.give_all.Goals as goal
use Rattle.fleet.proofs.steps.give_all.Goals.{After-give_own, Else-lead, Start}

abbrev start : Else-lead → Start
start e = e.before.before.before.before.before.before.before

-- nothing leads
none : (e : Else-lead) → Unled (start e).args.m.lead
none e = unled (start e).args.m.lead e.if-lead.false

pub give_own-requires : goal.give_own-requires
give_own-requires c = record { ready = (start (goal.at.give_own-requires c).Else-lead).requires.ready; stored_len = (start (goal.at.give_own-requires c).Else-lead).requires.held.stores; requests_len = (start (goal.at.give_own-requires c).Else-lead).requires.held.asks; stored = (start (goal.at.give_own-requires c).Else-lead).requires.held.within; unled = none (goal.at.give_own-requires c).Else-lead; rows_in_bounds = (start (goal.at.give_own-requires c).Else-lead).requires.rows_in_bounds }

pub returns-else-lead : goal.returns-else-lead
returns-else-lead c =
    let a = (start (goal.at.returns-else-lead c).Else-lead).args in record { stored_after = c.give_own.ensures.stored_after a.vars.now; vars_after = sym (vars_stay (site_in a.f a.rows.now) a.m.lead (none (goal.at.returns-else-lead c).Else-lead) a.stored.now a.requests.now a.vars.now); room_after = c.give_own.ensures.room_after a.vars.now }
