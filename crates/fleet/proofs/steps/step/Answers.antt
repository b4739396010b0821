-- The pass leaves a request for each unit, so that every unit can take its step; what stands then is the definition's.
use Rattle.fleet.specs.Posts.{site_in}
use Rattle.fleet.proofs.StepLaws.{asked_held, step_laid, step_standing, step_held}
use Rattle.fleet.proofs.steps.step.Goals as goal
use Rattle.fleet.proofs.steps.step.Goals.{After-ask-arg-1, After-give_all, Start}

pub give_all-requires : goal.give_all-requires
give_all-requires c =
    let a = c.args in record { ready = c.requires.ready; held = asked_held (site_in a.f a.rows.now) a.m a.stored.now a.requests.now a.vars.now c.ask.new.requests c.ask.ensures c.requires.held; modest = c.requires.modest; rows_in_bounds = c.requires.rows_in_bounds }

pub returns : goal.returns
returns c =
    let a = c.args in
    let site = site_in a.f a.rows.now in
    let asked = c.ask.new.requests in record { vars_after = step_standing site a.m a.stored.now a.requests.now a.vars.now asked c.ask.ensures c.give_all.new.stored c.give_all.ensures.stored_after c.give_all.new.vars c.give_all.ensures.vars_after; room_after = step_laid site a.m a.stored.now a.requests.now a.vars.now asked c.ask.ensures a.room.now c.give_all.new.room c.give_all.ensures.room_after; held_2 = step_held site a.m a.stored.now a.requests.now a.vars.now asked c.ask.ensures c.give_all.new.stored c.give_all.ensures.stored_after c.give_all.new.vars c.give_all.ensures.vars_after c.requires.ready.sited c.requires.modest c.requires.held }
