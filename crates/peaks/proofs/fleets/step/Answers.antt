-- The pass leaves a request for each unit, so that every unit can take its step; what stands then, and the sums, are the definition's.
use Rattle.fleet.specs.Posts.{site_in}
use Rattle.fleet.proofs.StepLaws.{asked_held, step_standing, step_held}
use Rattle.peaks.proofs.FleetLaws.{moment_of, step_sums}
use Rattle.peaks.proofs.fleets.step.Goals as goal

pub ask-requires : goal.ask-requires
ask-requires c = record { ready = c.requires.ready; stored_len = c.requires.held.stores; requests_len = c.requires.held.asks; stored = c.requires.held.within; m_value = c.requires.m_value }

pub give_all-requires : goal.give_all-requires
give_all-requires c =
    let a = c.args in record { ready = c.requires.ready; held = asked_held (site_in a.f a.rows.now) (moment_of a.l a.r) a.stored.now a.requests.now a.vars.now c.ask.new.requests c.ask.ensures c.requires.held; modest = c.requires.modest }

pub returns : goal.returns
returns c =
    let a = c.args in
    let site = site_in a.f a.rows.now in
    let m = moment_of a.l a.r in
    let rs = c.ask.new.requests in record { vars_after = step_standing site m a.stored.now a.requests.now a.vars.now rs c.ask.ensures c.give_all.new.stored c.give_all.ensures.stored_after c.give_all.new.vars c.give_all.ensures.vars_after; value = step_sums site a.l a.stored.now a.requests.now a.vars.now rs a.r c.ask.ensures c.give_all.result c.give_all.ensures.value; within = c.give_all.ensures.within; held_2 = step_held site m a.stored.now a.requests.now a.vars.now rs c.ask.ensures c.give_all.new.stored c.give_all.ensures.stored_after c.give_all.new.vars c.give_all.ensures.vars_after c.requires.ready.sited c.requires.modest c.requires.held }
