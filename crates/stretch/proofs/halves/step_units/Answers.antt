-- The first part of the vars is as long as the list of requests; it is lent to the step of the units, which leaves it as long, and the rest behind it is as it was.
use mathlib.Core.Path.{◌≡◌, sym, ap, ◌∙◌, subst⁻¹}
use mathlib.Core.List.{List}
use lib.IntN.{ℤ}
use lib.ListN.{length}
use Rattle.octets.specs.BigEndian.{laid}
use Rattle.fleet.specs.Step.{standing, after, records_by}
use Rattle.fleet.specs.Posts.{Held, site_in}
use Rattle.stretch.proofs.PartLaws.{first_fits, first_lent, first_part, first_rest}
use Rattle.stretch.proofs.halves.step_units.Goals as goal
use Rattle.stretch.proofs.halves.step_units.Goals.{After-step, Start}

pub slice_bounds-step-end : goal.slice_bounds-step-end
slice_bounds-step-end c =
    let a = c.args in
    first_fits (length a.requests.now) a.vars.now (c.requires.held.leads ∙ sym c.requires.held.asks)

pub step-requires : goal.step-requires
step-requires c =
    let a = c.args in record { ready = c.requires.ready; held = subst⁻¹ (Held (site_in a.f a.rows.now) a.stored.now a.requests.now) (first_lent (length a.requests.now) a.vars.now) c.requires.held; modest = c.requires.modest; rows_in_bounds = c.requires.rows_in_bounds }

pub returns : goal.returns
returns c =
    let a = c.args in
    let site = site_in a.f a.rows.now in
    let n = length a.requests.now in
    let k = length c.step.new.requests in
    let long : length c.step.new.vars ≡ k = c.step.ensures.held_2.leads ∙ sym c.step.ensures.held_2.asks in
    let kept = first_part n k a.vars.now c.step.new.vars long in
    let lent = first_lent n a.vars.now in record { vars_after = ap (standing c.step.new.stored c.step.new.requests) kept ∙ c.step.ensures.vars_after ∙ ap (λ (vs : List ℤ). after site a.m.lead (standing a.stored.now a.requests.now vs) a.m.reading) lent; vars_unchanged = first_rest n k a.vars.now c.step.new.vars long; room_after = c.step.ensures.room_after ∙ ap (λ (vs : List ℤ). laid a.room.now a.m.at (records_by site a.m.lead a.m.step (standing a.stored.now a.requests.now vs) a.m.reading)) lent; held_2 = subst⁻¹ (Held site c.step.new.stored c.step.new.requests) kept c.step.ensures.held_2 }
