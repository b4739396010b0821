-- A reading without powers leaves the requests; the pass on the measure of its powers is that over the site's fleet.
use mathlib.Core.Path.{sym, ap, ◌∙◌}
use Rattle.reading.proofs.MeasureLaws.{measure_small}
use Rattle.fleet.specs.Step.{passed_on}
use Rattle.fleet.specs.Posts.{site_in}
use Rattle.fleet.proofs.StepLaws.{pass_refused, pass_chosen, powers_are, no_powers, ask_sound}
use Rattle.std.proofs.Common.{Result, ℤ}
use Rattle.whole.specs.declared.Refusal.{Refusal}
use Rattle.fleet.proofs.steps.ask_by_watts.Goals as goal
use Rattle.fleet.proofs.steps.ask_by_watts.Goals.{After-pass_within, After-regulated, In-Ok, In-Power, Start}

pub returns-in_default : goal.returns-in_default
returns-in_default c =
    no_powers (site_in c.args.f c.args.rows.now) c.args.stored.now c.args.requests.now c.args.r c.in_default.not-Power

pub returns-in_default-regulated : goal.returns-in_default-regulated
returns-in_default-regulated c =
    let site = site_in c.args.f c.args.rows.now in
    pass_refused site c.args.stored.now c.args.requests.now c.regulated.result c.in_default-regulated.field-0 c.in_default-regulated.is
    ∙ ap (λ (x : Result ℤ Refusal). passed_on site c.args.stored.now c.args.requests.now x) c.regulated.ensures
    ∙ powers_are site c.args.stored.now c.args.requests.now c.args.r c.in-Power.p c.in-Power.is

pub pass_within-requires : goal.pass_within-requires
pass_within-requires c = record {
  sound = ask_sound c.args.f.head c.args.rows.now c.args.stored.now c.args.requests.now c.in-Ok.m
      (measure_small c.in-Power.p c.args.f.head.phase c.in-Ok.m (sym c.regulated.ensures ∙ c.in-Ok.is))
      c.in-Ok.known_told-in-Ok-1-own.given.0.1 c.requires.ready.sited c.requires.stored_len c.requires.requests_len c.requires.stored;
  totals_of = c.requires.ready.totals;
}

pub returns : goal.returns
returns c =
    let site = site_in c.args.f c.args.rows.now in
    pass_chosen site c.args.stored.now c.args.requests.now c.regulated.result c.in-Ok.m c.in-Ok.is
    c.in-Ok.known_told-in-Ok-1-own.given.0.1 c.pass_within.new.requests c.pass_within.ensures.requests
    ∙ ap (λ (x : Result ℤ Refusal). passed_on site c.args.stored.now c.args.requests.now x) c.regulated.ensures
    ∙ powers_are site c.args.stored.now c.args.requests.now c.args.r c.in-Power.p c.in-Power.is
