use mathlib.Core.Path.{ap, subst}
use Prim.Native.Nat.{◌<◌}
use native.Mathlib.Nat.{le_trans, le_of_eq}
use native.Mathlib.Omega.{arith}
use lib.IntN.{pos}
use lib.ListN.{get_or}
use Rattle.unit.specs.declared.Unit.{Unit}
use Rattle.unit.specs.Ranges.{Ranged}
use Rattle.rows.specs.Rows.{no_row, unit_by}
use Rattle.site.specs.Site.{Site, count}
use Rattle.site.proofs.RangeLaws.{unit_ranged}
use Rattle.guided.proofs.SharedLaws.{back}
use Rattle.fleet.specs.Posts.{site_in}
use Rattle.fleet.proofs.SiteLaws.{rows_count, row_unit_lem}
use Rattle.fleet.proofs.StepLaws.{none_given, next_within, next_guiding, one_more, given_is, kept_is, all_given}
use Rattle.fleet.proofs.UnitLaws.{holding_ranged}
use Rattle.fleet.proofs.steps.give_led.Goals as goal
use Rattle.fleet.proofs.steps.give_led.Goals.{Start}

abbrev site : Start → Site
site s = site_in s.args.f s.args.rows.now

pub loop-i-init : goal.loop-i-init
loop-i-init c =
    let a = c.args in
    none_given (site (goal.at.loop-i-init c).Start) a.m a.stored.now a.requests.now a.vars.now a.room.now

pub give-g-requires : goal.give-g-requires
give-g-requires c =
    let s = site (goal.at.give-g-requires c).Start in
    let a = c.args in
    let p = c.loop-i in
    let rows = a.rows.now in
    let head = a.f.head in
    let u = row_unit_lem head rows p.i in
    let below : p.i < count s = omega (arith, c.requires.held.asks) in
    let within = next_within s a.m a.stored.now a.requests.now a.vars.now a.room.now c.requires.held c.requires.rows_in_bounds p.i p.stored p.vars p.room p.invariant below in record {
      i_in_bounds = le_trans below (le_of_eq (rows_count head rows));
      rested = c.requires.ready.rested;
      ranged = holding_ranged (unit_by (get_or rows p.i no_row)) (get_or p.stored p.i 0) head.seconds
          (subst (λ (v : Unit). Ranged v head.seconds) u (unit_ranged s c.requires.ready.sited p.i below)) (le_trans within (le_of_eq (ap (λ (v : Unit). v.rated) u)));
      guiding = next_guiding s a.m a.stored.now a.requests.now a.vars.now a.room.now c.requires.held c.requires.rows_in_bounds p.i p.stored p.vars p.room p.invariant below c.requires.modest;
    }

pub loop-i-preserved : goal.loop-i-preserved
loop-i-preserved c =
    let s = site (goal.at.loop-i-preserved c).Start in
    let a = c.args in
    let p = c.loop-i in
    let rows = a.rows.now in
    let head = a.f.head in
    let request = back (get_or a.requests.now p.i (pos 0)) in
    let last = back (get_or p.vars p.i (pos 0)) in
    let g = c.give-g.result in
    one_more s a.m a.stored.now a.requests.now a.vars.now a.room.now c.requires.held c.requires.rows_in_bounds p.i p.stored p.vars p.room p.invariant (omega (arith, c.requires.held.asks))
    (omega arith)
    g.outcome (given_is head rows a.m.lead p.i (get_or p.stored p.i 0) request last g.outcome c.give-g.ensures.outcome_value)
    g.vars (omega arith) (kept_is head rows a.m.lead p.i (get_or p.stored p.i 0) request last g.vars c.give-g.ensures.vars_value)
    c.put_record.new.room c.put_record.ensures

pub returns : goal.returns
returns c =
    let s = site (goal.at.returns c).Start in
    let a = c.args in
    let p = c.loop-i in
    let (stores, (kept, records)) = all_given s a.m a.stored.now a.requests.now a.vars.now a.room.now c.requires.held c.requires.rows_in_bounds p.i p.stored p.vars p.room p.invariant
    (omega (arith, c.requires.held.asks)) in record { stored_after = stores; vars_after = kept; room_after = records }
