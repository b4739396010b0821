use mathlib.Core.Path.{ap, ◌∙◌, sym, subst}
use native.Mathlib.Omega.{arith}
use Prim.Native.Nat.{◌<◌}
use lib.IntN.{pos}
use lib.ListN.{get_or}
use Rattle.unit.specs.declared.Unit.{Unit}
use Rattle.unit.specs.Ranges.{holding, Ranged}
use Rattle.storage.specs.Step.{step_of}
use Rattle.site.specs.Site.{Site, count}
use Rattle.guided.proofs.SharedLaws.{back}
use Rattle.fleet.specs.Posts.{Held, site_in}
use Rattle.fleet.proofs.SiteLaws.{held_ranged, rows_count, row_unit_lem}
use Rattle.fleet.proofs.StepLaws.{none_given, next_within, no_vars, no_vars_held, one_unled, all_unled}
use Rattle.fleet.proofs.steps.give_own.Goals as goal
use Rattle.fleet.proofs.steps.give_own.Goals.{Start}

abbrev site : Start → Site
site s = site_in s.args.f s.args.rows.now

-- a store and a request for each unit, and zero as its vars
held : (s : Start) → Held (site s) s.args.stored.now s.args.requests.now (no_vars (site s))
held s = no_vars_held (site s) s.args.stored.now s.args.requests.now s.requires.stored_len s.requires.requests_len s.requires.stored

pub loop-i-init : goal.loop-i-init
loop-i-init c =
    let a = c.args in
    let s = site (goal.at.loop-i-init c).Start in
    none_given s a.m a.stored.now a.requests.now (no_vars s) a.room.now

pub own-d-requires-clause-i_in_bounds : goal.own-d-requires-clause-i_in_bounds
own-d-requires-clause-i_in_bounds c = omega (arith, rows_count c.args.f.head c.args.rows.now)

pub own-d-requires-clause-ranged : goal.own-d-requires-clause-ranged
own-d-requires-clause-ranged c =
    let s = (goal.at.own-d-requires-clause-ranged c).Start in
    let a = c.args in
    let p = c.loop-i in
    let h = get_or p.stored p.i 0 in
    let below : p.i < count (site s) = omega arith in
    subst (λ (u : Unit). Ranged (holding u h) a.f.head.seconds) (row_unit_lem a.f.head a.rows.now p.i)
    (held_ranged (site s) c.requires.ready.sited p.i h below
    (next_within (site s) a.m a.stored.now a.requests.now (no_vars (site s)) a.room.now (held s) c.requires.rows_in_bounds p.i p.stored (no_vars (site s)) p.room p.invariant below))

pub loop-i-preserved : goal.loop-i-preserved
loop-i-preserved c =
    let s = (goal.at.loop-i-preserved c).Start in
    let a = c.args in
    let p = c.loop-i in
    let h = get_or p.stored p.i 0 in
    let r = back (get_or a.requests.now p.i (pos 0)) in
    one_unled (site s) a.m c.requires.unled a.stored.now a.requests.now a.room.now (held s) c.requires.rows_in_bounds p.i p.stored p.room p.invariant (omega arith) (omega arith)
    c.own-d.result (c.own-d.ensures ∙ ap (λ (u : Unit). step_of (holding u h) a.f.head.seconds r) (sym (row_unit_lem a.f.head a.rows.now p.i)))
    c.put_record.new.room c.put_record.ensures

pub returns : goal.returns
returns c =
    let s = (goal.at.returns c).Start in
    let a = c.args in
    let p = c.loop-i in
    let (stores, records) = all_unled (site s) a.m c.requires.unled a.stored.now a.requests.now a.room.now (held s) c.requires.rows_in_bounds p.i p.stored p.room p.invariant (omega arith) in
    record { stored_after = stores; room_after = records }
