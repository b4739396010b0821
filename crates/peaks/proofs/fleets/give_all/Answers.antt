use mathlib.Core.Path.{sym, ap, ◌∙◌, subst}
use Prim.Native.Nat.{◌<◌}
use native.Mathlib.Nat.{le_trans, le_of_eq}
use native.Mathlib.Omega.{arith}
use lib.IntN.{ℤ, pos, ◌+ℤ◌}
use lib.ListN.{get_or}
use mir.Syntax.{w32}
use Rattle.whole.proofs.SignLaws.{read}
use Rattle.unit.specs.declared.Unit.{Unit}
use Rattle.unit.specs.Ranges.{Ranged}
use Rattle.rows.specs.Rows.{no_row, unit_by}
use Rattle.site.specs.Site.{Site, count}
use Rattle.site.proofs.RangeLaws.{unit_ranged}
use Rattle.guided.proofs.SharedLaws.{back}
use Rattle.fleet.specs.Posts.{site_in}
use Rattle.fleet.proofs.SiteLaws.{rows_count, row_unit_lem}
use Rattle.fleet.proofs.StepLaws.{given_is, kept_is}
use Rattle.peaks.specs.Figures.{not_met}
use Rattle.peaks.proofs.GiveLaws.{none_given, next_within, next_guiding, unit_fits_is, one_more, all_given}
use Rattle.peaks.proofs.fleets.give_all.Goals as goal
use Rattle.peaks.proofs.fleets.give_all.Goals.{Start}

abbrev site : Start → Site
site s = site_in s.args.f s.args.rows.now

pub loop-i-init : goal.loop-i-init
loop-i-init c = let a = c.args in none_given (site (goal.at.loop-i-init c).Start) a.l a.stored.now a.requests.now a.vars.now

pub give-g-requires : goal.give-g-requires
give-g-requires c =
    let s = site (goal.at.give-g-requires c).Start in
    let a = c.args in
    let p = c.loop-i in
    let head = a.f.head in
    let u = row_unit_lem head a.rows.now p.i in
    let held = c.requires.held in
    let below : p.i < count s = omega (arith, held.asks) in record {
      i_in_bounds = le_trans below (le_of_eq (rows_count head a.rows.now));
      rested = c.requires.ready.rested;
      ranged = subst (λ (v : Unit). Ranged v head.seconds) u (unit_ranged s c.requires.ready.sited p.i below);
      held_bound = le_trans (next_within s a.l a.stored.now a.requests.now a.vars.now c.requires.ready.sited held c.requires.modest p.i p.stored p.vars p.sums p.invariant below)
          (le_of_eq (ap (λ (v : Unit). v.rated) u));
      guiding = next_guiding s a.l a.stored.now a.requests.now a.vars.now c.requires.ready.sited held c.requires.modest p.i p.stored p.vars p.sums p.invariant below;
    }

pub bounds-rows-i : goal.bounds-rows-i
bounds-rows-i c = omega (arith, c.requires.held.asks, rows_count c.args.f.head c.args.rows.now)

pub with_unit-sums-requires : goal.with_unit-sums-requires
with_unit-sums-requires c =
    let s = site (goal.at.with_unit-sums-requires c).Start in
    let a = c.args in
    let p = c.loop-i in
    let held = c.requires.held in
    let below : p.i < count s = omega (arith, held.asks) in
    let request = back (get_or a.requests.now p.i (pos 0)) in
    let last = back (get_or p.vars p.i (pos 0)) in
    let o = c.give-g.result.outcome in
    let (stored_fits, loss_fits) = unit_fits_is s a.l a.stored.now a.requests.now a.vars.now c.requires.ready.sited held c.requires.modest p.i p.stored p.vars p.sums p.invariant below
    (omega arith) o (given_is a.f.head a.rows.now a.l p.i (get_or p.stored p.i 0) request last o c.give-g.ensures.outcome_value) (omega arith) in record {
      n_bound = omega (arith, c.requires.ready.sited.few);
      within = p.invariant.within;
      stored_bound = stored_fits;
      loss_bound = loss_fits;
    }

pub loop-i-preserved : goal.loop-i-preserved
loop-i-preserved c =
    let s = site (goal.at.loop-i-preserved c).Start in
    let a = c.args in
    let p = c.loop-i in
    let head = a.f.head in
    let rows = a.rows.now in
    let held = c.requires.held in
    let request = back (get_or a.requests.now p.i (pos 0)) in
    let last = back (get_or p.vars p.i (pos 0)) in
    let g = c.give-g.result in
    let grid = (unit_by (get_or rows p.i no_row)).grid_loss in
    one_more s a.l a.stored.now a.requests.now a.vars.now c.requires.ready.sited held c.requires.modest p.i p.stored p.vars p.sums p.invariant (omega (arith, held.asks))
    (omega arith) g.outcome (given_is head rows a.l p.i (get_or p.stored p.i 0) request last g.outcome c.give-g.ensures.outcome_value)
    g.vars (omega arith) (kept_is head rows a.l p.i (get_or p.stored p.i 0) request last g.vars c.give-g.ensures.vars_value)
    grid (ap (λ (v : Unit). v.grid_loss) (sym (row_unit_lem head rows p.i)))
    c.not_met-missed.result (c.not_met-missed.ensures ∙ ap (λ (z : ℤ). not_met request (z +ℤ pos grid)) (read w32 g.outcome.watts (omega arith)))
    c.with_unit-sums.result c.with_unit-sums.ensures.value c.with_unit-sums.ensures.within_2

pub returns : goal.returns
returns c =
    let s = site (goal.at.returns c).Start in
    let a = c.args in
    let p = c.loop-i in
    let held = c.requires.held in
    let (stores, (kept, (sums, small))) = all_given s a.l a.stored.now a.requests.now a.vars.now c.requires.ready.sited held c.requires.modest p.i p.stored p.vars p.sums p.invariant
    (omega (arith, held.asks)) in record { stored_after = stores; vars_after = kept; value = sums; within = small }
