-- The tests in turn are those of the definition: each is reached only where the ones before it passed.
use mathlib.Core.Path.{◌≡◌, sym, ◌∙◌, ap}
use mathlib.Core.Bool.{true, not}
use lib.ListN.{length}
use borrow.Author.Tests.{not-true, not-false}
use Rattle.stick.specs.Check.{reach_of, start}
use Rattle.kept.specs.Layout.{steps_kept, stage_in, site_part}
use Rattle.kept.specs.Formed.{site_fits}
use Rattle.kept.specs.Posts.{Sized}
use Rattle.kept.proofs.WellLaws.{small, going_large, is_small, sized_by_lem, fits_as_read, going_unfit, going_on}
use Rattle.kept.proofs.tests.goes_on.Goals as goal
use Rattle.kept.proofs.tests.goes_on.Goals.{After-mark_fits, After-site_fits, After-u16_at, After-u32_at-steps, After-u8_at, Else-not-site_fits, Else-u16_at-u8_at}

pub returns-then-u16_at-u8_at : goal.returns-then-u16_at-u8_at
returns-then-u16_at-u8_at c =
    going_large c.args.s.now c.u16_at.result c.u8_at.result c.u32_at-steps.result c.u16_at.ensures c.u8_at.ensures c.u32_at-steps.ensures c.if-u16_at-u8_at.true

-- the parts have their sizes
smaller : (c : Else-u16_at-u8_at) → small c.args.s.now ≡ true
smaller c =
    is_small c.args.s.now c.u16_at.result c.u8_at.result c.u32_at-steps.result c.u16_at.ensures c.u8_at.ensures c.u32_at-steps.ensures c.if-u16_at-u8_at.false

sized : (c : Else-u16_at-u8_at) → Sized c.args.s.now
sized c = sized_by_lem c.args.s.now c.requires (smaller c)

-- the test of the site part
tested : (c : After-site_fits)
    → c.site_fits.result
    ≡ site_fits
    (reach_of (length (site_part c.args.s.now)) start (site_part c.args.s.now) 0)
    (stage_in c.args.s.now)
    (steps_kept c.args.s.now)
tested c =
    fits_as_read c.args.s.now c.known.result c.u8_at-stage.result c.u32_at-steps.result c.site_fits.result c.known.ensures c.u8_at-stage.ensures c.u32_at-steps.ensures c.site_fits.ensures

pub known-requires : goal.known-requires
known-requires c = sized c

pub returns-then-not-site_fits : goal.returns-then-not-site_fits
returns-then-not-site_fits c =
    going_unfit c.args.s.now (smaller (goal.at.returns-then-not-site_fits c).Else-u16_at-u8_at) (sym (tested (goal.at.returns-then-not-site_fits c).After-site_fits) ∙ not-true c.site_fits.result (ap not c.if-not-site_fits.true))

pub marked-requires : goal.marked-requires
marked-requires c = sized (goal.at.marked-requires c).Else-u16_at-u8_at

pub mark_fits-requires : goal.mark_fits-requires
mark_fits-requires c = record { sized = sized (goal.at.mark_fits-requires c).Else-u16_at-u8_at; m_value = c.marked.ensures }

pub lists_fit-requires : goal.lists_fit-requires
lists_fit-requires c = record { sized = sized (goal.at.lists_fit-requires c).Else-u16_at-u8_at; stage_value = c.u8_at-stage.ensures; s_value = sym (tested (goal.at.lists_fit-requires c).After-site_fits) ∙ not-false c.site_fits.result (ap not c.if-not-site_fits.false) }

pub returns : goal.returns
returns c =
    going_on c.args.s.now c.mark_fits.result c.lists_fit.result (smaller (goal.at.returns c).Else-u16_at-u8_at) (sym (tested (goal.at.returns c).After-site_fits) ∙ not-false c.site_fits.result (ap not c.if-not-site_fits.false)) c.mark_fits.ensures c.lists_fit.ensures
