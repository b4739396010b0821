-- Before the steps begin there are no lists. Once they have, the site part is closed, so that the check accepts it and its units and inverters are counted.
use Rattle.kept.proofs.NumberLaws.{inside, part_from, end_within, end_fits, site_few}
use native.Mathlib.Nat.{le_trans, le_of_eq}
use native.Mathlib.Omega.{arith}
use Prim.Native.Nat.{ℕ, ◌≤◌, zero-le}
use mathlib.Core.Path.{◌≡◌, sym, ap, ◌∙◌, subst⁻¹}
use mathlib.Core.Bool.{true, false, not}
use mathlib.Core.List.{List}
use lib.ListN.{length}
use borrow.Author.Tests.{not-true, not-false}
use Rattle.site.specs.Site.{count}
use Rattle.stick.specs.Site.{site_of, roofs_of}
use Rattle.stick.specs.Check.{Accepted}
use Rattle.kept.specs.Kept.{begun_at}
use Rattle.kept.specs.Layout.{stage_in, steps_kept, site_most, site_part}
use Rattle.kept.proofs.ListLaws.{site_part_is, site_part_length, part_accepted, few_units, few_roofs, lists_before, lists_begun}
use Rattle.kept.proofs.tests.lists_fit.Goals as goal
use Rattle.kept.proofs.tests.lists_fit.Goals.{After-begun_at, After-roofs-roofs, After-stands_fit, After-u16_at-n, After-units-units, Else-not-begun_at, Start, Then-not-begun_at}

pub begun_at-requires : goal.begun_at-requires
begun_at-requires c = tt

pub rest_clear-requires : goal.rest_clear-requires
rest_clear-requires c = record { sized = c.requires.sized; units_bound = zero-le; roofs_bound = zero-le }

pub returns-then-not-begun_at : goal.returns-then-not-begun_at
returns-then-not-begun_at c =
    let no : begun_at (stage_in c.args.s.now) ≡ false = ap begun_at (sym c.requires.stage_value) ∙ sym c.begun_at.ensures ∙ not-true c.begun_at.result (ap not c.if-not-begun_at.true) in
    lists_before c.args.s.now c.rest_clear.result no c.rest_clear.ensures

-- the steps have begun, so the site part is accepted
started : (c : Else-not-begun_at) → begun_at (stage_in c.args.s.now) ≡ true
started c =
    ap begun_at (sym c.requires.stage_value) ∙ sym c.begun_at.ensures ∙ not-false c.begun_at.result (ap not c.if-not-begun_at.false)

closed : (c : Else-not-begun_at) → Accepted (site_part c.args.s.now)
closed c =
    let s = c.args.s.now in
    part_accepted (site_part s) (stage_in s) (steps_kept s) (omega (arith, site_part_length s c.requires.sized, c.requires.sized.site_fits_is)) c.requires.s_value (started c)

-- what was counted
units_are : (c : After-units-units) → c.units-units.result ≡ count (site_of (site_part c.args.s.now))
units_are c =
    let s = c.args.s.now in
    c.units-units.ensures ∙ ap (λ (p : List ℕ). count (site_of p)) (site_part_is s c.u16_at-n.result c.u16_at-n.ensures)

roofs_are : (c : After-roofs-roofs) → c.roofs-roofs.result ≡ length (roofs_of (site_part c.args.s.now))
roofs_are c =
    let s = c.args.s.now in
    c.roofs-roofs.ensures ∙ ap (λ (p : List ℕ). length (roofs_of p)) (site_part_is s c.u16_at-n.result c.u16_at-n.ensures)

few_bytes : (u : After-u16_at-n) → u.u16_at-n.result ≤ site_most
few_bytes u = site_few u.args.s.now u.u16_at-n.result u.u16_at-n.ensures u.requires.sized

pub u16_at-n-requires : goal.u16_at-n-requires
u16_at-n-requires c = inside 16 (length c.args.s.now) c.requires.sized.long tt

pub overflow_add-n : goal.overflow_add-n
overflow_add-n c = end_fits c.u16_at-n.result (few_bytes (c))

pub slice_bounds-units-count : goal.slice_bounds-units-count
slice_bounds-units-count c = part_from c.u16_at-n.result

pub slice_bounds-units-start : goal.slice_bounds-units-start
slice_bounds-units-start c = part_from c.u16_at-n.result

pub slice_bounds-units-end : goal.slice_bounds-units-end
slice_bounds-units-end c = end_within c.args.s.now c.u16_at-n.result c.requires.sized.long (few_bytes (c))

pub units-units-requires : goal.units-units-requires
units-units-requires c =
    let s = c.args.s.now in
    subst⁻¹ Accepted (site_part_is s c.u16_at-n.result c.u16_at-n.ensures) (closed (goal.at.units-units-requires c).Else-not-begun_at)

pub overflow_add-n-2 : goal.overflow_add-n-2
overflow_add-n-2 c = end_fits c.u16_at-n.result (few_bytes (goal.at.overflow_add-n-2 c).After-u16_at-n)

pub slice_bounds-roofs-count : goal.slice_bounds-roofs-count
slice_bounds-roofs-count c = part_from c.u16_at-n.result

pub slice_bounds-roofs-start : goal.slice_bounds-roofs-start
slice_bounds-roofs-start c = part_from c.u16_at-n.result

pub slice_bounds-roofs-end : goal.slice_bounds-roofs-end
slice_bounds-roofs-end c = end_within c.args.s.now c.u16_at-n.result c.requires.sized.long (few_bytes (goal.at.slice_bounds-roofs-end c).After-u16_at-n)

pub roofs-roofs-requires : goal.roofs-roofs-requires
roofs-roofs-requires c =
    let s = c.args.s.now in
    subst⁻¹ Accepted (site_part_is s c.u16_at-n.result c.u16_at-n.ensures) (closed (goal.at.roofs-roofs-requires c).Else-not-begun_at)

pub stands_fit-requires : goal.stands_fit-requires
stands_fit-requires c = record { sized = c.requires.sized; n_value = c.u16_at-n.ensures; accepted = closed (goal.at.stands_fit-requires c).Else-not-begun_at; units_value = units_are (goal.at.stands_fit-requires c).After-units-units; roofs_value = roofs_are c }

pub rest_clear-requires-2 : goal.rest_clear-requires-2
rest_clear-requires-2 c =
    let p = site_part c.args.s.now in record { sized = c.requires.sized; units_bound = le_trans (le_of_eq (units_are (goal.at.rest_clear-requires-2 c).After-units-units)) (few_units p (closed (goal.at.rest_clear-requires-2 c).Else-not-begun_at)); roofs_bound = le_trans (le_of_eq (roofs_are (goal.at.rest_clear-requires-2 c).After-roofs-roofs)) (few_roofs p (closed (goal.at.rest_clear-requires-2 c).Else-not-begun_at)) }

pub returns : goal.returns
returns c =
    let s = c.args.s.now in
    lists_begun s c.units-units.result c.roofs-roofs.result c.stands_fit.result c.rest_clear-2.result (started (goal.at.returns c).Else-not-begun_at) (units_are (goal.at.returns c).After-units-units) (roofs_are (goal.at.returns c).After-roofs-roofs) c.stands_fit.ensures c.rest_clear-2.ensures
