-- Where the steps have begun the lists are filled with what is kept, and where not with what stands at first.
use mathlib.Core.Path.{◌≡◌, sym, ap, ◌∙◌}
use mathlib.Core.Bool.{true, false}
use mathlib.Core.List.{List}
use Prim.Native.Nat.{ℕ, ◌+◌, ◌-◌, ◌≤◌}
use native.Mathlib.Nat.{le_trans, le_of_eq}
use lib.ListN.{length, take, drop}
use lib.Seq.{slice}
use Rattle.site.specs.Site.{count}
use Rattle.stick.specs.Site.{site_of}
use Rattle.stretch.proofs.SiteLaws.{rows_there, few_units, few_roofs}
use Rattle.kept.specs.Kept.{begun}
use Rattle.kept.specs.Layout.{site_place}
use Rattle.kept.proofs.NumberLaws.{part_from, end_fits, end_within, both_few, part_is}
use Rattle.intake.proofs.StandLaws.{stands_kept, part_accepted, roofs_lent, stands_first_lem}
use Rattle.intake.proofs.running.stand.Goals as goal
use Rattle.intake.proofs.running.stand.Goals.{After-begin, After-load, After-load_on, After-load_vars, After-roofs_place-first, Else-begun_at, Start, Then-begun_at}

-- the site part, and as many units and inverters as it has
abbrev site : Start → List ℕ
site s = slice site_place (site_place + s.args.n) s.args.s.now

units_are : (s : Start) → (length s.args.stored.now ≡ count (site_of (site s))) × (length s.args.stored.now ≤ 64)
units_are s =
    let e = s.requires.stored_len ∙ rows_there (site s) s.args.rows.now s.requires.rows_value in
    (e, le_trans (le_of_eq e) (few_units (site s) s.requires.accepted))

roofs_few : (s : Start) → length s.args.on.now ≤ 64
roofs_few s =
    le_trans (le_of_eq s.requires.on_len) (few_roofs (site s) s.requires.accepted)

pub begun_at-requires : goal.begun_at-requires
begun_at-requires c = tt

pub load-requires : goal.load-requires
load-requires c = record { s_len = c.requires.s_len; stored_len_bound = (units_are (goal.at.load-requires c).Start).1; requests_len = c.requires.requests_len ∙ sym c.requires.stored_len }

pub load_on-requires : goal.load_on-requires
load_on-requires c = record { s_len = c.requires.s_len; on_len_bound = roofs_few (goal.at.load_on-requires c).Start }

pub load_vars-requires : goal.load_vars-requires
load_vars-requires c = record { s_len = c.requires.s_len; vars_len_bound = le_trans (le_of_eq c.requires.vars_len) (both_few (length c.args.rows.now) (length c.args.on.now) (le_trans (le_of_eq (sym c.requires.stored_len)) (units_are (goal.at.load_vars-requires c).Start).1) (roofs_few (goal.at.load_vars-requires c).Start)) }

pub shape_of-stored-then-begun_at : goal.shape_of-stored-then-begun_at
shape_of-stored-then-begun_at c = c.load.auto.stored

pub shape_of-requests-then-begun_at : goal.shape_of-requests-then-begun_at
shape_of-requests-then-begun_at c = c.load.auto.requests

pub shape_of-vars-then-begun_at : goal.shape_of-vars-then-begun_at
shape_of-vars-then-begun_at c = c.load_vars.auto.vars

pub shape_of-on-then-begun_at : goal.shape_of-on-then-begun_at
shape_of-on-then-begun_at c = c.load_on.auto.on

pub returns-then-begun_at : goal.returns-then-begun_at
returns-then-begun_at c =
    let a = c.args in
    let yet : begun a.m.state ≡ true = sym c.begun_at.ensures ∙ c.if-begun_at.true in
    stands_kept a.m a.s.now (site (goal.at.returns-then-begun_at c).Start) (length a.on.now) c.requires.on_len c.load.new.stored c.load.new.requests c.load_vars.new.vars c.load_on.new.on
    (length a.stored.now) (length a.vars.now) yet (units_are (goal.at.returns-then-begun_at c).Start).0 (c.requires.vars_len ∙ ap (λ (k : ℕ). k + length a.on.now) (sym c.requires.stored_len)) c.load.ensures.stored_after c.load.ensures.requests_after c.load_on.ensures c.load_vars.ensures

pub overflow_add-n : goal.overflow_add-n
overflow_add-n c = end_fits c.args.n c.requires.n_le_site_most

pub slice_bounds-roofs_place-count : goal.slice_bounds-roofs_place-count
slice_bounds-roofs_place-count c = part_from c.args.n

pub slice_bounds-roofs_place-start : goal.slice_bounds-roofs_place-start
slice_bounds-roofs_place-start c = part_from c.args.n

pub slice_bounds-roofs_place-end : goal.slice_bounds-roofs_place-end
slice_bounds-roofs_place-end c = end_within c.args.s.now c.args.n c.requires.s_len c.requires.n_le_site_most

pub roofs_place-first-requires : goal.roofs_place-first-requires
roofs_place-first-requires c =
    let a = c.args in
    part_accepted (take (site_place + a.n - site_place) (drop site_place a.s.now)) (site (goal.at.roofs_place-first-requires c).Start) (part_is site_place a.n a.s.now) c.requires.accepted

pub overflow_add-n-2 : goal.overflow_add-n-2
overflow_add-n-2 c = end_fits c.args.n c.requires.n_le_site_most

pub slice_bounds-begin-count : goal.slice_bounds-begin-count
slice_bounds-begin-count c = part_from c.args.n

pub slice_bounds-begin-start : goal.slice_bounds-begin-start
slice_bounds-begin-start c = part_from c.args.n

pub slice_bounds-begin-end : goal.slice_bounds-begin-end
slice_bounds-begin-end c = end_within c.args.s.now c.args.n c.requires.s_len c.requires.n_le_site_most

pub begin-requires : goal.begin-requires
begin-requires c =
    let a = c.args in
    let part = take (site_place + a.n - site_place) (drop site_place a.s.now) in
    let ep = part_is site_place a.n a.s.now in record { roofs_there = roofs_lent (site (goal.at.begin-requires c).Start) (length a.on.now) c.requires.on_len part ep c.requires.accepted c.roofs_place-first.result c.roofs_place-first.ensures; stored_len = c.requires.stored_len; requests_len = c.requires.requests_len; vars_len = c.requires.vars_len }

pub shape_of-stored : goal.shape_of-stored
shape_of-stored c = c.begin.auto.stored

pub shape_of-requests : goal.shape_of-requests
shape_of-requests c = c.begin.auto.requests

pub shape_of-vars : goal.shape_of-vars
shape_of-vars c = c.begin.auto.vars

pub shape_of-on : goal.shape_of-on
shape_of-on c = c.begin.auto.on

pub returns : goal.returns
returns c =
    let a = c.args in
    let part = take (site_place + a.n - site_place) (drop site_place a.s.now) in
    let ep = part_is site_place a.n a.s.now in
    let no : begun a.m.state ≡ false = sym c.begun_at.ensures ∙ c.if-begun_at.false in
    stands_first_lem a.m a.s.now (site (goal.at.returns c).Start) (length a.on.now) c.requires.on_len c.begin.new.stored c.begin.new.requests c.begin.new.vars c.begin.new.on part ep c.requires.accepted
    c.roofs_place-first.result c.roofs_place-first.ensures a.rows.now no c.requires.rows_value c.begin.ensures.vars_after c.begin.ensures.vars_after_2 c.begin.ensures.on_after
