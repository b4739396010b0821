-- A site has at most 64 units and 64 inverters, so that a part of each array holds a value for every one; and the records have so many bytes as the steps that
-- were counted give.
use mathlib.Core.Path.{◌≡◌, refl, sym, ap, ap₂, ◌∙◌}
use mathlib.Core.List.{List}
use Prim.Native.Nat.{ℕ, ◌+◌, ◌-◌, ◌≤◌, zero-le}
use native.Mathlib.Nat.{le_trans, le_of_eq}
use native.Mathlib.Omega.{arith}
use lib.ListN.{length, take, drop}
use lib.Seq.{slice}
use Rattle.site.specs.Site.{count}
use Rattle.stick.specs.Site.{site_of, roofs_of}
use Rattle.kept.specs.Layout.{site_place}
use Rattle.kept.proofs.NumberLaws.{part_from, end_fits, end_within, both_few, both_fit, part_is}
use Rattle.intake.specs.Posts.{records_over}
use Rattle.intake.proofs.RunLaws.{not_back, few_on, part_accepted, as_many, few, fewer, size_is}
use Rattle.intake.proofs.SiteLaws.{lent}
use Rattle.intake.proofs.running.run.Goals as goal
use Rattle.intake.proofs.running.run.Goals.{After-bytes_of-size, After-roofs-roofs, After-run_with, After-units-units, Start}

-- where the function starts, and where each number is known, seen from behind it
abbrev start : After-units-units → Start
start u = u.before.before.before.before.before.before

abbrev counted : After-roofs-roofs → After-units-units
counted r = (record { before = r.before.before.before; type_inv = record { room = r.slice_known-2-1.given; bytes = r.shared_slice_known-1.given } })

abbrev sized : After-bytes_of-size → After-roofs-roofs
sized b = (record { before = b.before.before.before.before.before; type_inv = record { room = b.slice_known-2-1.given; bytes = b.shared_slice_known-1.given } })

-- the site part, and the records
abbrev site : Start → List ℕ
site s = slice site_place (site_place + s.args.n) s.args.s.now

abbrev records : Start → List ℕ
records s = records_over s.args.m s.args.s.now (site s) s.args.bytes.now s.args.head

-- as many units and inverters as the site has, no more than an array has elements
units_are : (u : After-units-units) → (u.units-units.result ≡ count (site_of (site (start u)))) × (u.units-units.result ≤ 64)
units_are u =
    let s = start u in
    let a = s.args in
    let part = take (site_place + a.n - site_place) (drop site_place a.s.now) in
    let ep = part_is site_place a.n a.s.now in
    let e = u.units-units.ensures ∙ sym (as_many a.s.now a.m a.n a.bytes.now a.head a.next s.requires.ahead part ep) in
    (e, le_trans (le_of_eq e) (few a.s.now a.m a.n a.bytes.now a.head a.next s.requires.ahead part ep))

roofs_are : (r : After-roofs-roofs) → (r.roofs-roofs.result ≡ length (roofs_of (site (start (counted r))))) × (r.roofs-roofs.result ≤ 64)
roofs_are r =
    let s = start (counted r) in
    let a = s.args in
    let part = take (site_place + a.n - site_place) (drop site_place a.s.now) in
    let ep = part_is site_place a.n a.s.now in
    let e = r.roofs-roofs.ensures ∙ ap (λ (b : List ℕ). length (roofs_of b)) ep in
    (e, le_trans (le_of_eq e) (fewer a.s.now a.m a.n a.bytes.now a.head a.next s.requires.ahead part ep))

-- the bytes of the records
size_known : (b : After-bytes_of-size) → b.bytes_of-size.result ≡ length (records (start (counted (sized b))))
size_known b =
    let s = start (counted (sized b)) in
    let a = s.args in
    let part = take (site_place + a.n - site_place) (drop site_place a.s.now) in
    let ep = part_is site_place a.n a.s.now in
    size_is a.s.now a.m a.n a.bytes.now a.head a.next s.requires.ahead part ep b.bytes_of-size.result b.bytes_of-size.ensures

pub overflow_add-n : goal.overflow_add-n
overflow_add-n c = end_fits c.args.n c.requires.ahead.fits

pub slice_bounds-units-count : goal.slice_bounds-units-count
slice_bounds-units-count c = part_from c.args.n

pub slice_bounds-units-start : goal.slice_bounds-units-start
slice_bounds-units-start c = part_from c.args.n

pub slice_bounds-units-end : goal.slice_bounds-units-end
slice_bounds-units-end c = end_within c.args.s.now c.args.n c.requires.ahead.long c.requires.ahead.fits

pub units-units-requires : goal.units-units-requires
units-units-requires c =
    let a = c.args in
    let part = take (site_place + a.n - site_place) (drop site_place a.s.now) in
    let ep = part_is site_place a.n a.s.now in
    part_accepted a.s.now a.m a.n a.bytes.now a.head a.next c.requires.ahead part ep

pub overflow_add-n-2 : goal.overflow_add-n-2
overflow_add-n-2 c = end_fits c.args.n c.requires.ahead.fits

pub slice_bounds-roofs-count : goal.slice_bounds-roofs-count
slice_bounds-roofs-count c = part_from c.args.n

pub slice_bounds-roofs-start : goal.slice_bounds-roofs-start
slice_bounds-roofs-start c = part_from c.args.n

pub slice_bounds-roofs-end : goal.slice_bounds-roofs-end
slice_bounds-roofs-end c = end_within c.args.s.now c.args.n c.requires.ahead.long c.requires.ahead.fits

pub roofs-roofs-requires : goal.roofs-roofs-requires
roofs-roofs-requires c =
    let s = start (goal.at.roofs-roofs-requires c).After-units-units in
    let a = s.args in
    let part = take (site_place + a.n - site_place) (drop site_place a.s.now) in
    let ep = part_is site_place a.n a.s.now in
    part_accepted a.s.now a.m a.n a.bytes.now a.head a.next s.requires.ahead part ep

pub overflow_add-n-3 : goal.overflow_add-n-3
overflow_add-n-3 c = end_fits c.args.n c.requires.ahead.fits

pub slice_bounds-bytes_of-count : goal.slice_bounds-bytes_of-count
slice_bounds-bytes_of-count c = part_from c.args.n

pub slice_bounds-bytes_of-start : goal.slice_bounds-bytes_of-start
slice_bounds-bytes_of-start c = part_from c.args.n

pub slice_bounds-bytes_of-end : goal.slice_bounds-bytes_of-end
slice_bounds-bytes_of-end c = end_within c.args.s.now c.args.n c.requires.ahead.long c.requires.ahead.fits

pub overflow_sub-next : goal.overflow_sub-next
overflow_sub-next c = not_back c.requires.ahead

pub bytes_of-size-requires : goal.bytes_of-size-requires
bytes_of-size-requires c =
    let s = start (counted (goal.at.bytes_of-size-requires c).After-roofs-roofs) in
    let a = s.args in
    let part = take (site_place + a.n - site_place) (drop site_place a.s.now) in
    let ep = part_is site_place a.n a.s.now in record { accepted = part_accepted a.s.now a.m a.n a.bytes.now a.head a.next s.requires.ahead part ep; steps_bound = few_on s.requires.ahead }

pub slice_bounds-run_with-count : goal.slice_bounds-run_with-count
slice_bounds-run_with-count c = zero-le

pub slice_bounds-rows-start : goal.slice_bounds-rows-start
slice_bounds-rows-start c = zero-le

pub slice_bounds-rows-end : goal.slice_bounds-rows-end
slice_bounds-rows-end c = (units_are (counted (sized (goal.at.slice_bounds-rows-end c).After-bytes_of-size))).1

pub slice_bounds-run_with-count-2 : goal.slice_bounds-run_with-count-2
slice_bounds-run_with-count-2 c = zero-le

pub slice_bounds-stored-start : goal.slice_bounds-stored-start
slice_bounds-stored-start c = zero-le

pub slice_bounds-stored-end : goal.slice_bounds-stored-end
slice_bounds-stored-end c = (units_are (counted (sized (goal.at.slice_bounds-stored-end c).After-bytes_of-size))).1

pub slice_bounds-run_with-count-3 : goal.slice_bounds-run_with-count-3
slice_bounds-run_with-count-3 c = zero-le

pub slice_bounds-requests-start : goal.slice_bounds-requests-start
slice_bounds-requests-start c = zero-le

pub slice_bounds-requests-end : goal.slice_bounds-requests-end
slice_bounds-requests-end c = (units_are (counted (sized (goal.at.slice_bounds-requests-end c).After-bytes_of-size))).1

pub overflow_add-units : goal.overflow_add-units
overflow_add-units c =
    let r = sized (goal.at.overflow_add-units c).After-bytes_of-size in
    both_fit (counted r).units-units.result r.roofs-roofs.result (units_are (counted r)).1 (roofs_are r).1

pub slice_bounds-run_with-count-4 : goal.slice_bounds-run_with-count-4
slice_bounds-run_with-count-4 c = zero-le

pub slice_bounds-vars-start : goal.slice_bounds-vars-start
slice_bounds-vars-start c = zero-le

pub slice_bounds-vars-end : goal.slice_bounds-vars-end
slice_bounds-vars-end c =
    let r = sized (goal.at.slice_bounds-vars-end c).After-bytes_of-size in
    both_few (counted r).units-units.result r.roofs-roofs.result (units_are (counted r)).1 (roofs_are r).1

pub slice_bounds-run_with-count-5 : goal.slice_bounds-run_with-count-5
slice_bounds-run_with-count-5 c = zero-le

pub slice_bounds-on-start : goal.slice_bounds-on-start
slice_bounds-on-start c = zero-le

pub slice_bounds-on-end : goal.slice_bounds-on-end
slice_bounds-on-end c = (roofs_are (sized (goal.at.slice_bounds-on-end c).After-bytes_of-size)).1

pub run_with-requires : goal.run_with-requires
run_with-requires c =
    let r = sized (goal.at.run_with-requires c).After-bytes_of-size in
    let (e, l) = units_are (counted r) in
    let (d, m) = roofs_are r in
    let u = (counted r).units-units.result in
    let v = r.roofs-roofs.result in record { ahead = (start (counted r)).requires.ahead; rows_len = lent u _ _ e l; stored_len = lent u _ _ (sym (lent u u _ refl l)) l; requests_len = lent u _ _ (sym (lent u u _ refl l)) l; on_len = lent v _ _ d m; vars_len = lent (u + v) _ _ (sym (ap₂ (λ (x y : ℕ). x + y) (lent u u _ refl l) (lent v v _ refl m))) (both_few u v l m); head_in_bounds = (start (counted r)).requires.head_in_bounds }

pub overflow_add-result : goal.overflow_add-result
overflow_add-result c =
    let s = start (counted (sized (goal.at.overflow_add-result c).After-bytes_of-size)) in
    omega (arith, size_known (goal.at.overflow_add-result c).After-bytes_of-size, s.requires.head_in_bounds, s.well_formed.1.1.1.1.1.1.0)

pub shape_of-s : goal.shape_of-s
shape_of-s c = c.run_with.auto.s

pub shape_of-room : goal.shape_of-room
shape_of-room c = c.run_with.auto.room

pub returns : goal.returns
returns c =
    let out = (start (counted (sized (goal.at.returns c).After-bytes_of-size))).args.out in record { value = ap (λ (k : ℕ). out + k) (size_known (goal.at.returns c).After-bytes_of-size); s_after = c.run_with.ensures.s_after; room_after = c.run_with.ensures.room_after }
