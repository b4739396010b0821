-- The rows hold the site part's units, the lists what stands before the fields, so that the steps over them leave what the definitions say; it is kept with the
-- mark behind the fields.
use mathlib.Core.Path.{◌≡◌, sym, ap, ◌∙◌}
use mathlib.Core.List.{List}
use Prim.Native.Nat.{ℕ, ◌+◌, ◌-◌}
use native.Mathlib.Nat.{le_trans, le_of_eq}
use lib.ListN.{length, take, drop}
use Rattle.stick.specs.Site.{site_of, roofs_of}
use Rattle.kept.specs.declared.Mark.{Mark}
use Rattle.kept.specs.Layout.{site_place}
use Rattle.kept.proofs.NumberLaws.{part_from, end_fits, end_within, both_few, part_is}
use Rattle.intake.proofs.RunLaws.{part_accepted, as_many, few, fewer, fit, first_held, all_left, all_written}
use Rattle.intake.proofs.running.run_with.Goals as goal
use Rattle.intake.proofs.running.run_with.Goals.{After-keep, After-load, After-load-arg-1, After-mark_after-k, After-over-w, After-slice_known-8-1, After-stand, After-stand-arg-3-1, Start}

-- from each call back to the one before it
abbrev start : After-load → Start
start l = l.before.before.before.before.before.before.before.before.before.before.before

abbrev loaded : After-stand → After-load
loaded t = (record { before = t.before.before.before.before.before.before.before; type_inv = record { room = t.slice_known-4-1.given; on = t.slice_known-3-1.given; stored = t.slice_known-2-1.given; bytes = t.shared_slice_known-1.given } })

abbrev stood : After-over-w → After-stand
stood o = (record { before = o.before.before.before.before.before.before.before.before.before.before.before.before.before.before; type_inv = record { room = o.slice_known-4-1.given; bytes = o.shared_slice_known-1.given } })

abbrev gone : After-mark_after-k → After-over-w
gone k = (record { before = k.before.before.before.before.before.before.before.before.before.before.before; type_inv = record { bytes = k.shared_slice_known-1.given } })

-- what the lists hold is as long as they came
stores_kept : (o : After-over-w) → length o.over-w.new.stored ≡ length (start (loaded (stood o))).args.stored.now
stores_kept o = o.over-w.auto.stored ∙ (stood o).stand.auto.stored

asks_kept : (o : After-over-w) → length o.over-w.new.requests ≡ length (start (loaded (stood o))).args.requests.now
asks_kept o = o.over-w.auto.requests ∙ (stood o).stand.auto.requests

vars_kept_lem : (o : After-over-w) → length o.over-w.new.vars ≡ length (start (loaded (stood o))).args.vars.now
vars_kept_lem o = o.over-w.auto.vars ∙ (stood o).stand.auto.vars

flags_kept : (o : After-over-w) → length o.over-w.new.on ≡ length (start (loaded (stood o))).args.on.now
flags_kept o = o.over-w.auto.on ∙ (stood o).stand.auto.on

pub overflow_add-n : goal.overflow_add-n
overflow_add-n c = end_fits c.args.c.site c.requires.ahead.fits

pub slice_bounds-load-count : goal.slice_bounds-load-count
slice_bounds-load-count c = part_from c.args.c.site

pub slice_bounds-load-start : goal.slice_bounds-load-start
slice_bounds-load-start c = part_from c.args.c.site

pub slice_bounds-load-end : goal.slice_bounds-load-end
slice_bounds-load-end c = end_within c.args.s.now c.args.c.site c.requires.ahead.long c.requires.ahead.fits

pub load-requires : goal.load-requires
load-requires c =
    let a = c.args in
    let state = a.s.now in
    let part = take (site_place + a.c.site - site_place) (drop site_place state) in
    let ep = part_is site_place a.c.site state in record { accepted = part_accepted state a.c.mark a.c.site a.bytes.now a.c.head a.c.next c.requires.ahead part ep; rows_len = c.requires.rows_len ∙ as_many state a.c.mark a.c.site a.bytes.now a.c.head a.c.next c.requires.ahead part ep }

pub stand-requires : goal.stand-requires
stand-requires c =
    let s = start (goal.at.stand-requires c).After-load in
    let a = s.args in
    let state = a.s.now in
    let part = take (site_place + a.c.site - site_place) (drop site_place state) in
    let ep = part_is site_place a.c.site state in
    let same = c.load.auto.rows in record { s_len = s.requires.ahead.long; n_le_site_most = s.requires.ahead.fits; accepted = s.requires.ahead.accepted; rows_value = c.load.ensures.rows_after ∙ ap (λ (b : List ℕ). (site_of b).units) ep; stored_len = s.requires.stored_len ∙ sym same; requests_len = s.requires.requests_len ∙ sym same; on_len = s.requires.on_len; vars_len = s.requires.vars_len ∙ ap (λ (k : ℕ). k + length a.on.now) (sym same) }

pub overflow_add-n-2 : goal.overflow_add-n-2
overflow_add-n-2 c = end_fits c.args.c.site c.requires.ahead.fits

pub slice_bounds-over-count : goal.slice_bounds-over-count
slice_bounds-over-count c = part_from c.args.c.site

pub slice_bounds-over-start : goal.slice_bounds-over-start
slice_bounds-over-start c = part_from c.args.c.site

pub slice_bounds-over-end : goal.slice_bounds-over-end
slice_bounds-over-end c = end_within c.args.s.now c.args.c.site c.requires.ahead.long c.requires.ahead.fits

pub over-w-requires : goal.over-w-requires
over-w-requires c =
    let l = loaded (goal.at.over-w-requires c).After-stand in
    let s = start l in
    let a = s.args in
    let state = a.s.now in
    let part = take (site_place + a.c.site - site_place) (drop site_place state) in
    let ep = part_is site_place a.c.site state in
    let stored = c.stand.new.stored in
    let rs = c.stand.new.requests in
    let vs = c.stand.new.vars in
    let on = c.stand.new.on in
    let fits = fit state a.c.mark a.c.site a.bytes.now a.c.head a.c.next s.requires.ahead part ep a.c.out (length a.room.now) s.requires.head_in_bounds in record { accepted = part_accepted state a.c.mark a.c.site a.bytes.now a.c.head a.c.next s.requires.ahead part ep; rows_value = l.load.ensures.rows_after; rested = l.load.ensures.rested; holding = first_held state a.c.mark a.c.site a.bytes.now a.c.head a.c.next s.requires.ahead part ep stored rs vs on c.stand.ensures; on_len = c.stand.auto.on ∙ s.requires.on_len ∙ ap (λ (b : List ℕ). length (roofs_of b)) (sym ep); head_in_bounds = s.requires.ahead.upto; steps_there = s.requires.ahead.there; shining = s.requires.ahead.shines; bytes_bound = le_trans (le_of_eq s.requires.ahead.counted) s.requires.ahead.few; bytes_in_bounds = fits }

pub mark_after-k-requires : goal.mark_after-k-requires
mark_after-k-requires c =
    let s = start (loaded (stood (goal.at.mark_after-k-requires c).After-over-w)) in record { tail_le_place = s.requires.ahead.place_there; bytes_bound = s.requires.ahead.place_fits_is }

pub keep-requires : goal.keep-requires
keep-requires c =
    let o = gone (goal.at.keep-requires c).After-mark_after-k in
    let s = start (loaded (stood o)) in
    let a = s.args in
    let state = a.s.now in
    let part = take (site_place + a.c.site - site_place) (drop site_place state) in
    let ep = part_is site_place a.c.site state in
    let few = few state a.c.mark a.c.site a.bytes.now a.c.head a.c.next s.requires.ahead part ep in
    let fewer = fewer state a.c.mark a.c.site a.bytes.now a.c.head a.c.next s.requires.ahead part ep in
    let site = ap (λ (x : Mark). x.site) c.mark_after-k.ensures in
    let tail = ap (λ (x : Mark). x.tail) c.mark_after-k.ensures in record { s_len = s.requires.ahead.long; site_le_site_most = le_trans (le_of_eq site) s.requires.ahead.fits; tail_value = tail; stored_len_bound = le_trans (le_of_eq (stores_kept o ∙ s.requires.stored_len ∙ s.requires.rows_len)) few; requests_len = asks_kept o ∙ s.requires.requests_len ∙ sym (stores_kept o ∙ s.requires.stored_len); vars_len_bound = le_trans (le_of_eq (vars_kept_lem o ∙ s.requires.vars_len)) (both_few (length a.rows.now) (length a.on.now) (le_trans (le_of_eq s.requires.rows_len) few) (le_trans (le_of_eq s.requires.on_len) fewer)); on_len_bound = le_trans (le_of_eq (flags_kept o ∙ s.requires.on_len)) fewer }

pub shape_of-s : goal.shape_of-s
shape_of-s c = c.keep.auto.s

pub shape_of-rows : goal.shape_of-rows
shape_of-rows c = (loaded (stood (gone (goal.at.shape_of-rows c).After-mark_after-k))).load.auto.rows

pub shape_of-stored : goal.shape_of-stored
shape_of-stored c = stores_kept (gone (goal.at.shape_of-stored c).After-mark_after-k)

pub shape_of-requests : goal.shape_of-requests
shape_of-requests c = asks_kept (gone (goal.at.shape_of-requests c).After-mark_after-k)

pub shape_of-vars : goal.shape_of-vars
shape_of-vars c = vars_kept_lem (gone (goal.at.shape_of-vars c).After-mark_after-k)

pub shape_of-on : goal.shape_of-on
shape_of-on c = flags_kept (gone (goal.at.shape_of-on c).After-mark_after-k)

pub shape_of-room : goal.shape_of-room
shape_of-room c = (gone (goal.at.shape_of-room c).After-mark_after-k).over-w.auto.room

pub returns : goal.returns
returns c =
    let o = gone (goal.at.returns c).After-mark_after-k in
    let p = stood o in
    let l = loaded p in
    let s = start l in
    let a = s.args in
    let state = a.s.now in
    let part = take (site_place + a.c.site - site_place) (drop site_place state) in
    let ep = part_is site_place a.c.site state in
    let stored = p.stand.new.stored in
    let rs = p.stand.new.requests in
    let vs = p.stand.new.vars in
    let on = p.stand.new.on in record {
      s_after = c.keep.ensures
          ∙ all_left state a.c.mark a.c.site a.bytes.now a.c.head a.c.next s.requires.ahead part ep stored rs vs on p.stand.ensures
          c.mark_after-k.result o.over-w.result.due o.over-w.new.stored o.over-w.new.requests o.over-w.new.vars o.over-w.new.on
          c.mark_after-k.ensures o.over-w.ensures.due_value o.over-w.ensures.on_after;
      room_after = o.over-w.ensures.room_after ∙ all_written state a.c.mark a.c.site a.bytes.now a.c.head a.c.next s.requires.ahead part ep stored rs vs on p.stand.ensures a.room.now a.c.out;
    }
