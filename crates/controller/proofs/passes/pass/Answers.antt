-- Each test is the definition's, in the order of rule N15, and a pass is made only where all three hold; a refusal touches nothing.
use Prim.Native.Nat.{◌-◌, ◌≤◌}
use mathlib.Core.Path.{◌≡◌, refl, sym, ◌∙◌, ap}
use mathlib.Core.Bool.{Bool, true, ◌&&◌, not}
use lib.Dec.{leb}
use lib.ListN.{length, take, replicate, length-replicate}
use borrow.Author.Tests.{not-false}
use Rattle.members.specs.Ranges.{Fleet, fleet_of, fleet_linked, lengths_in, requests_in}
use Rattle.members.specs.Posts.{SameLengths}
use Rattle.controller.specs.Ranges.{pass_in, pass_refusal}
use Rattle.controller.specs.Posts.{Sound}
use Rattle.controller.specs.Answers.{pass_answer, pass_leaves}
use Rattle.controller.proofs.SoundLaws.{same_lengths, few_units, by_first, values_are, pass_sound, no_link, none_linked}
use Rattle.controller.proofs.PassLaws.{sound_on, done_on}
use Rattle.controller.proofs.AnswerLaws.{wrong_lengths, wrong_values, wrong_requests, all_fine}
use Rattle.controller.proofs.passes.pass.Goals as goal
use Rattle.controller.proofs.passes.pass.Goals.{After-lengths_in, After-measure_in, After-pass_over, After-requests_in, After-struct_known-1, After-units_in, Else-not-fine-units_in, Else-not-lengths_in, Start, Then-not-fine-units_in, Then-not-lengths_in, Then-not-requests_in}

abbrev fleet : Start → Fleet
fleet s = let a = s.args in fleet_of a.rated.now a.reserve.now a.stored.now a.rating.now a.weight.now

-- the three tests of the definition
abbrev lengths_ok_lem : Start → Bool
lengths_ok_lem s = lengths_in (fleet s) (length s.args.requests.now)

abbrev values_ok : Start → Bool
values_ok s = pass_in s.args.s s.args.measure (fleet s) (length s.args.requests.now)

abbrev requests_ok_lem : Start → Bool
requests_ok_lem s = requests_in (fleet s) s.args.requests.now

-- the start, from the place after the lengths were tested, and after the values were
abbrev start : After-lengths_in → Start
start l = l.before.before.before.before.before.before.before

abbrev tested : After-units_in → Else-not-lengths_in
tested u = (record { before = u.before.before.before.before.before; type_inv = record { weight = u.shared_slice_known-5-1.given; rating = u.shared_slice_known-4-1.given; stored = u.shared_slice_known-3-1.given; reserve = u.shared_slice_known-2-1.given; rated = u.shared_slice_known-1.given } })

-- past the first test, and what the second one tests
lengths : (e : Else-not-lengths_in) → lengths_ok_lem (start (record { before = e.before.before; type_inv = record { weight = e.shared_slice_known-5-1.given; rating = e.shared_slice_known-4-1.given; stored = e.shared_slice_known-3-1.given; reserve = e.shared_slice_known-2-1.given; rated = e.shared_slice_known-1.given } })) ≡ true
lengths e = sym e.lengths_in.ensures ∙ not-false e.lengths_in.result (ap not e.if-not-lengths_in.false)

abbrev fine : After-units_in → Bool
fine u = u.settings_in.result && leb (start (record { before = u.before.before.before.before.before.before; type_inv = record { weight = u.shared_slice_known-5-1.given; rating = u.shared_slice_known-4-1.given; stored = u.shared_slice_known-3-1.given; reserve = u.shared_slice_known-2-1.given; rated = u.shared_slice_known-1.given } })).args.s.mode 3 && u.measure_in.result && u.units_in.result

values : (u : After-units_in) → fine u ≡ values_ok (start (record { before = (tested u).before.before; type_inv = record { weight = (tested u).shared_slice_known-5-1.given; rating = (tested u).shared_slice_known-4-1.given; stored = (tested u).shared_slice_known-3-1.given; reserve = (tested u).shared_slice_known-2-1.given; rated = (tested u).shared_slice_known-1.given } }))
values u =
    let s = start (record { before = u.before.before.before.before.before.before; type_inv = record { weight = u.shared_slice_known-5-1.given; rating = u.shared_slice_known-4-1.given; stored = u.shared_slice_known-3-1.given; reserve = u.shared_slice_known-2-1.given; rated = u.shared_slice_known-1.given } }) in
    values_are s.args.s s.args.measure s.ranges.measure.sfits (fleet s) (length s.args.requests.now) (lengths (record { before = u.before.before.before.before.before; type_inv = record { weight = u.shared_slice_known-5-1.given; rating = u.shared_slice_known-4-1.given; stored = u.shared_slice_known-3-1.given; reserve = u.shared_slice_known-2-1.given; rated = u.shared_slice_known-1.given } }))
    u.settings_in.result u.measure_in.result u.units_in.result u.settings_in.ensures u.measure_in.ensures u.units_in.ensures

few : (e : Else-not-lengths_in) → length (start (record { before = e.before.before; type_inv = record { weight = e.shared_slice_known-5-1.given; rating = e.shared_slice_known-4-1.given; stored = e.shared_slice_known-3-1.given; reserve = e.shared_slice_known-2-1.given; rated = e.shared_slice_known-1.given } })).args.requests.now ≤ 64
few e = let s = start (record { before = e.before.before; type_inv = record { weight = e.shared_slice_known-5-1.given; rating = e.shared_slice_known-4-1.given; stored = e.shared_slice_known-3-1.given; reserve = e.shared_slice_known-2-1.given; rated = e.shared_slice_known-1.given } }) in few_units (fleet s) (length s.args.requests.now) (lengths e)

same : (e : Else-not-lengths_in) → let s = start (record { before = e.before.before; type_inv = record { weight = e.shared_slice_known-5-1.given; rating = e.shared_slice_known-4-1.given; stored = e.shared_slice_known-3-1.given; reserve = e.shared_slice_known-2-1.given; rated = e.shared_slice_known-1.given } }) in SameLengths (fleet s) (length s.args.requests.now)
same e = let s = start (record { before = e.before.before; type_inv = record { weight = e.shared_slice_known-5-1.given; rating = e.shared_slice_known-4-1.given; stored = e.shared_slice_known-3-1.given; reserve = e.shared_slice_known-2-1.given; rated = e.shared_slice_known-1.given } }) in same_lengths (fleet s) (length s.args.requests.now) (lengths e) (length-replicate (length s.args.rated.now) 0)

-- what is lent for the links is a list of zeros, and all tests passed are enough for a pass
abbrev linked : Start → Fleet
linked s = let a = s.args in fleet_linked a.rated.now a.reserve.now a.stored.now a.rating.now a.weight.now (take (length a.requests.now - 0) (replicate 64 0))

no_links : (e : Else-not-lengths_in) → linked (start (record { before = e.before.before; type_inv = record { weight = e.shared_slice_known-5-1.given; rating = e.shared_slice_known-4-1.given; stored = e.shared_slice_known-3-1.given; reserve = e.shared_slice_known-2-1.given; rated = e.shared_slice_known-1.given } })) ≡ fleet (start (record { before = e.before.before; type_inv = record { weight = e.shared_slice_known-5-1.given; rating = e.shared_slice_known-4-1.given; stored = e.shared_slice_known-3-1.given; reserve = e.shared_slice_known-2-1.given; rated = e.shared_slice_known-1.given } }))
no_links e = let a = (start (record { before = e.before.before; type_inv = record { weight = e.shared_slice_known-5-1.given; rating = e.shared_slice_known-4-1.given; stored = e.shared_slice_known-3-1.given; reserve = e.shared_slice_known-2-1.given; rated = e.shared_slice_known-1.given } })).args in none_linked a.rated.now a.reserve.now a.stored.now a.rating.now a.weight.now (length a.requests.now) (same e).rated (few e)

enough : (g : Else-not-fine-units_in) → let s = start (record { before = (tested (record { before = g.before.before; type_inv = record { weight = g.shared_slice_known-5-1.given; rating = g.shared_slice_known-4-1.given; stored = g.shared_slice_known-3-1.given; reserve = g.shared_slice_known-2-1.given; rated = g.shared_slice_known-1.given } })).before.before; type_inv = record { weight = (tested (record { before = g.before.before; type_inv = record { weight = g.shared_slice_known-5-1.given; rating = g.shared_slice_known-4-1.given; stored = g.shared_slice_known-3-1.given; reserve = g.shared_slice_known-2-1.given; rated = g.shared_slice_known-1.given } })).shared_slice_known-5-1.given; rating = (tested (record { before = g.before.before; type_inv = record { weight = g.shared_slice_known-5-1.given; rating = g.shared_slice_known-4-1.given; stored = g.shared_slice_known-3-1.given; reserve = g.shared_slice_known-2-1.given; rated = g.shared_slice_known-1.given } })).shared_slice_known-4-1.given; stored = (tested (record { before = g.before.before; type_inv = record { weight = g.shared_slice_known-5-1.given; rating = g.shared_slice_known-4-1.given; stored = g.shared_slice_known-3-1.given; reserve = g.shared_slice_known-2-1.given; rated = g.shared_slice_known-1.given } })).shared_slice_known-3-1.given; reserve = (tested (record { before = g.before.before; type_inv = record { weight = g.shared_slice_known-5-1.given; rating = g.shared_slice_known-4-1.given; stored = g.shared_slice_known-3-1.given; reserve = g.shared_slice_known-2-1.given; rated = g.shared_slice_known-1.given } })).shared_slice_known-2-1.given; rated = (tested (record { before = g.before.before; type_inv = record { weight = g.shared_slice_known-5-1.given; rating = g.shared_slice_known-4-1.given; stored = g.shared_slice_known-3-1.given; reserve = g.shared_slice_known-2-1.given; rated = g.shared_slice_known-1.given } })).shared_slice_known-1.given } }) in Sound s.args.s s.args.measure (fleet s) (length s.args.requests.now)
enough g =
    let s = start (record { before = (tested (record { before = g.before.before; type_inv = record { weight = g.shared_slice_known-5-1.given; rating = g.shared_slice_known-4-1.given; stored = g.shared_slice_known-3-1.given; reserve = g.shared_slice_known-2-1.given; rated = g.shared_slice_known-1.given } })).before.before; type_inv = record { weight = (tested (record { before = g.before.before; type_inv = record { weight = g.shared_slice_known-5-1.given; rating = g.shared_slice_known-4-1.given; stored = g.shared_slice_known-3-1.given; reserve = g.shared_slice_known-2-1.given; rated = g.shared_slice_known-1.given } })).shared_slice_known-5-1.given; rating = (tested (record { before = g.before.before; type_inv = record { weight = g.shared_slice_known-5-1.given; rating = g.shared_slice_known-4-1.given; stored = g.shared_slice_known-3-1.given; reserve = g.shared_slice_known-2-1.given; rated = g.shared_slice_known-1.given } })).shared_slice_known-4-1.given; stored = (tested (record { before = g.before.before; type_inv = record { weight = g.shared_slice_known-5-1.given; rating = g.shared_slice_known-4-1.given; stored = g.shared_slice_known-3-1.given; reserve = g.shared_slice_known-2-1.given; rated = g.shared_slice_known-1.given } })).shared_slice_known-3-1.given; reserve = (tested (record { before = g.before.before; type_inv = record { weight = g.shared_slice_known-5-1.given; rating = g.shared_slice_known-4-1.given; stored = g.shared_slice_known-3-1.given; reserve = g.shared_slice_known-2-1.given; rated = g.shared_slice_known-1.given } })).shared_slice_known-2-1.given; rated = (tested (record { before = g.before.before; type_inv = record { weight = g.shared_slice_known-5-1.given; rating = g.shared_slice_known-4-1.given; stored = g.shared_slice_known-3-1.given; reserve = g.shared_slice_known-2-1.given; rated = g.shared_slice_known-1.given } })).shared_slice_known-1.given } }) in
    let n = length s.args.rated.now in
    pass_sound s.args.s s.args.measure (fleet s) (length s.args.requests.now) (lengths (tested (record { before = g.before.before; type_inv = record { weight = g.shared_slice_known-5-1.given; rating = g.shared_slice_known-4-1.given; stored = g.shared_slice_known-3-1.given; reserve = g.shared_slice_known-2-1.given; rated = g.shared_slice_known-1.given } }))) (length-replicate n 0) (no_link n) (sym (values (record { before = g.before.before; type_inv = record { weight = g.shared_slice_known-5-1.given; rating = g.shared_slice_known-4-1.given; stored = g.shared_slice_known-3-1.given; reserve = g.shared_slice_known-2-1.given; rated = g.shared_slice_known-1.given } })) ∙ not-false (fine (record { before = g.before.before; type_inv = record { weight = g.shared_slice_known-5-1.given; rating = g.shared_slice_known-4-1.given; stored = g.shared_slice_known-3-1.given; reserve = g.shared_slice_known-2-1.given; rated = g.shared_slice_known-1.given } })) (ap not g.if-not-fine-units_in.false))

pub returns-then-not-lengths_in : goal.returns-then-not-lengths_in
unfolding pass_answer pass_leaves pass_refusal
returns-then-not-lengths_in c =
    let s = start (goal.at.returns-then-not-lengths_in c).After-lengths_in in
    let a = wrong_lengths s.args.s s.args.measure (fleet s) s.args.requests.now (lengths_ok_lem s) (values_ok s) (requests_ok_lem s) c.lengths_in.result (values_ok s) (requests_ok_lem s) c.lengths_in.ensures refl refl (ap not c.if-not-lengths_in.true) c.refused.result c.refused.ensures in record { value = a.answer_is; requests_after = a.leaves }

pub units_in-requires : goal.units_in-requires
units_in-requires c =
    let s = start (goal.at.units_in-requires c).After-lengths_in in
    by_first (fleet s) (length s.args.requests.now) (same (goal.at.units_in-requires c).Else-not-lengths_in)

pub returns-then-not-fine-units_in : goal.returns-then-not-fine-units_in
unfolding pass_answer pass_leaves pass_refusal
returns-then-not-fine-units_in c =
    let e = tested (goal.at.returns-then-not-fine-units_in c).After-units_in in
    let s = start (record { before = e.before.before; type_inv = record { weight = e.shared_slice_known-5-1.given; rating = e.shared_slice_known-4-1.given; stored = e.shared_slice_known-3-1.given; reserve = e.shared_slice_known-2-1.given; rated = e.shared_slice_known-1.given } }) in
    let a = wrong_values s.args.s s.args.measure (fleet s) s.args.requests.now (lengths_ok_lem s) (values_ok s) (requests_ok_lem s) e.lengths_in.result (fine (goal.at.returns-then-not-fine-units_in c).After-units_in) (requests_ok_lem s) e.lengths_in.ensures (values (goal.at.returns-then-not-fine-units_in c).After-units_in) refl (ap not e.if-not-lengths_in.false) (ap not c.if-not-fine-units_in.true) c.refused-then-not-fine-units_in.result c.refused-then-not-fine-units_in.ensures in record { value = a.answer_is; requests_after = a.leaves }

pub requests_in-requires : goal.requests_in-requires
requests_in-requires c = let e = tested (goal.at.requests_in-requires c).After-units_in in record { rating_len = (same e).rating; requests_len_bound = few e }

pub returns-then-not-requests_in : goal.returns-then-not-requests_in
unfolding pass_answer pass_leaves pass_refusal
returns-then-not-requests_in c =
    let e = tested (goal.at.returns-then-not-requests_in c).After-units_in in
    let s = start (record { before = e.before.before; type_inv = record { weight = e.shared_slice_known-5-1.given; rating = e.shared_slice_known-4-1.given; stored = e.shared_slice_known-3-1.given; reserve = e.shared_slice_known-2-1.given; rated = e.shared_slice_known-1.given } }) in
    let a = wrong_requests s.args.s s.args.measure (fleet s) s.args.requests.now (lengths_ok_lem s) (values_ok s) (requests_ok_lem s) e.lengths_in.result (fine (goal.at.returns-then-not-requests_in c).After-units_in) c.requests_in.result e.lengths_in.ensures (values (goal.at.returns-then-not-requests_in c).After-units_in) c.requests_in.ensures (ap not e.if-not-lengths_in.false) (ap not c.if-not-fine-units_in.false) (ap not c.if-not-requests_in.true) c.refused-then-not-requests_in.result c.refused-then-not-requests_in.ensures in record { value = a.answer_is; requests_after = a.leaves }

pub slice_bounds-pass_over-end : goal.slice_bounds-pass_over-end
slice_bounds-pass_over-end c = few (tested (goal.at.slice_bounds-pass_over-end c).After-units_in)

pub pass_over-requires : goal.pass_over-requires
pass_over-requires c =
    let e = tested (goal.at.pass_over-requires c).After-units_in in
    let s = start (record { before = e.before.before; type_inv = record { weight = e.shared_slice_known-5-1.given; rating = e.shared_slice_known-4-1.given; stored = e.shared_slice_known-3-1.given; reserve = e.shared_slice_known-2-1.given; rated = e.shared_slice_known-1.given } }) in
    sound_on s.args.s s.args.measure (fleet s) (linked s) (length s.args.requests.now) (no_links e) (enough (goal.at.pass_over-requires c).Else-not-fine-units_in)

pub returns : goal.returns
unfolding pass_answer pass_leaves pass_refusal
returns c =
    let e = tested (goal.at.returns c).After-units_in in
    let s = start (record { before = e.before.before; type_inv = record { weight = e.shared_slice_known-5-1.given; rating = e.shared_slice_known-4-1.given; stored = e.shared_slice_known-3-1.given; reserve = e.shared_slice_known-2-1.given; rated = e.shared_slice_known-1.given } }) in
    let rs = s.args.requests.now in
    let after = c.pass_over.new.requests in
    let done = done_on s.args.s s.args.measure (fleet s) (linked s) (length rs) (no_links e) (enough (goal.at.returns c).Else-not-fine-units_in) rs after c.pass_over.result c.pass_over.ensures in
    let a = all_fine s.args.s s.args.measure (fleet s) rs (lengths_ok_lem s) (values_ok s) (requests_ok_lem s) e.lengths_in.result (fine (goal.at.returns c).After-units_in) c.requests_in.result e.lengths_in.ensures (values (goal.at.returns c).After-units_in) c.requests_in.ensures (ap not e.if-not-lengths_in.false) (ap not c.if-not-fine-units_in.false) (ap not c.if-not-requests_in.false) after c.pass_over.result done in record { value = a.answer_is; requests_after = a.leaves }
