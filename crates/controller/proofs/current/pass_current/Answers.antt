-- Each test is the definition's, in the order of rule N15, and a pass is made only where all three hold; a refusal touches nothing.
use Prim.Native.Nat.{◌≤◌}
use mathlib.Core.Path.{◌≡◌, refl, sym, ap, ◌∙◌}
use mathlib.Core.Bool.{Bool, true, ◌&&◌, not}
use lib.Dec.{eqb}
use lib.ListN.{length, length-replicate}
use borrow.Author.Tests.{eqb-true, not-false}
use Rattle.whole.proofs.OverLaws.{and_parts}
use Rattle.rules.specs.Rules.{by_current}
use Rattle.members.specs.Ranges.{Fleet, fleet_of, fleet_linked, links_of, member_at, lengths_in, requests_in}
use Rattle.members.specs.Posts.{SameLengths}
use Rattle.controller.specs.Ranges.{current_pass_in, current_refusal}
use Rattle.controller.specs.Posts.{Sound}
use Rattle.controller.specs.Answers.{current_answer, current_leaves}
use Rattle.controller.proofs.SoundLaws.{same_lengths, few_units, by_first, current_values_are, current_sound}
use Rattle.controller.proofs.AnswerLaws.{wrong_lengths, wrong_values, wrong_requests, all_fine}
use Rattle.controller.proofs.current.pass_current.Goals as goal
use Rattle.controller.proofs.current.pass_current.Goals.{After-connections_in, After-lengths_in-five, After-pass_linked, After-requests_in, After-units_in-units, Else-not-fine-units, Else-not-five-phases, Else-not-requests_in, Start, Then-not-fine-units, Then-not-five-phases, Then-not-requests_in}

abbrev fleet : Start → Fleet
fleet s = let a = s.args in fleet_linked a.rated.now a.reserve.now a.stored.now a.rating.now a.weight.now (links_of a.phases.now a.volts.now)

-- the three tests of the definition
abbrev lengths_ok_lem : Start → Bool
lengths_ok_lem s = let a = s.args in lengths_in (fleet s) (length a.requests.now) && eqb (length a.phases.now) (length a.requests.now) && eqb (length a.volts.now) (length a.requests.now)

abbrev values_ok : Start → Bool
values_ok s = let a = s.args in current_pass_in a.aim.settings a.aim.measure (fleet s) a.phases.now a.volts.now (length a.requests.now)

abbrev requests_ok_lem : Start → Bool
requests_ok_lem s = requests_in (fleet s) s.args.requests.now

-- the start, from the place after the lengths were tested, and after the values were
abbrev start : After-lengths_in-five → Start
start l = l.before.before.before.before.before.before.before.before.before

abbrev tested : After-connections_in → Else-not-five-phases
tested v = (record { before = v.before.before.before.before.before.before.before.before; type_inv = record { volts = v.shared_slice_known-7-1.given; phases = v.shared_slice_known-6-1.given; weight = v.shared_slice_known-5-1.given; rating = v.shared_slice_known-4-1.given; stored = v.shared_slice_known-3-1.given; reserve = v.shared_slice_known-2-1.given; rated = v.shared_slice_known-1.given } })

-- what the first test tests, and what is known past it
abbrev seven : After-lengths_in-five → Bool
seven l = let a = (start l).args in l.lengths_in-five.result && eqb (length a.phases.now) (length a.requests.now) && eqb (length a.volts.now) (length a.requests.now)

seven_is : (l : After-lengths_in-five) → seven l ≡ lengths_ok_lem (start l)
seven_is l =
    let a = (start l).args in
    ap (λ (b : Bool). b && eqb (length a.phases.now) (length a.requests.now) && eqb (length a.volts.now) (length a.requests.now)) l.lengths_in-five.ensures

record Lengths (s : Start) : Type 0 where
  five : lengths_in (fleet s) (length s.args.requests.now) ≡ true
  phases : length s.args.phases.now ≡ length s.args.requests.now
  volts : length s.args.volts.now ≡ length s.args.requests.now

lengths : (e : Else-not-five-phases) → Lengths (start (record { before = e.before.before; type_inv = record { volts = e.shared_slice_known-7-1.given; phases = e.shared_slice_known-6-1.given; weight = e.shared_slice_known-5-1.given; rating = e.shared_slice_known-4-1.given; stored = e.shared_slice_known-3-1.given; reserve = e.shared_slice_known-2-1.given; rated = e.shared_slice_known-1.given } }))
lengths e =
    let a = (start (record { before = e.before.before; type_inv = record { volts = e.shared_slice_known-7-1.given; phases = e.shared_slice_known-6-1.given; weight = e.shared_slice_known-5-1.given; rating = e.shared_slice_known-4-1.given; stored = e.shared_slice_known-3-1.given; reserve = e.shared_slice_known-2-1.given; rated = e.shared_slice_known-1.given } })).args in
    let n = length a.requests.now in
    let u = and_parts (lengths_in (fleet (start (record { before = e.before.before; type_inv = record { volts = e.shared_slice_known-7-1.given; phases = e.shared_slice_known-6-1.given; weight = e.shared_slice_known-5-1.given; rating = e.shared_slice_known-4-1.given; stored = e.shared_slice_known-3-1.given; reserve = e.shared_slice_known-2-1.given; rated = e.shared_slice_known-1.given } }))) n && eqb (length a.phases.now) n) (eqb (length a.volts.now) n) (sym (seven_is (record { before = e.before.before; type_inv = record { volts = e.shared_slice_known-7-1.given; phases = e.shared_slice_known-6-1.given; weight = e.shared_slice_known-5-1.given; rating = e.shared_slice_known-4-1.given; stored = e.shared_slice_known-3-1.given; reserve = e.shared_slice_known-2-1.given; rated = e.shared_slice_known-1.given } })) ∙ not-false (seven (record { before = e.before.before; type_inv = record { volts = e.shared_slice_known-7-1.given; phases = e.shared_slice_known-6-1.given; weight = e.shared_slice_known-5-1.given; rating = e.shared_slice_known-4-1.given; stored = e.shared_slice_known-3-1.given; reserve = e.shared_slice_known-2-1.given; rated = e.shared_slice_known-1.given } })) (ap not e.if-not-five-phases.false)) in
    let t = and_parts (lengths_in (fleet (start (record { before = e.before.before; type_inv = record { volts = e.shared_slice_known-7-1.given; phases = e.shared_slice_known-6-1.given; weight = e.shared_slice_known-5-1.given; rating = e.shared_slice_known-4-1.given; stored = e.shared_slice_known-3-1.given; reserve = e.shared_slice_known-2-1.given; rated = e.shared_slice_known-1.given } }))) n) (eqb (length a.phases.now) n) u.0 in
    record { five = t.0; phases = eqb-true (length a.phases.now) n t.1; volts = eqb-true (length a.volts.now) n u.1 }

few : (e : Else-not-five-phases) → length (start (record { before = e.before.before; type_inv = record { volts = e.shared_slice_known-7-1.given; phases = e.shared_slice_known-6-1.given; weight = e.shared_slice_known-5-1.given; rating = e.shared_slice_known-4-1.given; stored = e.shared_slice_known-3-1.given; reserve = e.shared_slice_known-2-1.given; rated = e.shared_slice_known-1.given } })).args.requests.now ≤ 64
few e = let s = start (record { before = e.before.before; type_inv = record { volts = e.shared_slice_known-7-1.given; phases = e.shared_slice_known-6-1.given; weight = e.shared_slice_known-5-1.given; rating = e.shared_slice_known-4-1.given; stored = e.shared_slice_known-3-1.given; reserve = e.shared_slice_known-2-1.given; rated = e.shared_slice_known-1.given } }) in few_units (fleet s) (length s.args.requests.now) (lengths e).five

-- the lists that both passes have
abbrev five_lists : Start → Fleet
five_lists s = let a = s.args in fleet_of a.rated.now a.reserve.now a.stored.now a.rating.now a.weight.now

same : (e : Else-not-five-phases) → let s = start (record { before = e.before.before; type_inv = record { volts = e.shared_slice_known-7-1.given; phases = e.shared_slice_known-6-1.given; weight = e.shared_slice_known-5-1.given; rating = e.shared_slice_known-4-1.given; stored = e.shared_slice_known-3-1.given; reserve = e.shared_slice_known-2-1.given; rated = e.shared_slice_known-1.given } }) in SameLengths (five_lists s) (length s.args.requests.now)
same e = let s = start (record { before = e.before.before; type_inv = record { volts = e.shared_slice_known-7-1.given; phases = e.shared_slice_known-6-1.given; weight = e.shared_slice_known-5-1.given; rating = e.shared_slice_known-4-1.given; stored = e.shared_slice_known-3-1.given; reserve = e.shared_slice_known-2-1.given; rated = e.shared_slice_known-1.given } }) in same_lengths (five_lists s) (length s.args.requests.now) (lengths e).five (length-replicate (length s.args.rated.now) 0)

-- what the second test tests
abbrev fine : After-connections_in → Bool
fine v =
    v.settings_in.result && by_current (start (record { before = (tested v).before.before; type_inv = record { volts = (tested v).shared_slice_known-7-1.given; phases = (tested v).shared_slice_known-6-1.given; weight = (tested v).shared_slice_known-5-1.given; rating = (tested v).shared_slice_known-4-1.given; stored = (tested v).shared_slice_known-3-1.given; reserve = (tested v).shared_slice_known-2-1.given; rated = (tested v).shared_slice_known-1.given } })).args.aim.settings.mode && v.current_in.result && v.units_in-units.result && v.connections_in.result

values : (v : After-connections_in) → fine v ≡ values_ok (start (record { before = (tested v).before.before; type_inv = record { volts = (tested v).shared_slice_known-7-1.given; phases = (tested v).shared_slice_known-6-1.given; weight = (tested v).shared_slice_known-5-1.given; rating = (tested v).shared_slice_known-4-1.given; stored = (tested v).shared_slice_known-3-1.given; reserve = (tested v).shared_slice_known-2-1.given; rated = (tested v).shared_slice_known-1.given } }))
unfolding member_at
values v =
    let g = v.settings_in in
    let e = tested v in
    let s = start (record { before = e.before.before; type_inv = record { volts = e.shared_slice_known-7-1.given; phases = e.shared_slice_known-6-1.given; weight = e.shared_slice_known-5-1.given; rating = e.shared_slice_known-4-1.given; stored = e.shared_slice_known-3-1.given; reserve = e.shared_slice_known-2-1.given; rated = e.shared_slice_known-1.given } }) in
    let a = s.args in
    current_values_are a.aim.settings a.aim.measure v.struct_told-1.given.1.0.1 (fleet s) a.phases.now a.volts.now (length a.requests.now) (lengths e).five (lengths e).phases
    g.result v.current_in.result v.units_in-units.result v.connections_in.result g.ensures v.current_in.ensures v.units_in-units.ensures v.connections_in.ensures

-- all tests passed are enough for a pass
enough : (g : Else-not-fine-units) → let s = start (record { before = (tested (record { before = g.before.before; type_inv = record { aim = g.struct_told-1.given; volts = g.shared_slice_known-7-1.given; phases = g.shared_slice_known-6-1.given; weight = g.shared_slice_known-5-1.given; rating = g.shared_slice_known-4-1.given; stored = g.shared_slice_known-3-1.given; reserve = g.shared_slice_known-2-1.given; rated = g.shared_slice_known-1.given } })).before.before; type_inv = record { volts = (tested (record { before = g.before.before; type_inv = record { aim = g.struct_told-1.given; volts = g.shared_slice_known-7-1.given; phases = g.shared_slice_known-6-1.given; weight = g.shared_slice_known-5-1.given; rating = g.shared_slice_known-4-1.given; stored = g.shared_slice_known-3-1.given; reserve = g.shared_slice_known-2-1.given; rated = g.shared_slice_known-1.given } })).shared_slice_known-7-1.given; phases = (tested (record { before = g.before.before; type_inv = record { aim = g.struct_told-1.given; volts = g.shared_slice_known-7-1.given; phases = g.shared_slice_known-6-1.given; weight = g.shared_slice_known-5-1.given; rating = g.shared_slice_known-4-1.given; stored = g.shared_slice_known-3-1.given; reserve = g.shared_slice_known-2-1.given; rated = g.shared_slice_known-1.given } })).shared_slice_known-6-1.given; weight = (tested (record { before = g.before.before; type_inv = record { aim = g.struct_told-1.given; volts = g.shared_slice_known-7-1.given; phases = g.shared_slice_known-6-1.given; weight = g.shared_slice_known-5-1.given; rating = g.shared_slice_known-4-1.given; stored = g.shared_slice_known-3-1.given; reserve = g.shared_slice_known-2-1.given; rated = g.shared_slice_known-1.given } })).shared_slice_known-5-1.given; rating = (tested (record { before = g.before.before; type_inv = record { aim = g.struct_told-1.given; volts = g.shared_slice_known-7-1.given; phases = g.shared_slice_known-6-1.given; weight = g.shared_slice_known-5-1.given; rating = g.shared_slice_known-4-1.given; stored = g.shared_slice_known-3-1.given; reserve = g.shared_slice_known-2-1.given; rated = g.shared_slice_known-1.given } })).shared_slice_known-4-1.given; stored = (tested (record { before = g.before.before; type_inv = record { aim = g.struct_told-1.given; volts = g.shared_slice_known-7-1.given; phases = g.shared_slice_known-6-1.given; weight = g.shared_slice_known-5-1.given; rating = g.shared_slice_known-4-1.given; stored = g.shared_slice_known-3-1.given; reserve = g.shared_slice_known-2-1.given; rated = g.shared_slice_known-1.given } })).shared_slice_known-3-1.given; reserve = (tested (record { before = g.before.before; type_inv = record { aim = g.struct_told-1.given; volts = g.shared_slice_known-7-1.given; phases = g.shared_slice_known-6-1.given; weight = g.shared_slice_known-5-1.given; rating = g.shared_slice_known-4-1.given; stored = g.shared_slice_known-3-1.given; reserve = g.shared_slice_known-2-1.given; rated = g.shared_slice_known-1.given } })).shared_slice_known-2-1.given; rated = (tested (record { before = g.before.before; type_inv = record { aim = g.struct_told-1.given; volts = g.shared_slice_known-7-1.given; phases = g.shared_slice_known-6-1.given; weight = g.shared_slice_known-5-1.given; rating = g.shared_slice_known-4-1.given; stored = g.shared_slice_known-3-1.given; reserve = g.shared_slice_known-2-1.given; rated = g.shared_slice_known-1.given } })).shared_slice_known-1.given } }) in Sound s.args.aim.settings s.args.aim.measure (fleet s) (length s.args.requests.now)
enough g =
    let e = tested (record { before = g.before.before; type_inv = record { aim = g.struct_told-1.given; volts = g.shared_slice_known-7-1.given; phases = g.shared_slice_known-6-1.given; weight = g.shared_slice_known-5-1.given; rating = g.shared_slice_known-4-1.given; stored = g.shared_slice_known-3-1.given; reserve = g.shared_slice_known-2-1.given; rated = g.shared_slice_known-1.given } }) in
    let s = start (record { before = e.before.before; type_inv = record { volts = e.shared_slice_known-7-1.given; phases = e.shared_slice_known-6-1.given; weight = e.shared_slice_known-5-1.given; rating = e.shared_slice_known-4-1.given; stored = e.shared_slice_known-3-1.given; reserve = e.shared_slice_known-2-1.given; rated = e.shared_slice_known-1.given } }) in
    let a = s.args in
    current_sound a.aim.settings a.aim.measure (fleet s) a.phases.now a.volts.now (length a.requests.now) (lengths e).five (lengths e).phases refl (sym (values (record { before = g.before.before; type_inv = record { aim = g.struct_told-1.given; volts = g.shared_slice_known-7-1.given; phases = g.shared_slice_known-6-1.given; weight = g.shared_slice_known-5-1.given; rating = g.shared_slice_known-4-1.given; stored = g.shared_slice_known-3-1.given; reserve = g.shared_slice_known-2-1.given; rated = g.shared_slice_known-1.given } })) ∙ not-false (fine (record { before = g.before.before; type_inv = record { aim = g.struct_told-1.given; volts = g.shared_slice_known-7-1.given; phases = g.shared_slice_known-6-1.given; weight = g.shared_slice_known-5-1.given; rating = g.shared_slice_known-4-1.given; stored = g.shared_slice_known-3-1.given; reserve = g.shared_slice_known-2-1.given; rated = g.shared_slice_known-1.given } })) (ap not g.if-not-fine-units.false))

pub returns-then-not-five-phases : goal.returns-then-not-five-phases
unfolding current_answer current_leaves current_refusal
returns-then-not-five-phases c =
    let s = start (goal.at.returns-then-not-five-phases c).After-lengths_in-five in
    let a = wrong_lengths s.args.aim.settings s.args.aim.measure (fleet s) s.args.requests.now (lengths_ok_lem s) (values_ok s) (requests_ok_lem s) (seven (goal.at.returns-then-not-five-phases c).After-lengths_in-five) (values_ok s) (requests_ok_lem s) (seven_is (goal.at.returns-then-not-five-phases c).After-lengths_in-five) refl refl (ap not c.if-not-five-phases.true) c.refused.result c.refused.ensures in record { value = a.answer_is; requests_after = a.leaves }

pub units_in-units-requires : goal.units_in-units-requires
units_in-units-requires c =
    let s = start (goal.at.units_in-units-requires c).After-lengths_in-five in
    by_first (five_lists s) (length s.args.requests.now) (same (goal.at.units_in-units-requires c).Else-not-five-phases)

pub connections_in-requires : goal.connections_in-requires
connections_in-requires c = (lengths (goal.at.connections_in-requires c).Else-not-five-phases).volts ∙ sym (lengths (goal.at.connections_in-requires c).Else-not-five-phases).phases

pub returns-then-not-fine-units : goal.returns-then-not-fine-units
unfolding current_answer current_leaves current_refusal
returns-then-not-fine-units c =
    let e = tested (goal.at.returns-then-not-fine-units c).After-connections_in in
    let s = start (record { before = e.before.before; type_inv = record { volts = e.shared_slice_known-7-1.given; phases = e.shared_slice_known-6-1.given; weight = e.shared_slice_known-5-1.given; rating = e.shared_slice_known-4-1.given; stored = e.shared_slice_known-3-1.given; reserve = e.shared_slice_known-2-1.given; rated = e.shared_slice_known-1.given } }) in
    let a = wrong_values s.args.aim.settings s.args.aim.measure (fleet s) s.args.requests.now (lengths_ok_lem s) (values_ok s) (requests_ok_lem s) (seven (record { before = e.before.before; type_inv = record { volts = e.shared_slice_known-7-1.given; phases = e.shared_slice_known-6-1.given; weight = e.shared_slice_known-5-1.given; rating = e.shared_slice_known-4-1.given; stored = e.shared_slice_known-3-1.given; reserve = e.shared_slice_known-2-1.given; rated = e.shared_slice_known-1.given } })) (fine (goal.at.returns-then-not-fine-units c).After-connections_in) (requests_ok_lem s) (seven_is (record { before = e.before.before; type_inv = record { volts = e.shared_slice_known-7-1.given; phases = e.shared_slice_known-6-1.given; weight = e.shared_slice_known-5-1.given; rating = e.shared_slice_known-4-1.given; stored = e.shared_slice_known-3-1.given; reserve = e.shared_slice_known-2-1.given; rated = e.shared_slice_known-1.given } })) (values (goal.at.returns-then-not-fine-units c).After-connections_in) refl (ap not e.if-not-five-phases.false) (ap not c.if-not-fine-units.true) c.refused-then-not-fine-units.result c.refused-then-not-fine-units.ensures in record { value = a.answer_is; requests_after = a.leaves }

pub requests_in-requires : goal.requests_in-requires
requests_in-requires c = let e = tested (goal.at.requests_in-requires c).After-connections_in in record { rating_len = (same e).rating; requests_len_bound = few e }

pub returns-then-not-requests_in : goal.returns-then-not-requests_in
unfolding current_answer current_leaves current_refusal
returns-then-not-requests_in c =
    let e = tested (goal.at.returns-then-not-requests_in c).After-connections_in in
    let s = start (record { before = e.before.before; type_inv = record { volts = e.shared_slice_known-7-1.given; phases = e.shared_slice_known-6-1.given; weight = e.shared_slice_known-5-1.given; rating = e.shared_slice_known-4-1.given; stored = e.shared_slice_known-3-1.given; reserve = e.shared_slice_known-2-1.given; rated = e.shared_slice_known-1.given } }) in
    let a = wrong_requests s.args.aim.settings s.args.aim.measure (fleet s) s.args.requests.now (lengths_ok_lem s) (values_ok s) (requests_ok_lem s) (seven (record { before = e.before.before; type_inv = record { volts = e.shared_slice_known-7-1.given; phases = e.shared_slice_known-6-1.given; weight = e.shared_slice_known-5-1.given; rating = e.shared_slice_known-4-1.given; stored = e.shared_slice_known-3-1.given; reserve = e.shared_slice_known-2-1.given; rated = e.shared_slice_known-1.given } })) (fine (goal.at.returns-then-not-requests_in c).After-connections_in) c.requests_in.result (seven_is (record { before = e.before.before; type_inv = record { volts = e.shared_slice_known-7-1.given; phases = e.shared_slice_known-6-1.given; weight = e.shared_slice_known-5-1.given; rating = e.shared_slice_known-4-1.given; stored = e.shared_slice_known-3-1.given; reserve = e.shared_slice_known-2-1.given; rated = e.shared_slice_known-1.given } })) (values (goal.at.returns-then-not-requests_in c).After-connections_in) c.requests_in.ensures (ap not e.if-not-five-phases.false) (ap not c.if-not-fine-units.false) (ap not c.if-not-requests_in.true) c.refused-then-not-requests_in.result c.refused-then-not-requests_in.ensures in record { value = a.answer_is; requests_after = a.leaves }

pub pass_linked-requires : goal.pass_linked-requires
pass_linked-requires c =
    let e = tested (goal.at.pass_linked-requires c).After-connections_in in record { sound = enough (goal.at.pass_linked-requires c).Else-not-fine-units; phases_len = (lengths e).phases; volts_len = (lengths e).volts }

pub returns : goal.returns
unfolding current_answer current_leaves current_refusal
returns c =
    let e = tested (goal.at.returns c).After-connections_in in
    let s = start (record { before = e.before.before; type_inv = record { volts = e.shared_slice_known-7-1.given; phases = e.shared_slice_known-6-1.given; weight = e.shared_slice_known-5-1.given; rating = e.shared_slice_known-4-1.given; stored = e.shared_slice_known-3-1.given; reserve = e.shared_slice_known-2-1.given; rated = e.shared_slice_known-1.given } }) in
    let a = all_fine s.args.aim.settings s.args.aim.measure (fleet s) s.args.requests.now (lengths_ok_lem s) (values_ok s) (requests_ok_lem s) (seven (record { before = e.before.before; type_inv = record { volts = e.shared_slice_known-7-1.given; phases = e.shared_slice_known-6-1.given; weight = e.shared_slice_known-5-1.given; rating = e.shared_slice_known-4-1.given; stored = e.shared_slice_known-3-1.given; reserve = e.shared_slice_known-2-1.given; rated = e.shared_slice_known-1.given } })) (fine (goal.at.returns c).After-connections_in) c.requests_in.result (seven_is (record { before = e.before.before; type_inv = record { volts = e.shared_slice_known-7-1.given; phases = e.shared_slice_known-6-1.given; weight = e.shared_slice_known-5-1.given; rating = e.shared_slice_known-4-1.given; stored = e.shared_slice_known-3-1.given; reserve = e.shared_slice_known-2-1.given; rated = e.shared_slice_known-1.given } })) (values (goal.at.returns c).After-connections_in) c.requests_in.ensures (ap not e.if-not-five-phases.false) (ap not c.if-not-fine-units.false) (ap not c.if-not-requests_in.false) c.pass_linked.new.requests c.pass_linked.result c.pass_linked.ensures in record { value = a.answer_is; requests_after = a.leaves }
