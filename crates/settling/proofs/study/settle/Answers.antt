-- Each test is the definition's, in the order of rule N15, and a study is made only where both hold; a refusal touches nothing.
use mathlib.Core.Path.{◌≡◌, refl, sym, ◌∙◌, ap}
use mathlib.Core.Bool.{true, ◌&&◌, not}
use lib.ListN.{length, length-replicate}
use borrow.Author.Tests.{not-false}
use Rattle.members.specs.Ranges.{Fleet, fleet_of, lengths_in}
use Rattle.controller.proofs.SoundLaws.{same_lengths, by_first, no_link}
use Rattle.settling.proofs.TrialLaws.{values_are, trying}
use Rattle.settling.proofs.AnswerLaws.{study_values, wrong_lengths, wrong_values, all_fine}
use Rattle.settling.proofs.study.settle.Goals as goal
use Rattle.settling.proofs.study.settle.Goals.{After-lengths_in, After-settle_over, After-units_in, Else-not-fine-units_in, Else-not-lengths_in, Start, Then-not-fine-units_in, Then-not-lengths_in}

abbrev fleet : Start → Fleet
fleet s = let a = s.args in fleet_of a.rated.now a.reserve.now a.stored.now a.rating.now a.weight.now

-- the start, from the place after the lengths were tested
abbrev start : After-lengths_in → Start
start l = l.before.before.before.before.before.before.before

-- past the first test, and what the second one tests
lengths : (e : Else-not-lengths_in) → lengths_in (fleet (start (record { before = e.before.before; type_inv = record { weight = e.shared_slice_known-5-1.given; rating = e.shared_slice_known-4-1.given; stored = e.shared_slice_known-3-1.given; reserve = e.shared_slice_known-2-1.given; rated = e.shared_slice_known-1.given } }))) (length (start (record { before = e.before.before; type_inv = record { weight = e.shared_slice_known-5-1.given; rating = e.shared_slice_known-4-1.given; stored = e.shared_slice_known-3-1.given; reserve = e.shared_slice_known-2-1.given; rated = e.shared_slice_known-1.given } })).args.requests.now) ≡ true
lengths e = sym e.lengths_in.ensures ∙ not-false e.lengths_in.result (ap not e.if-not-lengths_in.false)

values : (u : After-units_in)
    → (u.trial_in-fine.result && u.units_in.result)
    ≡ study_values (start (record { before = u.before.before.before.before; type_inv = record { weight = u.shared_slice_known-5-1.given; rating = u.shared_slice_known-4-1.given; stored = u.shared_slice_known-3-1.given; reserve = u.shared_slice_known-2-1.given; rated = u.shared_slice_known-1.given } })).args.q (fleet (start (record { before = u.before.before.before.before; type_inv = record { weight = u.shared_slice_known-5-1.given; rating = u.shared_slice_known-4-1.given; stored = u.shared_slice_known-3-1.given; reserve = u.shared_slice_known-2-1.given; rated = u.shared_slice_known-1.given } }))) (start (record { before = u.before.before.before.before; type_inv = record { weight = u.shared_slice_known-5-1.given; rating = u.shared_slice_known-4-1.given; stored = u.shared_slice_known-3-1.given; reserve = u.shared_slice_known-2-1.given; rated = u.shared_slice_known-1.given } })).args.requests.now
values u =
    let s = start (record { before = u.before.before.before.before; type_inv = record { weight = u.shared_slice_known-5-1.given; rating = u.shared_slice_known-4-1.given; stored = u.shared_slice_known-3-1.given; reserve = u.shared_slice_known-2-1.given; rated = u.shared_slice_known-1.given } }) in
    values_are s.args.q (fleet s) s.args.requests.now (lengths (record { before = u.before.before.before; type_inv = record { weight = u.shared_slice_known-5-1.given; rating = u.shared_slice_known-4-1.given; stored = u.shared_slice_known-3-1.given; reserve = u.shared_slice_known-2-1.given; rated = u.shared_slice_known-1.given } })) u.trial_in-fine.result u.units_in.result u.trial_in-fine.ensures u.units_in.ensures

pub returns-then-not-lengths_in : goal.returns-then-not-lengths_in
returns-then-not-lengths_in c =
    let s = start (goal.at.returns-then-not-lengths_in c).After-lengths_in in
    let q = s.args.q in
    let rs = s.args.requests.now in let parts = wrong_lengths q (fleet s) rs c.lengths_in.result (study_values q (fleet s) rs) c.lengths_in.ensures refl (ap not c.if-not-lengths_in.true) c.refused.result c.refused.ensures in record { value = parts.0; requests_after = parts.1 }

pub units_in-requires : goal.units_in-requires
units_in-requires c =
    let s = start (goal.at.units_in-requires c).After-lengths_in in
    let n = length s.args.requests.now in
    by_first (fleet s) n (same_lengths (fleet s) n (lengths (goal.at.units_in-requires c).Else-not-lengths_in) (length-replicate (length s.args.rated.now) 0))

pub returns-then-not-fine-units_in : goal.returns-then-not-fine-units_in
returns-then-not-fine-units_in c =
    let s = start (goal.at.returns-then-not-fine-units_in c).After-lengths_in in let parts = wrong_values s.args.q (fleet s) s.args.requests.now c.lengths_in.result (c.trial_in-fine.result && c.units_in.result) c.lengths_in.ensures (values (goal.at.returns-then-not-fine-units_in c).After-units_in) (ap not c.if-not-lengths_in.false) (ap not c.if-not-fine-units_in.true) c.refused-then-not-fine-units_in.result c.refused-then-not-fine-units_in.ensures in record { value = parts.0; requests_after = parts.1 }

pub settle_over-requires : goal.settle_over-requires
settle_over-requires c =
    let s = start (goal.at.settle_over-requires c).After-lengths_in in
    let n = length s.args.rated.now in
    trying s.args.q (fleet s) (length-replicate n 0) (no_link n) (length s.args.requests.now) (lengths (goal.at.settle_over-requires c).Else-not-lengths_in) (c.trial_in-fine.result && c.units_in.result) (values (goal.at.settle_over-requires c).After-units_in) (ap not c.if-not-fine-units_in.false)

pub returns : goal.returns
returns c =
    let s = start (goal.at.returns c).After-lengths_in in let parts = all_fine s.args.q (fleet s) s.args.requests.now c.lengths_in.result (c.trial_in-fine.result && c.units_in.result) c.lengths_in.ensures (values (goal.at.returns c).After-units_in) (ap not c.if-not-lengths_in.false) (ap not c.if-not-fine-units_in.false)
    c.settle_over.new.requests c.settle_over.result c.settle_over.ensures in record { value = parts.0; requests_after = parts.1 }
