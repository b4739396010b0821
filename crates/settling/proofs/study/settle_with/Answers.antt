-- No unit has a connection: zeros are lent for their links. Filled rows are then the lists' fleet, so the study over them, with their sums, is the study
-- over the lists.
use Prim.Native.Nat.{◌-◌, ◌≤◌}
use mathlib.Core.Path.{◌≡◌, sym, ◌∙◌, subst, subst⁻¹, subst₂}
use native.Mathlib.Nat.{le_trans, le_of_eq}
use lib.ListN.{length, take, replicate}
use Rattle.members.specs.Ranges.{Fleet, fleet_of, fleet_linked}
use Rattle.members.specs.Posts.{Addable, SameLengths}
use Rattle.controller.proofs.SoundLaws.{none_linked}
use Rattle.settling.specs.Study.{shaving}
use Rattle.settling.specs.Posts.{Trying, DoneStudy}
use Rattle.settling.proofs.study.settle_with.Goals as goal
use Rattle.settling.proofs.study.settle_with.Goals.{After-fill, After-fill-arg-1, After-fill-arg-2-1, After-settle_within, After-units-1, Start}

abbrev fleet : Start → Fleet
fleet s = let a = s.args in fleet_of a.rated.now a.reserve.now a.stored.now a.rating.now a.weight.now

abbrev linked : Start → Fleet
linked s = let a = s.args in fleet_linked a.rated.now a.reserve.now a.stored.now a.rating.now a.weight.now (take (length a.units.now - 0) (replicate 64 0))

few : (s : Start) → length s.args.units.now ≤ 64
few s = le_trans (le_of_eq s.requires.units_len) s.requires.trying.sound.few

no_links : (s : Start) → linked s ≡ fleet s
no_links s =
    let a = s.args in
    none_linked a.rated.now a.reserve.now a.stored.now a.rating.now a.weight.now (length a.units.now) (s.requires.trying.sound.lengths.rated ∙ sym s.requires.units_len) (few s)

-- the start, from the place after the rows were filled
abbrev start : After-fill → Start
start k = k.before.before.before.before.before.before.before.before.before

pub slice_bounds-fill-end : goal.slice_bounds-fill-end
slice_bounds-fill-end c = few (goal.at.slice_bounds-fill-end c).Start

pub fill-requires : goal.fill-requires
fill-requires c =
    subst₂ SameLengths (sym (no_links (goal.at.fill-requires c).Start)) (sym c.requires.units_len) c.requires.trying.sound.lengths

pub summed-t-requires : goal.summed-t-requires
summed-t-requires c =
    let s = start (goal.at.summed-t-requires c).After-fill in
    let e = c.fill.ensures ∙ no_links s in record { addable = subst⁻¹ (λ (f : Fleet). Addable f.rated) e s.requires.trying.sound.energies.rated; addable_2 = subst⁻¹ (λ (f : Fleet). Addable f.reserve) e s.requires.trying.sound.energies.reserve }

pub settle_within-requires : goal.settle_within-requires
settle_within-requires c =
    let s = start (goal.at.settle_within-requires c).After-fill in record { trying = subst⁻¹ (λ (f : Fleet). Trying s.args.q f (length s.args.requests.now)) (c.fill.ensures ∙ no_links s) s.requires.trying; totals_of = c.summed-t.ensures }

pub returns : goal.returns
returns c =
    let s = start (goal.at.returns c).After-fill in
    let q = s.args.q in
    subst (λ (f : Fleet). DoneStudy (shaving q.settings) q.load f q.budget (length s.args.requests.now) c.settle_within.new.requests c.settle_within.result) (c.fill.ensures ∙ no_links s)
    c.settle_within.ensures
