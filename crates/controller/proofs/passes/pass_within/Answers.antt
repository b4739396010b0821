-- Rules 1 to 6 in their order; each way out leaves what the definition says.
use Prim.Native.Nat.{ℕ, ◌≤◌}
use mathlib.Core.Path.{◌≡◌, sym, ◌∙◌, subst⁻¹}
use lib.ListN.{length}
use Rattle.unit.specs.declared.Unit.{Unit}
use Rattle.rows.proofs.RowLaws.{column_count}
use Rattle.rules.specs.Rules.{charges}
use Rattle.members.specs.Ranges.{Fleet}
use Rattle.members.specs.Posts.{Linked, fleet_by}
use Rattle.controller.specs.Pass.{own_need, own_band, rests, spent, all_in_band}
use Rattle.controller.proofs.PassLaws.{TotalsFor, totals_for, Worked, linked, worked, rests_is, spent_is, band_is, done_rests, done_clear, done_band, done_shares, sharing}
use Rattle.controller.proofs.passes.pass_within.Goals as goal
use Rattle.controller.proofs.passes.pass_within.Goals.{After-all_in_band, After-charges-charging, After-clear-changed, After-is_spent, After-reported-need, After-rests, After-share_all-changed, After-wanted_by-w, Else-all_in_band, Else-is_spent, Else-rests, Start, Then-is_spent}

abbrev fleet : Start → Fleet
fleet s = fleet_by s.args.units.now s.args.stored.now

-- the start, from the place after the needs were worked out
abbrev begun : After-wanted_by-w → Start
begun w = w.before.before.before.before.before

-- the place where the direction was worked out
abbrev direction : After-wanted_by-w → After-charges-charging
direction w = (record { before = w.before.before.before; type_inv = record { stored = w.shared_slice_known-1.given } })

-- the sums that were handed in are the fleet's, and there are as many rows as requests
sums : (s : Start) → TotalsFor (fleet s) (length s.args.requests.now) s.args.t
sums s = totals_for s.args.units.now s.args.stored.now (length s.args.requests.now) s.args.t s.requires.sound.lengths s.requires.totals_of

count : (s : Start) → length s.args.units.now ≡ length s.args.requests.now
count s = sym (column_count (λ (u : Unit). u.rated) s.args.units.now) ∙ s.requires.sound.lengths.rated

-- what was worked out is the definition's
needs_linked : (w : After-wanted_by-w) → Linked w.wanted_by-w.result (fleet (begun w))
needs_linked w =
    let s = begun w in
    let a = w.asked_for-a in
    let g = (direction w).charges-charging in
    linked s.args.s s.args.measure (fleet s) s.args.requests.now s.requires.sound g.result g.ensures a.result a.ensures w.wanted_by-w.result w.wanted_by-w.ensures

work : (n : After-reported-need) → let s = begun (record { before = n.before.before; type_inv = record { stored = n.shared_slice_known-1.given } }) in Worked s.args.s s.args.measure (fleet s) s.args.requests.now n.wanted_by-w.result (direction (record { before = n.before.before; type_inv = record { stored = n.shared_slice_known-1.given } })).charges-charging.result n.reported-need.result
work n =
    let s = begun (record { before = n.before.before; type_inv = record { stored = n.shared_slice_known-1.given } }) in
    let a = n.asked_for-a in
    let g = (direction (record { before = n.before.before; type_inv = record { stored = n.shared_slice_known-1.given } })).charges-charging in
    worked s.args.s s.args.measure (fleet s) s.args.requests.now s.requires.sound g.result g.ensures a.result a.ensures n.wanted_by-w.result n.wanted_by-w.ensures n.reported-need.result n.reported-need.type_inv n.reported-need.ensures

resting : (r : After-rests) → let s = begun (record { before = r.before.before.before; type_inv = record { stored = r.shared_slice_known-1.given } }) in rests s.args.s (own_need s.args.s s.args.measure (fleet s) s.args.requests.now) s.args.requests.now ≡ r.rests.result
resting r =
    let s = begun (record { before = r.before.before.before; type_inv = record { stored = r.shared_slice_known-1.given } }) in
    let a = r.asked_for-a in
    sym (r.rests.ensures ∙ rests_is (work (record { before = r.before.before; type_inv = record { stored = r.shared_slice_known-1.given } })) a.result a.ensures (length s.args.units.now) (count s))

empty : (e : After-is_spent) → let s = begun (record { before = e.before.before.before.before.before; type_inv = record { stored = e.shared_slice_known-1.given } }) in spent (charges s.args.s.mode) (length s.args.requests.now) (fleet s) ≡ e.is_spent.result
empty e =
    let s = begun (record { before = e.before.before.before.before.before; type_inv = record { stored = e.shared_slice_known-1.given } }) in
    sym (e.is_spent.ensures ∙ spent_is (work (record { before = e.before.before.before.before; type_inv = record { stored = e.shared_slice_known-1.given } })) s.args.t (sums s) s.requires.sound.lengths.stored)

close : (b : After-all_in_band)
    → let s = begun (record { before = b.before.before.before.before.before.before.before; type_inv = record { stored = b.shared_slice_known-1.given } }) in all_in_band (length s.args.requests.now) (own_band s.args.s (fleet s)) (own_need s.args.s s.args.measure (fleet s) s.args.requests.now) ≡ b.all_in_band.result
close b =
    let s = begun (record { before = b.before.before.before.before.before.before.before; type_inv = record { stored = b.shared_slice_known-1.given } }) in
    sym (b.all_in_band.ensures ∙ band_is (work (record { before = b.before.before.before.before.before.before; type_inv = record { stored = b.shared_slice_known-1.given } })) (length s.args.units.now) (count s))

pub reported-need-requires : goal.reported-need-requires
reported-need-requires c = (needs_linked c).modest

pub rests-requires : goal.rests-requires
rests-requires c = let s = begun (goal.at.rests-requires c).After-wanted_by-w in record { in_bounds = subst⁻¹ (λ (n : ℕ). 1 ≤ n) (count s) s.requires.sound.some; linked = needs_linked (goal.at.rests-requires c).After-wanted_by-w }

pub returns-then-rests : goal.returns-then-rests
returns-then-rests c = done_rests (work (goal.at.returns-then-rests c).After-reported-need) (resting (goal.at.returns-then-rests c).After-rests ∙ c.if-rests.true)

pub returns-then-is_spent : goal.returns-then-is_spent
returns-then-is_spent c =
    done_clear (work (goal.at.returns-then-is_spent c).After-reported-need) (resting (goal.at.returns-then-is_spent c).After-rests ∙ c.if-rests.false) (empty (goal.at.returns-then-is_spent c).After-is_spent ∙ c.if-is_spent.true) c.clear-changed.new.requests c.clear-changed.result c.clear-changed.ensures.requests_after c.clear-changed.ensures.value

pub all_in_band-requires : goal.all_in_band-requires
all_in_band-requires c =
    let s = begun (goal.at.all_in_band-requires c).After-wanted_by-w in record { in_bounds = subst⁻¹ (λ (n : ℕ). 1 ≤ n) (count s) s.requires.sound.some; linked = needs_linked (goal.at.all_in_band-requires c).After-wanted_by-w }

pub returns-then-all_in_band : goal.returns-then-all_in_band
returns-then-all_in_band c =
    done_band (work (goal.at.returns-then-all_in_band c).After-reported-need) (resting (goal.at.returns-then-all_in_band c).After-rests ∙ c.if-rests.false) (empty (goal.at.returns-then-all_in_band c).After-is_spent ∙ c.if-is_spent.false) (close (goal.at.returns-then-all_in_band c).After-all_in_band ∙ c.if-all_in_band.true)

pub share_all-changed-requires : goal.share_all-changed-requires
share_all-changed-requires c =
    let s = begun (goal.at.share_all-changed-requires c).After-wanted_by-w in
    sharing s.args.s s.args.measure (fleet s) (length s.args.requests.now) s.requires.sound s.args.t (sums s) c.wanted_by-w.result (needs_linked (goal.at.share_all-changed-requires c).After-wanted_by-w)

pub returns : goal.returns
returns c =
    let s = begun (goal.at.returns c).After-wanted_by-w in
    done_shares (work (goal.at.returns c).After-reported-need) (resting (goal.at.returns c).After-rests ∙ c.if-rests.false) (empty (goal.at.returns c).After-is_spent ∙ c.if-is_spent.false) (close (goal.at.returns c).After-all_in_band ∙ c.if-all_in_band.false) s.args.t (sums s) c.share_all-changed.new.requests c.share_all-changed.result c.share_all-changed.ensures.requests_after c.share_all-changed.ensures.value
