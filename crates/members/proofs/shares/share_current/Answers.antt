-- Either loop makes what rule 6 says; the one by size is called for either direction by itself.
use Prim.Native.Nat.{◌≤◌}
use mathlib.Core.Path.{◌≡◌, sym, ap, ◌∙◌}
use mathlib.Core.Bool.{Bool, false, not}
use mathlib.Core.List.{List}
use lib.Dec.{ltb}
use lib.IntN.{ℤ}
use borrow.Author.Tests.{not-true, ltb-true}
use Rattle.whole.specs.Over.{each}
use Rattle.whole.proofs.OverLaws.{and_parts}
use Rattle.members.specs.Posts.{fleet_by, shared_by}
use Rattle.members.proofs.shares.share_current.Goals as goal
use Rattle.members.proofs.shares.share_current.Goals.{After-share_sized, After-share_sized-then-w-weights, Else-charging, Start, Then-charging, Then-w-weights}

abbrev begun : Then-w-weights → Start
begun t = t.before.before.before.before

-- what the test says
plain : (t : Then-w-weights) → ((begun t).args.w.other ≡ false) × (1 ≤ (begun t).args.weights)
plain t =
    let a = (begun t).args in
    let both = and_parts (not a.w.other) (ltb 0 a.weights) t.if-w-weights.true in
    (not-true a.w.other both.0, ltb-true 0 a.weights both.1)

-- what the loop leaves, by its direction
abbrev left : Start → Bool → List ℤ
left s way = let a = s.args in each (shared_by way a.factor a.w a.weights (fleet_by a.units.now a.stored.now)) a.requests.now

pub share_sized-requires : goal.share_sized-requires
share_sized-requires c = record { current_value = (begun (goal.at.share_sized-requires c).Then-w-weights).requires.current_value; other_value = (plain (goal.at.share_sized-requires c).Then-w-weights).0; le_weights = (plain (goal.at.share_sized-requires c).Then-w-weights).1; sharing = (begun (goal.at.share_sized-requires c).Then-w-weights).requires.sharing }

pub returns-then-charging : goal.returns-then-charging
returns-then-charging c = record { requests_after = c.share_sized.ensures.requests_after ∙ sym (ap (left (begun (goal.at.returns-then-charging c).Then-w-weights)) c.if-charging.true); value = c.share_sized.ensures.value }

pub share_sized-requires-then-w-weights : goal.share_sized-requires-then-w-weights
share_sized-requires-then-w-weights c = record { current_value = (begun (goal.at.share_sized-requires-then-w-weights c).Then-w-weights).requires.current_value; other_value = (plain (goal.at.share_sized-requires-then-w-weights c).Then-w-weights).0; le_weights = (plain (goal.at.share_sized-requires-then-w-weights c).Then-w-weights).1; sharing = (begun (goal.at.share_sized-requires-then-w-weights c).Then-w-weights).requires.sharing }

pub returns-then-w-weights : goal.returns-then-w-weights
returns-then-w-weights c = record { requests_after = c.share_sized-then-w-weights.ensures.requests_after ∙ sym (ap (left (begun (goal.at.returns-then-w-weights c).Then-w-weights)) c.if-charging.false); value = c.share_sized-then-w-weights.ensures.value }
