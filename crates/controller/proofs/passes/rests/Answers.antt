-- A fleet in the mode's own state never rests; any other rests where no unit calls.
use mathlib.Core.Path.{sym, ap, ◌∙◌}
use mathlib.Core.Bool.{Bool, not, ◌&&◌}
use lib.ListN.{length}
use Rattle.members.specs.Posts.{fleet_by, none_calls_by}
use Rattle.controller.specs.Posts.{rests_by}
use Rattle.controller.proofs.passes.rests.Goals as goal
use Rattle.controller.proofs.passes.rests.Goals.{After-in_own_state, Else-in_own_state, Start}

abbrev none_calls : Start → Bool
none_calls s = let a = s.args in none_calls_by a.charging a.w (fleet_by a.units.now a.stored.now) (length a.units.now)

pub returns-then-in_own_state : goal.returns-then-in_own_state
unfolding rests_by
returns-then-in_own_state c = sym (ap (λ (own : Bool). not own && none_calls (goal.at.returns-then-in_own_state c).Start) (sym c.in_own_state.ensures ∙ c.if-in_own_state.true))

pub returns : goal.returns
unfolding rests_by
returns c =
    c.none_calls.ensures ∙ sym (ap (λ (own : Bool). not own && none_calls (goal.at.returns c).Start) (sym c.in_own_state.ensures ∙ c.if-in_own_state.false))
