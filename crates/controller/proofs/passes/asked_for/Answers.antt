-- In the state that is not the mode's own all is asked; in others the signs are, and the sum is not looked at.
use mathlib.Core.Path.{◌≡◌, sym, ap₂, ◌∙◌, subst⁻¹}
use mathlib.Core.Bool.{cond}
use Prim.Native.Nat.{◌≤◌}
use lib.Dec.{lit≤}
use lib.IntN.{ℤ, nat_abs}
use Rattle.whole.proofs.Choice.{passed_failed}
use Rattle.controller.specs.Pass.{other_state}
use Rattle.controller.proofs.passes.asked_for.Goals as goal
use Rattle.controller.proofs.passes.asked_for.Goals.{After-in_other_state, Start}

pub returns-then-in_other_state : goal.returns-then-in_other_state
returns-then-in_other_state c = let a = c.asked.ensures in record { sum = λ _. a.sum; above = a.above; below = a.below; bounded = a.bounded }

pub returns : goal.returns
returns c =
    let g = c.signs-signs.ensures in
    let state : other_state c.args.charging c.args.requests.now ≡ c.in_other_state.result = sym (c.in_other_state.ensures ∙ ap₂ (cond c.args.charging) g.above g.below) in
    record {
      sum = λ e. absurd (passed_failed e (state ∙ c.if-in_other_state.false));
      above = g.above;
      below = g.below;
      bounded = subst⁻¹ (λ (z : ℤ). nat_abs z ≤ 137438953472) g.sum (lit≤ tt);
    }
