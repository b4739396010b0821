-- A state's steps stand behind its place.
use mathlib.Core.Path.{refl, sym, ◌∙◌}
use native.Mathlib.Omega.{arith}
use Rattle.kept.specs.Layout.{steps_kept}
use Rattle.kept.specs.Formed.{well_formed}
use Rattle.kept.proofs.FormedLaws.{state_long}
use Rattle.kept.proofs.FitLaws.{pick_true, pick_false}
use Rattle.feed.specs.Answers.{steps_told}
use Rattle.feed.proofs.calls.steps.Goals as goal
use Rattle.feed.proofs.calls.steps.Goals.{Then-well}

pub u32_at-requires : goal.u32_at-requires
u32_at-requires c = omega (arith, state_long c.args.s.now (sym c.well.ensures ∙ c.if-well.true))

pub returns-then-well : goal.returns-then-well
unfolding steps_told
returns-then-well c =
    let s = c.args.s.now in
    pick_true (well_formed s) (steps_kept s) 0 c.u32_at.result (sym c.well.ensures ∙ c.if-well.true) c.u32_at.ensures

pub returns : goal.returns
unfolding steps_told
returns c =
    let s = c.args.s.now in
    pick_false (well_formed s) (steps_kept s) 0 0 (sym c.well.ensures ∙ c.if-well.false) refl
