-- A state's place stands behind its number.
use mathlib.Core.Path.{refl, sym, ◌∙◌}
use native.Mathlib.Omega.{arith}
use Rattle.kept.specs.Layout.{place_in}
use Rattle.kept.specs.Formed.{well_formed}
use Rattle.kept.proofs.FormedLaws.{state_long}
use Rattle.kept.proofs.FitLaws.{pick_true, pick_false}
use Rattle.feed.specs.Answers.{place_told}
use Rattle.feed.proofs.calls.place.Goals as goal
use Rattle.feed.proofs.calls.place.Goals.{Then-well}

pub u64_at-requires : goal.u64_at-requires
u64_at-requires c = omega (arith, state_long c.args.s.now (sym c.well.ensures ∙ c.if-well.true))

pub returns-then-well : goal.returns-then-well
unfolding place_told
returns-then-well c =
    let s = c.args.s.now in
    pick_true (well_formed s) (place_in s) 0 c.u64_at.result (sym c.well.ensures ∙ c.if-well.true) c.u64_at.ensures

pub returns : goal.returns
unfolding place_told
returns c =
    let s = c.args.s.now in
    pick_false (well_formed s) (place_in s) 0 0 (sym c.well.ensures ∙ c.if-well.false) refl
