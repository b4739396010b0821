-- A state's first byte is its number; bytes that are no state answer 10.
use mathlib.Core.Path.{refl, sym, ◌∙◌}
use native.Mathlib.Omega.{arith}
use Rattle.kept.specs.Layout.{number_in}
use Rattle.kept.specs.Formed.{well_formed}
use Rattle.kept.proofs.FormedLaws.{state_long}
use Rattle.kept.proofs.FitLaws.{pick_true, pick_false}
use Rattle.feed.specs.Answers.{own_number}
use Rattle.feed.proofs.calls.own_number.Goals as goal
use Rattle.feed.proofs.calls.own_number.Goals.{Then-well}

pub u8_at-requires : goal.u8_at-requires
u8_at-requires c = omega (arith, state_long c.args.s.now (sym c.well.ensures ∙ c.if-well.true))

pub returns-then-well : goal.returns-then-well
unfolding own_number
returns-then-well c =
    let s = c.args.s.now in
    pick_true (well_formed s) (number_in s) 10 c.u8_at.result (sym c.well.ensures ∙ c.if-well.true) c.u8_at.ensures

pub returns : goal.returns
unfolding own_number
returns c =
    let s = c.args.s.now in
    pick_false (well_formed s) (number_in s) 10 10 (sym c.well.ensures ∙ c.if-well.false) refl
