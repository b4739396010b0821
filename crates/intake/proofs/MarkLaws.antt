-- A mark is what is kept, without lists. Assumes nothing.
use mathlib.Core.Path.{◌≡◌, sym, ap, ◌∙◌}
use mathlib.Core.List.{List}
use Prim.Native.Nat.{ℕ, ◌≤◌}
use native.Mathlib.Omega.{arith}
use lib.ListN.{length}
use Rattle.fields.specs.declared.State.{State}
use Rattle.kept.specs.declared.Mark.{Mark}
use Rattle.kept.specs.Layout.{mark_in, kept_in}
use Rattle.taking.proofs.PlacedLaws.{tail_within}
use Rattle.intake.specs.Posts.{Open}
use Rattle.intake.proofs.OpenLaws.{open_well, open_tail}

module _ (s : List ℕ) (m : Mark) (e : m ≡ mark_in s) where
  pub mark_place : m.place ≡ (kept_in s).place
  unfolding mark_in kept_in
  mark_place = ap (λ (k : Mark). k.place) e

  pub mark_state : m.state ≡ (kept_in s).state
  unfolding mark_in kept_in
  mark_state = ap (λ (k : Mark). k.state) e

  pub mark_steps : m.state.steps ≡ (kept_in s).state.steps
  mark_steps = ap (λ (st : State). st.steps) mark_state

  pub mark_tail : Open s → m.tail ≡ length (kept_in s).tail
  unfolding mark_in kept_in
  mark_tail o = ap (λ (k : Mark). k.tail) e ∙ sym (open_tail s o)

  -- the tail is among the bytes taken
  pub mark_within : Open s → m.tail ≤ m.place
  mark_within o = omega (arith, mark_place, mark_tail o, tail_within (kept_in s) (open_well s o))
