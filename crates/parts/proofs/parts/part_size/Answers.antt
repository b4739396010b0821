-- Nothing where the head is not there, else the smaller of what the length says and what is left.
use mathlib.Core.Path.{◌≡◌, sym, ap, ◌∙◌}
use mathlib.Core.Bool.{true, not}
use Prim.Native.Nat.{ℕ, ◌+◌, ◌-◌, ◌≤◌, min}
use native.Mathlib.Omega.{arith}
use borrow.Author.Tests.{not-true, not-false}
use lib.ListN.{length}
use Rattle.parts.specs.Parts.{head_there}
use Rattle.parts.proofs.PartLaws.{head_room, sized_none, sized_some}
use Rattle.parts.proofs.parts.part_size.Goals as goal
use Rattle.parts.proofs.parts.part_size.Goals.{Else-not-head_there}

pub returns-then-not-head_there : goal.returns-then-not-head_there
returns-then-not-head_there c =
    let a = c.args in
    sized_none a.file.now a.place (sym c.head_there.ensures ∙ not-true c.head_there.result (ap not c.if-not-head_there.true))

there : (c : Else-not-head_there) → let a = c.args in head_there (length a.file.now) a.place ≡ true
there c = sym c.head_there.ensures ∙ not-false c.head_there.result (ap not c.if-not-head_there.false)

room : (c : Else-not-head_there) → let a = c.args in a.place + 3 ≤ length a.file.now
room c = let a = c.args in head_room (length a.file.now) a.place (there c)

pub overflow_add-place : goal.overflow_add-place
overflow_add-place c = omega (arith, room c)

pub u16_at-wanted-requires : goal.u16_at-wanted-requires
u16_at-wanted-requires c = omega (arith, room c)

pub overflow_add-place-2 : goal.overflow_add-place-2
overflow_add-place-2 c = omega (arith, room (goal.at.overflow_add-place-2 c).Else-not-head_there)

pub overflow_sub-size : goal.overflow_sub-size
overflow_sub-size c = omega (arith, room (goal.at.overflow_sub-size c).Else-not-head_there)

pub returns : goal.returns
returns c =
    let a = c.args in
    c.min.ensures ∙ ap (λ (n : ℕ). min n (length a.file.now - (a.place + 3))) c.u16_at-wanted.ensures
    ∙ sized_some a.file.now a.place (there (goal.at.returns c).Else-not-head_there)
