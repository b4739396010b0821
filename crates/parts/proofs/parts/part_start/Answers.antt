-- After the head where it is there, else at the place or at the end.
use mathlib.Core.Path.{◌≡◌, sym, ◌∙◌}
use mathlib.Core.Bool.{true}
use native.Mathlib.Omega.{arith}
use lib.ListN.{length}
use Rattle.parts.specs.Parts.{head_there}
use Rattle.parts.proofs.PartLaws.{head_room, starts_after, starts_empty}
use Rattle.parts.proofs.parts.part_start.Goals as goal
use Rattle.parts.proofs.parts.part_start.Goals.{Then-head_there}

there : (c : Then-head_there) → let a = c.args in head_there (length a.file.now) a.place ≡ true
there c = sym c.head_there.ensures ∙ c.if-head_there.true

pub overflow_add-result : goal.overflow_add-result
overflow_add-result c = let a = c.args in omega (arith, head_room (length a.file.now) a.place (there c))

pub returns-then-head_there : goal.returns-then-head_there
returns-then-head_there c = let a = c.args in starts_after a.file.now a.place (there c)

pub returns : goal.returns
returns c =
    let a = c.args in
    c.min.ensures ∙ starts_empty a.file.now a.place (sym c.head_there.ensures ∙ c.if-head_there.false)
