-- The bytes from the site part's place on, as many as the number before says, are the site part; it is read from the state before any field.
use Prim.Native.Nat.{ℕ, ◌+◌}
use mathlib.Core.Path.{ap, ap₂, ◌∙◌}
use mathlib.Core.List.{List}
use lib.ListN.{length}
use lib.Seq.{slice}
use Rattle.fields.specs.declared.State.{State}
use Rattle.stick.specs.Check.{reach_of}
use Rattle.kept.specs.Layout.{site_place, site_part}
use Rattle.kept.proofs.NumberLaws.{part_is}
use Rattle.kept.proofs.numbers.known.Goals as goal
use Rattle.kept.proofs.numbers.known.Goals.{After-first, After-u16_at-n}

pub returns : goal.returns
unfolding site_part
returns c =
    let s = c.args.s.now in
    c.reach.ensures
    ∙ ap₂ (λ (st : State) (p : List ℕ). reach_of (length p) st p 0) c.first.ensures
    (part_is site_place c.u16_at-n.result s ∙ ap (λ (n : ℕ). slice site_place (site_place + n) s) c.u16_at-n.ensures)
