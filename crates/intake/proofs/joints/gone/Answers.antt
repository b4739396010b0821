-- Without a tail the fields lie in the chunk.
use native.Mathlib.Omega.{arith}
use Prim.Native.Nat.{ℕ}
use mathlib.Core.Path.{◌≡◌, sym, ap, ap₂, ◌∙◌}
use mathlib.Core.List.{List, [], ◌++◌}
use lib.ListN.{length}
use Rattle.fields.specs.declared.State.{State}
use Rattle.stick.specs.Check.{reach_of}
use Rattle.kept.specs.declared.Mark.{Mark}
use Rattle.kept.specs.Layout.{tail_part, mark_in, kept_in}
use Rattle.taking.specs.Chunk.{gone_by}
use Rattle.intake.proofs.OpenLaws.{open_tail}
use Rattle.intake.proofs.JointLaws.{no_bytes}
use Rattle.intake.proofs.joints.gone.Goals as goal
use Rattle.intake.proofs.joints.gone.Goals.{Start, Then-m-eq0}

pub returns-then-m-eq0 : goal.returns-then-m-eq0
unfolding gone_by kept_in mark_in
returns-then-m-eq0 c =
    let state = c.args.s.now in
    let chunk = c.args.chunk.now in
    let none : tail_part state ≡ [] = no_bytes (tail_part state) (omega (arith, open_tail state c.requires.fact, ap (λ (k : Mark). k.tail) c.requires.m_value, c.if-m-eq0.true)) in
    c.reach.ensures
    ∙ ap₂ (λ (st : State) (b : List ℕ). reach_of (length (b ++ chunk)) st (b ++ chunk) 0) (ap (λ (k : Mark). k.state) c.requires.m_value) (sym none)

pub gone_on-requires : goal.gone_on-requires
gone_on-requires c = record { fact = c.requires.fact; m_value = c.requires.m_value; le_tail = omega (arith, c.if-m-eq0.false) }
