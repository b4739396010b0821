use Prim.Native.Nat.{◌+◌, ◌-◌, ◌≤◌}
use mathlib.Core.Path.{◌≡◌, sym, ap, ◌∙◌, subst}
use native.Mathlib.Omega.{arith}
use lib.ListN.{length}
use Rattle.parts.specs.Header.{past}
use Rattle.stick.specs.Site.{of_steps}
use Rattle.intake.proofs.HeadLaws.{Heading, heads_out, heads_to_end, heads_stop, heads_within, heads_on}
use Rattle.intake.proofs.heads.head_end.Goals as goal
use Rattle.intake.proofs.heads.head_end.Goals.{After-of_steps, At-loop-at, Else-of_steps, In-loop-at, Start}

pub loop-at-init : goal.loop-at-init
loop-at-init c = heads_out c.args.bytes.now c.requires

pub u8_at-requires : goal.u8_at-requires
u8_at-requires c = omega (arith, c.loop-at-test.true)

pub returns-then-of_steps : goal.returns-then-of_steps
returns-then-of_steps c =
    heads_stop c.args.bytes.now c.loop-at.at c.loop-at.invariant c.loop-at-test.true
    (ap of_steps (sym c.u8_at.ensures) ∙ sym c.of_steps.ensures ∙ c.if-of_steps.true)

-- the field lies within the bytes
within : (c : Else-of_steps)
    → past c.args.bytes.now c.loop-at.at ≤ length c.args.bytes.now
within c = heads_within c.args.bytes.now c.loop-at.at c.loop-at.invariant c.loop-at-test.true

pub overflow_add-at : goal.overflow_add-at
overflow_add-at c = omega (arith, within c)

pub u16_at-requires : goal.u16_at-requires
u16_at-requires c = omega (arith, within c)

pub overflow_add-at-in-loop-at : goal.overflow_add-at-in-loop-at
overflow_add-at-in-loop-at c = omega (arith, within (goal.at.overflow_add-at-in-loop-at c).Else-of_steps, c.u16_at.ensures)

pub overflow_add-at-in-loop-at-2 : goal.overflow_add-at-in-loop-at-2
overflow_add-at-in-loop-at-2 c = omega (arith, within (goal.at.overflow_add-at-in-loop-at-2 c).Else-of_steps, c.u16_at.ensures)

pub loop-at-smaller : goal.loop-at-smaller
loop-at-smaller c = omega (arith, within (goal.at.loop-at-smaller c).Else-of_steps, c.u16_at.ensures)

pub loop-at-preserved : goal.loop-at-preserved
loop-at-preserved c =
    let bytes = c.args.bytes.now in
    let next : past bytes c.loop-at.at ≡ c.loop-at.at + (3 + c.u16_at.result) = omega (arith, c.u16_at.ensures) in
    subst (Heading bytes) next
    (heads_on bytes c.loop-at.at c.loop-at.invariant c.loop-at-test.true (ap of_steps (sym c.u8_at.ensures) ∙ sym c.of_steps.ensures ∙ c.if-of_steps.false))

pub returns : goal.returns
returns c = heads_to_end c.args.bytes.now c.loop-at.at c.loop-at.invariant c.loop-at-test.false
