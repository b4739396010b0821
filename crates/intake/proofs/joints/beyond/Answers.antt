-- The first field's bytes are those of the tail and the first ones of the chunk; the places of the chunk are by the tail's bytes further on.
use native.Mathlib.Omega.{arith}
use Prim.Native.Nat.{ℕ, ◌+◌, ◌-◌, ◌≤◌}
use mathlib.Core.Path.{◌≡◌, sym, ap, ◌∙◌}
use lib.ListN.{length}
use Rattle.parts.specs.Header.{past}
use Rattle.stick.specs.declared.Reached.{Reached}
use Rattle.stick.specs.Check.{reach_of}
use Rattle.chunks.specs.Holds.{moved}
use Rattle.chunks.proofs.ReachChunks.{far_upto}
use Rattle.intake.proofs.joints.beyond.Goals as goal
use Rattle.intake.proofs.joints.beyond.Goals.{After-reach-r, After-u16_at, Start}

size_is : (c : After-u16_at) → past c.args.joint.now 0 ≡ 3 + c.u16_at.result
size_is c = omega (arith, c.u16_at.ensures)

pub overflow_sub-size : goal.overflow_sub-size
overflow_sub-size c = omega (arith, c.requires.tail_bound, size_is c)

pub reach-r-requires : goal.reach-r-requires
reach-r-requires c = omega (arith, c.requires.tail_bound, c.requires.joint_bound, size_is c)

upto : (c : After-reach-r) → c.reach-r.result.at ≤ length c.args.chunk.now
upto c =
    let h : 3 + c.u16_at.result - c.args.tail ≤ length c.args.chunk.now = omega (arith, c.requires.tail_bound, c.requires.joint_bound, size_is (record { before = c.before.before; type_inv = record { chunk = c.shared_slice_known-2-1.given; joint = c.shared_slice_known-1.given } })) in
    omega (arith, ap (λ (r : Reached). r.at) c.reach-r.ensures, far_upto c.args.chunk.now c.args.st (3 + c.u16_at.result - c.args.tail) h)

pub overflow_add-result : goal.overflow_add-result
overflow_add-result c =
    omega (arith, upto (goal.at.overflow_add-result c).After-reach-r, c.requires.tail_le_tail_most, c.well_formed)

pub returns : goal.returns
returns c =
    let chunk = c.args.chunk.now in
    ap (moved c.args.tail) (c.reach-r.ensures ∙ ap (λ (p : ℕ). reach_of (length chunk) c.args.st chunk (p - c.args.tail)) (sym (size_is (goal.at.returns c).After-u16_at)))
