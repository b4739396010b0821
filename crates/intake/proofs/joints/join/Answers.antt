-- The tail is laid first, and behind it as much of the chunk as is left of the largest field.
use native.Mathlib.Omega.{arith}
use Prim.Native.Nat.{ℕ, ◌+◌, ◌-◌, ◌≤◌, min}
use mathlib.Core.Path.{◌≡◌, sym, ap, ◌∙◌}
use lib.ListN.{length, take}
use lib.Seq.{slice, length-slice}
use Rattle.octets.specs.BigEndian.{laid}
use Rattle.chunks.specs.Sizes.{largest_field}
use Rattle.kept.specs.Layout.{tail_place, tail_most, tail_bytes, tail_part}
use Rattle.intake.proofs.JointLaws.{joint_is, joint_long, joined}
use Rattle.intake.proofs.joints.join.Goals as goal
use Rattle.intake.proofs.joints.join.Goals.{After-u8_at-t}

-- the tail, as it is read
tail_read : (c : After-u8_at-t) → slice tail_place (tail_place + c.u8_at-t.result) c.args.s.now ≡ tail_part c.args.s.now
unfolding tail_part
tail_read c = ap (λ (k : ℕ). slice tail_place (tail_place + k) c.args.s.now) c.u8_at-t.ensures

tail_long : (c : After-u8_at-t) → length (tail_part c.args.s.now) ≡ c.u8_at-t.result
unfolding tail_part
tail_long c =
    let state = c.args.s.now in
    length-slice tail_place (tail_place + tail_bytes state) state (omega (arith, c.requires.sized.long, c.requires.sized.tail_fits_is)) ∙ omega (arith, c.u8_at-t.ensures)

pub returns : goal.returns
returns c =
    let a = c.args in
    let u = (goal.at.returns c).After-u8_at-t in
    let tail = tail_part a.s.now in
    let chunk = a.chunk.now in
    let n = c.min-n.result in
    let t : length tail ≡ c.u8_at-t.result = tail_long u in
    let is : n ≡ min (length chunk) (largest_field - length tail) = omega (arith, t, c.min-n.ensures) in
    let few : length tail ≤ tail_most = omega (arith, t, c.requires.sized.tail_fits_is, c.u8_at-t.ensures) in record {
      value = ap (λ (k : ℕ). k + n) (sym t) ∙ sym (joint_long tail chunk n few is) ∙ ap length (joint_is tail chunk n few is);
      joint_after = ap (λ (k : ℕ). take (k + n) c.copy-2.new.s) (sym t)
          ∙ joined tail chunk n few is a.joint.now c.copy.new.s c.copy-2.new.s c.requires.joint_len
          (c.copy.ensures ∙ ap (laid a.joint.now 0) (tail_read u))
          (c.copy-2.ensures ∙ ap (λ (k : ℕ). laid c.copy.new.s k (slice 0 n chunk)) (sym t));
    }
