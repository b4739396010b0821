use Prim.Native.Nat.{◌+◌, ◌-◌, ◌≤◌}
use mathlib.Core.Path.{◌≡◌, sym}
use native.Mathlib.Omega.{arith}
use lib.ListN.{length}
use lib.Seq.{slice, length-slice}
use Rattle.kept.proofs.PieceLaws.{laying_none, laying_more, laying_all, slice_at}
use Rattle.kept.proofs.pieces.copy.Goals as goal
use Rattle.kept.proofs.pieces.copy.Goals.{Start}

-- the part's bytes, which have room behind the place
long : (c : Start) → length (slice c.args.from c.args.to c.args.bytes.now) ≡ c.args.to - c.args.from
long c = length-slice c.args.from c.args.to c.args.bytes.now c.requires.to_in_bounds

room : (c : Start) → c.args.at + length (slice c.args.from c.args.to c.args.bytes.now) ≤ length c.args.s.now
room c = omega (arith, long c, c.requires.from_in_bounds)

pub loop-i-init : goal.loop-i-init
loop-i-init c = laying_none c.args.s.now c.args.at (slice c.args.from c.args.to c.args.bytes.now)

pub loop-i-preserved : goal.loop-i-preserved
loop-i-preserved c =
    let bs = slice c.args.from c.args.to c.args.bytes.now in
    laying_more c.args.s.now c.args.at bs (room (goal.at.loop-i-preserved c).Start) c.loop-i.s c.loop-i.i c.loop-i.invariant (omega (arith, long (goal.at.loop-i-preserved c).Start)) _ (sym (slice_at c.args.from c.args.to c.args.bytes.now c.loop-i.i (omega arith)))

pub returns : goal.returns
returns c =
    let bs = slice c.args.from c.args.to c.args.bytes.now in
    laying_all c.args.s.now c.args.at bs (room (goal.at.returns c).Start) c.loop-i.s c.loop-i.i c.loop-i.invariant (omega (arith, long (goal.at.returns c).Start, c.loop-i.invariant.upto))
