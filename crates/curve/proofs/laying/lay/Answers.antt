use native.Mathlib.Omega.{arith}
use Rattle.curve.proofs.LayLaws.{laying_none, laying_more, laying_all}
use Rattle.curve.proofs.laying.lay.Goals as goal

pub loop-i-init : goal.loop-i-init
loop-i-init c =
    let a = c.args in
    laying_none a.xs.now a.ys.now c.requires.xs_len_bound a.room.now c.put_u8.new.s c.requires.room_len c.put_u8.ensures

pub loop-i-preserved : goal.loop-i-preserved
loop-i-preserved c =
    let a = c.args in
    laying_more a.xs.now a.ys.now c.requires.xs_len_bound c.loop-i.room c.put_point.new.room c.loop-i.i c.loop-i.invariant (omega arith)
    c.put_point-arg-in-loop-i-1.given c.put_point-arg-in-loop-i-2-1.given c.put_point.ensures

pub returns : goal.returns
returns c =
    let a = c.args in record { room_len_2 = c.loop-i.invariant.long; room_after = laying_all a.xs.now a.ys.now c.requires.xs_len_bound c.loop-i.room c.loop-i.i c.loop-i.invariant (omega arith) c.requires.ys_len }
