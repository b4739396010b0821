use mathlib.Core.Bool.{false}
use lib.ListN.{get_or}
use native.Mathlib.Omega.{arith}
use Rattle.records.proofs.LayLaws.{flag_byte}
use Rattle.kept.proofs.StandLaws.{flagging_none, flagging_more}
use Rattle.kept.proofs.stands.put_flags.Goals as goal

pub loop-i-init : goal.loop-i-init
loop-i-init c = let a = c.args in flagging_none a.s.now a.on.now

pub loop-i-preserved : goal.loop-i-preserved
loop-i-preserved c =
    let a = c.args in
    flagging_more a.s.now a.on.now (omega arith) c.loop-i.s c.loop-i.i c.loop-i.invariant c.loop-i-test.true _ c.put_u8.new.s (flag_byte (get_or a.on.now c.loop-i.i false)) c.put_u8.ensures
