use Prim.Native.Nat.{ℕ}
use mathlib.Core.Path.{ap}
use native.Mathlib.Omega.{arith}
use lib.Dec.{eqb}
use Rattle.kept.specs.Layout.{flag_at}
use Rattle.kept.proofs.StandLaws.{filled_none, filled_more}
use Rattle.kept.proofs.stands.load_on.Goals as goal

pub loop-i-init : goal.loop-i-init
loop-i-init c = let a = c.args in filled_none (flag_at a.s.now) a.on.now

pub loop-i-preserved : goal.loop-i-preserved
unfolding flag_at
loop-i-preserved c =
    let a = c.args in
    filled_more (flag_at a.s.now) a.on.now c.loop-i.on c.loop-i.i c.loop-i.invariant (omega arith) _ (ap (λ (n : ℕ). eqb n 1) c.u8_at.ensures)
