use Prim.Native.Nat.{◌+◌, ◌*◌}
use mathlib.Core.Path.{ap, ◌∙◌}
use native.Mathlib.Omega.{arith}
use lib.IntN.{ℤ, pos}
use lib.ListN.{get_or}
use mir.Syntax.{w32}
use mir.Val.{of_z}
use Rattle.whole.proofs.SignLaws.{read}
use Rattle.octets.specs.BigEndian.{bytes_of, laid}
use Rattle.kept.specs.Layout.{vars_place}
use Rattle.kept.proofs.StandLaws.{varying_none, varying_more}
use Rattle.kept.proofs.stands.put_vars.Goals as goal

pub loop-i-init : goal.loop-i-init
loop-i-init c = let a = c.args in varying_none a.s.now a.vars.now

pub loop-i-preserved : goal.loop-i-preserved
loop-i-preserved c =
    let a = c.args in
    let i = c.loop-i.i in
    let e = c.put_i32.ensures ∙ ap (λ (z : ℤ). laid c.loop-i.s (vars_place + 4 * i) (bytes_of 4 (of_z w32 z))) (read w32 (get_or a.vars.now i (pos 0)) (omega arith)) in
    varying_more a.s.now a.vars.now (omega arith) c.loop-i.s i c.loop-i.invariant c.loop-i-test.true c.put_i32.new.s e
