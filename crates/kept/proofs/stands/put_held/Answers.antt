use Prim.Native.Nat.{◌+◌, ◌*◌}
use mathlib.Core.Path.{ap, ◌∙◌}
use native.Mathlib.Omega.{arith}
use lib.IntN.{ℤ, pos}
use lib.ListN.{get_or}
use mir.Syntax.{w32}
use mir.Val.{of_z}
use Rattle.whole.proofs.SignLaws.{read}
use Rattle.octets.specs.BigEndian.{bytes_of, laid}
use Rattle.kept.specs.Layout.{held_place}
use Rattle.kept.proofs.StandLaws.{holding_none, holding_more}
use Rattle.kept.proofs.stands.put_held.Goals as goal

pub loop-i-init : goal.loop-i-init
loop-i-init c = let a = c.args in holding_none a.s.now a.stored.now a.requests.now

pub loop-i-preserved : goal.loop-i-preserved
loop-i-preserved c =
    let a = c.args in
    let i = c.loop-i.i in
    let r = get_or a.requests.now i (pos 0) in
    let t = c.put_u64.new.s in
    let e = c.put_i32.ensures ∙ ap (λ (z : ℤ). laid t (held_place + 12 * i + 8) (bytes_of 4 (of_z w32 z))) (read w32 r (omega arith)) in
    holding_more a.s.now a.stored.now a.requests.now (omega arith) c.loop-i.s i c.loop-i.invariant c.loop-i-test.true t c.put_i32.new.s c.put_u64.ensures e
