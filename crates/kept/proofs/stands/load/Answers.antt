use mathlib.Core.Path.{◌∙◌}
use native.Mathlib.Omega.{arith}
use mir.Syntax.{w32}
use Rattle.whole.proofs.SignLaws.{read}
use Rattle.kept.specs.Layout.{store_at, request_at}
use Rattle.kept.proofs.StandLaws.{filled_none, filled_more}
use Rattle.kept.proofs.stands.load.Goals as goal

pub loop-i-init : goal.loop-i-init
loop-i-init c =
    let a = c.args in
    (filled_none (store_at a.s.now) a.stored.now, filled_none (request_at a.s.now) a.requests.now)

pub loop-i-preserved : goal.loop-i-preserved
unfolding store_at request_at
loop-i-preserved c =
    let a = c.args in
    let s = a.s.now in (
      filled_more (store_at s) a.stored.now c.loop-i.stored c.loop-i.i c.loop-i.invariant.0 (omega arith) c.u64_at.result c.u64_at.ensures,
      filled_more (request_at s) a.requests.now c.loop-i.requests c.loop-i.i c.loop-i.invariant.1 (omega arith) _ (read w32 c.i32_at.result c.i32_at.type_inv ∙ c.i32_at.ensures),
    )
