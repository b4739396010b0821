use mathlib.Core.Path.{◌∙◌}
use native.Mathlib.Omega.{arith}
use mir.Syntax.{w32}
use Rattle.whole.proofs.SignLaws.{read}
use Rattle.kept.specs.Layout.{var_at}
use Rattle.kept.proofs.StandLaws.{filled_none, filled_more}
use Rattle.kept.proofs.stands.load_vars.Goals as goal

pub loop-i-init : goal.loop-i-init
loop-i-init c = let a = c.args in filled_none (var_at a.s.now) a.vars.now

pub loop-i-preserved : goal.loop-i-preserved
unfolding var_at
loop-i-preserved c =
    let a = c.args in
    filled_more (var_at a.s.now) a.vars.now c.loop-i.vars c.loop-i.i c.loop-i.invariant (omega arith) _ (read w32 c.i32_at.result c.i32_at.type_inv ∙ c.i32_at.ensures)
