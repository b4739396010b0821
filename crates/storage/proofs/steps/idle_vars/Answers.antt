-- An idle unit draws its idle draw, which is at most S, and its vars are those beside it.
use mathlib.Core.Bool.{true}
use native.Mathlib.Omega.{arith}
use mir.Syntax.{w32}
use Rattle.whole.proofs.SignLaws.{signed_fits}
use Rattle.storage.proofs.StepLaws.{idle_draw_small, idle_vars_most, idle_vars_are}
use Rattle.storage.proofs.steps.idle_vars.Goals as goal
use Rattle.storage.proofs.steps.idle_vars.Goals.{Start}

pub overflow_cast-idle_draw : goal.overflow_cast-idle_draw
overflow_cast-idle_draw c =
    omega (arith, idle_draw_small c.args.u c.requires c.idle_draw.result c.idle_draw.ensures)

pub signed32-requires : goal.signed32-requires
signed32-requires c =
    signed_fits w32 true c.idle_draw.result (omega (arith, idle_draw_small c.args.u c.requires c.idle_draw.result c.idle_draw.ensures))

pub vars-requires : goal.vars-requires
vars-requires c =
    idle_vars_most c.args.u c.requires

pub returns : goal.returns
returns c =
    let w = c.signed32 in
    let d = c.idle_draw in
    idle_vars_are c.args.u d.result d.ensures w.result c.vars.result w.type_inv c.vars.type_inv w.ensures c.vars.ensures
