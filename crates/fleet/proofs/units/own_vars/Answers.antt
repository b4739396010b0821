use native.Mathlib.Omega.{arith}
use lib.ListN.{get_or}
use mir.Syntax.{w32}
use mir.Val.{to_z, of_z}
use Rattle.whole.proofs.SignLaws.{read}
use Rattle.rows.specs.Rows.{no_row, unit_by}
use Rattle.fleet.proofs.SiteLaws.{none_own, one_own, all_own}
use Rattle.fleet.proofs.units.own_vars.Goals as goal

pub loop-i-init : goal.loop-i-init
loop-i-init c = none_own c.args.units.now c.args.vars.now

pub loop-i-preserved : goal.loop-i-preserved
loop-i-preserved c =
    let a = c.args in
    let own = (unit_by (get_or a.units.now c.loop-i.i no_row)).var_request in
    one_own a.units.now a.vars.now c.loop-i.vars c.loop-i.i c.loop-i.invariant (omega arith) (to_z w32 (of_z w32 own)) (read w32 own (omega arith))

pub returns : goal.returns
returns c =
    let a = c.args in
    all_own a.units.now a.vars.now c.loop-i.vars c.loop-i.i c.loop-i.invariant (omega arith) c.requires
