-- The library's answer decides the number, and only what it gives is stored.
use lib.IntN.{ℤ}
use Rattle.yesbrulka.specs.Calls.{unit_of}
use Rattle.yesbrulka.proofs.CallLaws.{step_done, step_refused}
use Rattle.yesbrulka.proofs.steps.yb_step_as.Goals as goal
use Rattle.yesbrulka.proofs.steps.yb_step_as.Goals.{After-step_as, In-Ok, In-Err, Start}

pub enum_known-o : goal.enum_known-o
enum_known-o c = c.in-Ok.in-Ok-own.keys1

pub enum_known-r : goal.enum_known-r
enum_known-r c = c.in-Err.in-Err-own.keys2

pub returns-in-Ok : goal.returns-in-Ok
returns-in-Ok c =
    let a = c.args in
    step_done a.edition a.seconds (λ (v : ℤ). unit_of a.rated a.reserve a.stored a.rating a.kva a.idle_loss v a.weight a.inverter a.charge a.discharge a.priority a.provide a.absorb) a.var_request a.request c.ranges.var_request.sfits c.ranges.request.sfits c.step_as.result c.step_as.ensures a.watts.now a.vars.now a.after.now a.loss.now c.in-Ok.o c.in-Ok.is c.struct_told-1.given.0.1 c.struct_told-1.given.1.0.1

pub returns-in-Err : goal.returns-in-Err
returns-in-Err c =
    let a = c.args in
    step_refused a.edition a.seconds (λ (v : ℤ). unit_of a.rated a.reserve a.stored a.rating a.kva a.idle_loss v a.weight a.inverter a.charge a.discharge a.priority a.provide a.absorb) a.var_request a.request c.ranges.var_request.sfits c.ranges.request.sfits c.step_as.result c.step_as.ensures a.watts.now a.vars.now a.after.now a.loss.now c.in-Err.r c.in-Err.is
