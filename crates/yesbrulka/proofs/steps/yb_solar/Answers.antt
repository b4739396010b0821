-- The library's answer decides the number, and only what it gives is stored.
use lib.IntN.{ℤ}
use Rattle.solar.specs.Answers.{lists_of}
use Rattle.yesbrulka.specs.Calls.{inverter_of, weather_of}
use Rattle.yesbrulka.proofs.CallLaws.{lit_done, lit_refused}
use Rattle.yesbrulka.proofs.steps.yb_solar.Goals as goal
use Rattle.yesbrulka.proofs.steps.yb_solar.Goals.{After-step, In-Ok, In-Err, Start}

pub enum_known-g : goal.enum_known-g
enum_known-g c = c.in-Ok.in-Ok-own.keys1

pub enum_known-r : goal.enum_known-r
enum_known-r c = c.in-Err.in-Err-own.keys2

pub returns-in-Ok : goal.returns-in-Ok
returns-in-Ok c =
    let a = c.args in
    lit_done (λ (v : ℤ). inverter_of a.array a.kva a.cut_in a.cut_out a.limit v a.priority) (lists_of a.warm_x.now a.warm_y.now a.eff_x.now a.eff_y.now) a.on (weather_of a.irradiance a.temperature) a.var_request c.ranges.var_request.sfits c.step.result c.step.ensures a.after.now a.watts.now a.vars.now a.dc.now c.in-Ok.g c.in-Ok.is c.struct_told-in-Ok-1.given.1.0.1 c.struct_told-in-Ok-1.given.1.1.0.1

pub returns-in-Err : goal.returns-in-Err
returns-in-Err c =
    let a = c.args in
    lit_refused (λ (v : ℤ). inverter_of a.array a.kva a.cut_in a.cut_out a.limit v a.priority) (lists_of a.warm_x.now a.warm_y.now a.eff_x.now a.eff_y.now) a.on (weather_of a.irradiance a.temperature) a.var_request c.ranges.var_request.sfits c.step.result c.step.ensures a.after.now a.watts.now a.vars.now a.dc.now c.in-Err.r c.in-Err.is
