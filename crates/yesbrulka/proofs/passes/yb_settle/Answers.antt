-- The library's answer decides the number, and only what it reports is stored.
use Rattle.members.specs.Ranges.{fleet_of}
use Rattle.yesbrulka.proofs.CallLaws.{study_done, study_refused}
use Rattle.yesbrulka.proofs.passes.yb_settle.Goals as goal
use Rattle.yesbrulka.proofs.passes.yb_settle.Goals.{After-settle, In-Ok, In-Err, Start}

pub enum_known-found : goal.enum_known-found
enum_known-found c = c.in-Ok.in-Ok-own.keys1

pub enum_known-r : goal.enum_known-r
enum_known-r c = c.in-Err.in-Err-own.keys2

pub shape_of-requests-in-Ok : goal.shape_of-requests-in-Ok
shape_of-requests-in-Ok c = c.settle.auto.requests

pub returns-in-Ok : goal.returns-in-Ok
returns-in-Ok c =
    let a = c.args in let parts = study_done a.load a.target a.band a.factor a.budget (fleet_of a.rated.now a.reserve.now a.stored.now a.rating.now a.weight.now) a.requests.now c.ranges.load.sfits c.ranges.target.sfits c.settle.result c.settle.new.requests c.settle.ensures.value c.settle.ensures.requests_after a.settled.now a.passes.now c.in-Ok.found c.in-Ok.is in record { study_told = parts.0; requests_value = parts.1 }

pub shape_of-requests-in-Err : goal.shape_of-requests-in-Err
shape_of-requests-in-Err c = c.settle.auto.requests

pub returns-in-Err : goal.returns-in-Err
returns-in-Err c =
    let a = c.args in let parts = study_refused a.load a.target a.band a.factor a.budget (fleet_of a.rated.now a.reserve.now a.stored.now a.rating.now a.weight.now) a.requests.now c.ranges.load.sfits c.ranges.target.sfits c.settle.result c.settle.new.requests c.settle.ensures.value c.settle.ensures.requests_after a.settled.now a.passes.now c.in-Err.r c.in-Err.is in record { study_told = parts.0; requests_value = parts.1 }
