-- As with a pass by watts: the library's answer decides the number, and only what it reports is stored.
use mathlib.Core.List.{List}
use lib.IntN.{ℤ}
use Rattle.rules.specs.declared.Settings.{Settings}
use Rattle.members.specs.Ranges.{Fleet, fleet_linked, links_of}
use Rattle.controller.specs.Answers.{current_answer, current_leaves}
use Rattle.yesbrulka.proofs.CallLaws.{pass_done, pass_refused}
use Rattle.std.proofs.Common.{Result}
use Rattle.whole.specs.declared.Refusal.{Refusal}
use Rattle.controller.specs.declared.Passed.{Passed}
use Rattle.yesbrulka.proofs.passes.yb_pass_current.Goals as goal
use Rattle.yesbrulka.proofs.passes.yb_pass_current.Goals.{After-pass_current, After-struct_told-1, In-Ok, In-Err, Start}

-- the start, from the place after the pass
abbrev start : After-pass_current → Start
start p = p.before.before.before.before.before.before.before.before.before.before

abbrev fleet : Start → Fleet
fleet k = let a = k.args in fleet_linked a.rated.now a.reserve.now a.stored.now a.rating.now a.weight.now (links_of a.phases.now a.volts.now)

abbrev answer : Start → Settings → ℤ → Result Passed Refusal
answer k s m = let a = k.args in current_answer s m (fleet k) a.phases.now a.volts.now a.requests.now

abbrev leaves : Start → Settings → ℤ → List ℤ
leaves k s m = let a = k.args in current_leaves s m (fleet k) a.phases.now a.volts.now a.requests.now

pub enum_known-p : goal.enum_known-p
enum_known-p c = c.in-Ok.in-Ok-own.keys1

pub enum_known-r : goal.enum_known-r
enum_known-r c = c.in-Err.in-Err-own.keys2

pub shape_of-requests-in-Ok : goal.shape_of-requests-in-Ok
shape_of-requests-in-Ok c = c.pass_current.auto.requests

pub returns-in-Ok : goal.returns-in-Ok
returns-in-Ok c =
    let s = start (goal.at.returns-in-Ok c).After-pass_current in
    let a = s.args in let parts = pass_done (answer s) (leaves s) a.mode a.target a.band a.factor a.measure s.ranges.target.sfits s.ranges.measure.sfits c.pass_current.result c.pass_current.new.requests c.pass_current.ensures.value c.pass_current.ensures.requests_after a.need.now a.changed.now c.in-Ok.p c.in-Ok.is c.struct_told-1.given.0.1 in record { pass_told = parts.0; requests_value = parts.1 }

pub shape_of-requests-in-Err : goal.shape_of-requests-in-Err
shape_of-requests-in-Err c = c.pass_current.auto.requests

pub returns-in-Err : goal.returns-in-Err
returns-in-Err c =
    let s = start (goal.at.returns-in-Err c).After-pass_current in
    let a = s.args in let parts = pass_refused (answer s) (leaves s) a.mode a.target a.band a.factor a.measure s.ranges.target.sfits s.ranges.measure.sfits c.pass_current.result c.pass_current.new.requests c.pass_current.ensures.value c.pass_current.ensures.requests_after a.need.now a.changed.now c.in-Err.r c.in-Err.is in record { pass_told = parts.0; requests_value = parts.1 }
