-- The code is the definition: the tests of the refusals in their order, and then a step of a unit that is in its ranges.
use mathlib.Core.Path.{ap, ◌∙◌}
use native.Mathlib.Omega.{arith}
use mir.Syntax.{w32}
use Rattle.whole.proofs.SignLaws.{read, sized}
use Rattle.storage.proofs.StepLaws.{refused_values, refused_rating, done, ranged}
use Rattle.storage.specs.Step.{step_of}
use mathlib.Core.Bool.{not}
use Rattle.std.proofs.Common.{Ok}
use Rattle.storage.proofs.steps.step.Goals as goal
use Rattle.storage.proofs.steps.step.Goals.{Else-not-seconds_in-unit_in, Start, Then-not-seconds_in-unit_in, Then-u-unsigned_abs}

pub returns-then-not-seconds_in-unit_in : goal.returns-then-not-seconds_in-unit_in
returns-then-not-seconds_in-unit_in c =
    let x = c.args in
    refused_values x.u x.seconds x.request (cc ((ap not c.if-not-seconds_in-unit_in.true), c.unit_in.ensures, c.seconds_in.ensures)) c.refused.result c.refused.ensures

pub returns-then-u-unsigned_abs : goal.returns-then-u-unsigned_abs
returns-then-u-unsigned_abs c =
    let x = c.args in
    let n = sized x.request c.unsigned_abs.result c.ranges.request.sfits c.unsigned_abs.ensures.value in
    refused_rating x.u x.seconds x.request (cc ((ap not c.if-not-seconds_in-unit_in.false), c.unit_in.ensures, c.seconds_in.ensures)) (omega arith)
    c.refused-then-u-unsigned_abs.result c.refused-then-u-unsigned_abs.ensures

pub step_within-requires : goal.step_within-requires
step_within-requires c =
    let x = c.args in
    ranged x.u x.seconds (cc ((ap not c.if-not-seconds_in-unit_in.false), c.unit_in.ensures, c.seconds_in.ensures))

pub returns : goal.returns
returns c =
    let x = c.args in
    let n = sized x.request c.unsigned_abs.result c.ranges.request.sfits c.unsigned_abs.ensures.value in
    let d = done x.u x.seconds x.request (cc ((ap not c.if-not-seconds_in-unit_in.false), c.unit_in.ensures, c.seconds_in.ensures)) (omega arith) in
    ap Ok (c.step_within.ensures ∙ ap (step_of x.u x.seconds) (read w32 x.request c.ranges.request.sfits)) ∙ d
