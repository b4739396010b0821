-- What came beside the steps is counted by the stage.
use native.Mathlib.Omega.{arith}
use Prim.Native.Nat.{◌-◌}
use mathlib.Core.Path.{◌≡◌, sym, ◌∙◌}
use mathlib.Core.Bool.{cond}
use lib.Dec.{eqb}
use borrow.Author.Tests.{eq-eqb, ne_eqb}
use Rattle.fields.specs.Fields.{at_end, at_reading, at_voltage}
use Rattle.kept.specs.Kept.{begun_at}
use Rattle.kept.proofs.FitLaws.{pick_true, pick_false, place_is}
use Rattle.kept.proofs.tests.place_fits.Goals as goal
use Rattle.kept.proofs.tests.place_fits.Goals.{else-begun_at, else-stage-eq-AT_END, else-stage-eq-AT_READING, else-stage-eq-AT_VOLTAGE, else-stage-eq-AT_VOLTAGE-2, then-begun_at, then-stage-eq-AT_END, then-stage-eq-AT_READING, then-stage-eq-AT_VOLTAGE, then-stage-eq-AT_VOLTAGE-2}

pub returns : goal.returns
returns c =
    let a = c.args in
    let stage = a.stage in
    let close = c.if-begun_at.close in
    let weather = c.if-stage-eq-AT_READING.weather in
    let voltage = c.if-stage-eq-AT_VOLTAGE.voltage in
    let end = c.if-stage-eq-AT_END.end in
    let before = c.if-stage-eq-AT_VOLTAGE-2.before in
    let closed : close ≡ cond (begun_at stage) 7 0 =
    elim c.if-begun_at.branch [ then-begun_at w ↦ pick_true (begun_at stage) 7 0 close (sym c.begun_at.ensures ∙ w.if-begun_at.true) w.close-is | else-begun_at w ↦ pick_false (begun_at stage) 7 0 close (sym c.begun_at.ensures ∙ w.if-begun_at.false) w.close-is ] in
    let headed : c.saturating_sub-head.result ≡ a.site - close = omega (arith, c.saturating_sub-head.ensures) in
    let lit : weather ≡ cond (eqb stage at_reading) 19 0 =
    elim c.if-stage-eq-AT_READING.branch [ then-stage-eq-AT_READING w ↦ pick_true (eqb stage at_reading) 19 0 weather (eq-eqb stage at_reading w.if-stage-eq-AT_READING.true) w.weather-is | else-stage-eq-AT_READING w ↦ pick_false (eqb stage at_reading) 19 0 weather (ne_eqb stage at_reading w.if-stage-eq-AT_READING.false) w.weather-is ] in
    let said : voltage ≡ cond (eqb stage at_voltage) 5 0 =
    elim c.if-stage-eq-AT_VOLTAGE.branch [ then-stage-eq-AT_VOLTAGE w ↦ pick_true (eqb stage at_voltage) 5 0 voltage (eq-eqb stage at_voltage w.if-stage-eq-AT_VOLTAGE.true) w.voltage-is | else-stage-eq-AT_VOLTAGE w ↦ pick_false (eqb stage at_voltage) 5 0 voltage (ne_eqb stage at_voltage w.if-stage-eq-AT_VOLTAGE.false) w.voltage-is ] in
    let ended : end ≡ cond (eqb stage at_end) 7 0 =
    elim c.if-stage-eq-AT_END.branch [ then-stage-eq-AT_END w ↦ pick_true (eqb stage at_end) 7 0 end (eq-eqb stage at_end w.if-stage-eq-AT_END.true) w.end-is | else-stage-eq-AT_END w ↦ pick_false (eqb stage at_end) 7 0 end (ne_eqb stage at_end w.if-stage-eq-AT_END.false) w.end-is ] in
    let came : before ≡ cond (eqb stage at_voltage) 19 0 =
    elim c.if-stage-eq-AT_VOLTAGE-2.branch [ then-stage-eq-AT_VOLTAGE-2 w ↦ pick_true (eqb stage at_voltage) 19 0 before (eq-eqb stage at_voltage w.if-stage-eq-AT_VOLTAGE-2.true) w.before-is | else-stage-eq-AT_VOLTAGE-2 w ↦ pick_false (eqb stage at_voltage) 19 0 before (ne_eqb stage at_voltage w.if-stage-eq-AT_VOLTAGE-2.false) w.before-is ] in
    place_is stage a.site a.tail close c.saturating_sub-head.result weather voltage end before closed headed lit said ended came a.place a.steps
