-- By S, or where nothing is fresh, the watts do not count for the vars requested; with these it is the led unit's own step. Assumes nothing.
use mathlib.Core.Path.{ap, ◌∙◌, subst⁻¹}
use Rattle.unit.proofs.RangeLaws.{bounds}
use Rattle.unit.specs.declared.Unit.{Unit}
use Rattle.unit.specs.Ranges.{Ranged}
use Rattle.guided.specs.Units.{led_step, vars_kept}
use Rattle.guided.proofs.SharedLaws.{back}
use Rattle.guided.proofs.RowLaws.{led_from_lem}
use Rattle.guided.proofs.UnitLaws.{requested_asks, before_ranged, before_step, before_kept}
use Rattle.guided.proofs.units.before_watts.Goals as goal
use Rattle.guided.proofs.units.before_watts.Goals.{After-led_unit, After-requested-asked, After-step_led, After-unit_holding-u, Start}

-- the unit that was read is in its ranges
ranged : (w : After-unit_holding-u) → Ranged w.unit_holding-u.result w.args.seconds
ranged w = subst⁻¹ (λ (x : Unit). Ranged x w.args.seconds) w.unit_holding-u.ensures w.requires.ranged

pub requested-asked-requires : goal.requested-asked-requires
requested-asked-requires c =
    let a = c.args in let parts = requested_asks a.l c.unit_holding-u.result a.last a.seconds a.request (ranged (goal.at.requested-asked-requires c).After-unit_holding-u) c.requires.guiding c.ranges.request.sfits in record { modest = parts.0; s_bound = parts.1 }

pub step_led-requires : goal.step_led-requires
step_led-requires c =
    let a = c.args in
    let u = c.unit_holding-u in
    let v = c.led_unit in
    let b = bounds
    (before_ranged a.l u.result a.last a.seconds a.request (ranged (goal.at.step_led-requires c).After-unit_holding-u) c.requires.guiding c.ranges.request.sfits c.requires.after_value
    c.requested-asked.result c.requested-asked.ensures v.result v.ensures) in
    let from = led_from_lem a.l _ u.result v.result u.ensures (back c.requested-asked.result) v.ensures in record { i_in_bounds = c.requires.i_in_bounds; rested = c.requires.rested; ranged = c.requires.ranged; led_from = from; var_request_bound = b.vars_most; priority_bound = b.priority_most }

pub returns : goal.returns
returns c =
    let a = c.args in
    let u = c.unit_holding-u in record {
      outcome_value = before_step a.l u.result a.last a.seconds a.request (ranged (goal.at.returns c).After-unit_holding-u) c.requires.guiding c.ranges.request.sfits c.requires.after_value
          c.requested-asked.result c.requested-asked.ensures c.led_unit.result c.led_unit.ensures c.step_led.result c.step_led.ensures
          ∙ ap (λ (x : Unit). led_step a.l x a.last a.seconds a.request) u.ensures;
      vars_value = before_kept a.l u.result a.last a.seconds a.request (ranged (goal.at.returns c).After-unit_holding-u) c.requires.guiding c.ranges.request.sfits c.requires.after_value
          c.requested-asked.result c.requested-asked.ensures c.kept.result c.kept.type_inv c.kept.ensures
          ∙ ap (λ (x : Unit). vars_kept a.l x a.last a.seconds a.request) u.ensures;
    }
