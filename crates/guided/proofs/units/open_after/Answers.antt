-- Watts come first, so that the step's watts, store and loss are the same with whatever vars; those requested are then taken beside these watts. Assumes nothing.
use Rattle.guided.proofs.UnitLaws.{requested_asks, after_ranged, carried_asks, after_vars, after_step, after_kept}
use Rattle.guided.proofs.units.open_after.Goals as goal
use Rattle.guided.proofs.units.open_after.Goals.{After-carried-watts, After-kept-kept, After-led_unit, After-led_unit-2, After-requested-asked, After-unsigned_abs, After-step_within-o, After-vars-vars, Start}

pub step_within-o-requires : goal.step_within-o-requires
step_within-o-requires c =
    let a = c.args in
    after_ranged a.l a.u a.last a.seconds a.request c.requires.ranged c.requires.guiding c.ranges.request.sfits c.requires.after_value
    c.led_unit.result c.led_unit.ensures

pub carried-watts-requires : goal.carried-watts-requires
carried-watts-requires c =
    let a = c.args in let parts = carried_asks a.l a.u a.last a.seconds a.request c.requires.ranged c.requires.guiding c.ranges.request.sfits c.requires.after_value
    c.led_unit.result c.led_unit.ensures c.step_within-o.result c.step_within-o.ensures in record { watts_bound = parts.0; loss_bound = parts.1 }

pub requested-asked-requires : goal.requested-asked-requires
requested-asked-requires c =
    let a = c.args in let parts = requested_asks a.l a.u a.last a.seconds a.request c.requires.ranged c.requires.guiding c.ranges.request.sfits in record { modest = parts.0; s_bound = parts.1 }

pub vars-vars-requires : goal.vars-vars-requires
vars-vars-requires c =
    let a = c.args in
    after_vars a.l a.u a.last a.seconds a.request c.requires.ranged c.requires.guiding c.ranges.request.sfits c.requires.after_value
    c.led_unit.result c.led_unit.ensures c.step_within-o.result c.step_within-o.ensures c.carried-watts.result c.carried-watts.type_inv c.carried-watts.ensures
    c.unsigned_abs.result c.unsigned_abs.ensures.value c.requested-asked.result c.requested-asked.ensures c.led_unit-2.result c.led_unit-2.ensures

pub returns : goal.returns
returns c =
    let a = c.args in record {
      outcome_value = after_step a.l a.u a.last a.seconds a.request c.requires.ranged c.requires.guiding c.ranges.request.sfits c.requires.after_value
          c.led_unit.result c.led_unit.ensures c.step_within-o.result c.step_within-o.ensures c.carried-watts.result c.carried-watts.type_inv c.carried-watts.ensures
          c.unsigned_abs.result c.unsigned_abs.ensures.value c.requested-asked.result c.requested-asked.ensures c.led_unit-2.result c.led_unit-2.ensures
          c.vars-vars.result c.vars-vars.type_inv c.vars-vars.ensures;
      vars_value = after_kept a.l a.u a.last a.seconds a.request c.requires.ranged c.requires.guiding c.ranges.request.sfits c.requires.after_value
          c.led_unit.result c.led_unit.ensures c.step_within-o.result c.step_within-o.ensures c.carried-watts.result c.carried-watts.type_inv c.carried-watts.ensures
          c.unsigned_abs.result c.unsigned_abs.ensures.value c.requested-asked.result c.requested-asked.ensures c.kept-kept.result c.kept-kept.type_inv c.kept-kept.ensures;
    }
