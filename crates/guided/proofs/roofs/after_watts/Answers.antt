-- Watts come first, so that they are the same with whatever vars; those requested fit beside these watts and are given whole, if the inverter is on.
-- Assumes nothing.
use Rattle.solar.specs.Posts.{roof_by}
use Rattle.guided.proofs.RoofLaws.{requested_asks, after_in, after_step, after_kept}
use Rattle.guided.proofs.roofs.after_watts.Goals as goal
use Rattle.guided.proofs.roofs.after_watts.Goals.{After-led_inverter-led, After-requested-asked, After-unsigned_abs, After-step_within-g, After-with_vars, Start}

pub step_within-g-requires : goal.step_within-g-requires
step_within-g-requires c =
    let a = c.args in
    let r = roof_by a.v a.bytes.now a.warm a.efficiency in record {
      roofed = record {
        roof_in_is = after_in a.l r a.last a.on a.s c.requires.roofed.roof_in_is c.requires.guiding c.requires.after_value c.led_inverter-led.result c.led_inverter-led.ensures;
        warm_there = c.requires.roofed.warm_there;
        efficiency_there = c.requires.roofed.efficiency_there;
      };
      shining = c.requires.shining;
    }

pub requested-asked-requires : goal.requested-asked-requires
requested-asked-requires c =
    let a = c.args in let parts = requested_asks a.l (roof_by a.v a.bytes.now a.warm a.efficiency) a.last a.on a.s c.requires.roofed.roof_in_is c.requires.guiding in record { modest = parts.0; s_bound = parts.1 }

pub returns : goal.returns
returns c =
    let a = c.args in
    let r = roof_by a.v a.bytes.now a.warm a.efficiency in record {
      given_value = after_step a.l r a.last a.on a.s c.requires.roofed.roof_in_is c.requires.guiding c.requires.after_value c.led_inverter-led.result c.led_inverter-led.ensures
          c.step_within-g.result c.step_within-g.ensures c.unsigned_abs.result c.unsigned_abs.ensures.value c.requested-asked.result c.requested-asked.ensures
          c.with_vars.result c.with_vars.ensures;
      vars_value = after_kept a.l r a.last a.on a.s c.requires.roofed.roof_in_is c.requires.guiding c.requires.after_value c.led_inverter-led.result c.led_inverter-led.ensures
          c.step_within-g.result c.step_within-g.ensures c.unsigned_abs.result c.unsigned_abs.ensures.value c.requested-asked.result c.requested-asked.ensures
          c.kept.result c.kept.type_inv c.kept.ensures;
    }
