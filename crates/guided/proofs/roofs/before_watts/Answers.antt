-- By S, or where nothing is fresh, the watts do not count for the vars requested; with these it is the inverter's own step. Assumes nothing.
use Rattle.solar.specs.Posts.{roof_by}
use Rattle.guided.proofs.RoofLaws.{requested_asks, before_in, before_step, before_kept}
use Rattle.guided.proofs.roofs.before_watts.Goals as goal
use Rattle.guided.proofs.roofs.before_watts.Goals.{After-led_inverter-led, After-requested-asked, After-step_within, Start}

pub requested-asked-requires : goal.requested-asked-requires
requested-asked-requires c =
    let a = c.args in let parts = requested_asks a.l (roof_by a.v a.bytes.now a.warm a.efficiency) a.last a.on a.s c.requires.roofed.roof_in_is c.requires.guiding in record { modest = parts.0; s_bound = parts.1 }

pub step_within-requires : goal.step_within-requires
step_within-requires c =
    let a = c.args in
    let r = roof_by a.v a.bytes.now a.warm a.efficiency in record {
      roofed = record {
        roof_in_is = before_in a.l r a.last a.on a.s c.requires.roofed.roof_in_is c.requires.guiding c.requires.after_value c.requested-asked.result c.requested-asked.ensures
            c.led_inverter-led.result c.led_inverter-led.ensures;
        warm_there = c.requires.roofed.warm_there;
        efficiency_there = c.requires.roofed.efficiency_there;
      };
      shining = c.requires.shining;
    }

pub returns : goal.returns
returns c =
    let a = c.args in
    let r = roof_by a.v a.bytes.now a.warm a.efficiency in record {
      given_value = before_step a.l r a.last a.on a.s c.requires.roofed.roof_in_is c.requires.guiding c.requires.after_value c.requested-asked.result c.requested-asked.ensures
          c.led_inverter-led.result c.led_inverter-led.ensures c.step_within.result c.step_within.ensures;
      vars_value = before_kept a.l r a.last a.on a.s c.requires.roofed.roof_in_is c.requires.guiding c.requires.after_value c.requested-asked.result c.requested-asked.ensures
          c.kept.result c.kept.type_inv c.kept.ensures;
    }
