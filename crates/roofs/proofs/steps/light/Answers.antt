-- The values are read where the inverter's field stands, and its curves lie behind it. In the dark one that is off gives nothing and has no watts, whatever
-- leads it, by `night-step` and `night-kept`.
use mathlib.Core.Path.{subst⁻¹}
use Rattle.guided.specs.Units.{Guiding}
use Rattle.guided.proofs.SharedLaws.{last_back}
use Rattle.guided.proofs.RoofLaws.{requested_asks}
use Rattle.roofs.proofs.LightLaws.{read, read_roofed, step_here, kept_here, night_step, night_kept}
use Rattle.roofs.proofs.steps.light.Goals as goal
use Rattle.roofs.proofs.steps.light.Goals.{After-inverter_at-v, After-requested-asked, Start, Then-on-s}

pub requested-asked-requires : goal.requested-asked-requires
requested-asked-requires c =
    let a = c.args in
    let b = a.bytes.now in
    let e = c.inverter_at-v.ensures in let parts = requested_asks a.l (read b a.at c.inverter_at-v.result e) a.last a.on a.s (read_roofed b a.at c.inverter_at-v.result e c.requires.roofed).roof_in_is c.requires.guiding in record { modest = parts.0; s_bound = parts.1 }

pub returns-then-on-s : goal.returns-then-on-s
returns-then-on-s c =
    let a = c.args in
    let b = a.bytes.now in
    let w = c.inverter_at-v.result in
    let e = c.inverter_at-v.ensures in
    let h = read_roofed b a.at w e c.requires.roofed in record {
      given_value = night_step b a.at w e a.l a.last c.requires.guiding a.on a.s h c.if-on-s.true;
      vars_value = night_kept b a.at w e a.l a.last c.requires.guiding a.on a.s h c.if-on-s.true c.requested-asked.result c.requested-asked.ensures c.kept.result
          c.kept.type_inv c.kept.ensures;
    }

pub light-requires : goal.light-requires
light-requires c =
    let a = c.args in
    let g = c.requires.guiding in record { roofed = read_roofed a.bytes.now a.at c.inverter_at-v.result c.inverter_at-v.ensures c.requires.roofed; shining = c.requires.shining; guiding = subst⁻¹ (Guiding a.l) (last_back a.l a.last g) g }

pub returns : goal.returns
returns c =
    let a = c.args in
    let x = c.light in record { given_value = step_here a.bytes.now a.at c.inverter_at-v.result c.inverter_at-v.ensures a.l a.last c.requires.guiding a.on a.s x.result.given x.ensures.given_value; vars_value = kept_here a.bytes.now a.at c.inverter_at-v.result c.inverter_at-v.ensures a.l a.last c.requires.guiding a.on a.s x.result.vars x.ensures.vars_value }
