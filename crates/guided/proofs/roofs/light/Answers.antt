-- Without what leads it is the inverter's own step; else the vars are requested after the watts, or whatever these are. Assumes nothing.
use mathlib.Core.Path.{subst⁻¹, ap}
use Rattle.solar.specs.Posts.{roof_by}
use Rattle.guided.specs.Units.{Guiding}
use Rattle.guided.proofs.SharedLaws.{last_back}
use Rattle.guided.proofs.RoofLaws.{unled_step, unled_kept, step_read, kept_read}
use mathlib.Core.Bool.{not}
use Rattle.guided.proofs.roofs.light.Goals as goal
use Rattle.guided.proofs.roofs.light.Goals.{Start, Then-not-l}

pub returns-then-not-l : goal.returns-then-not-l
returns-then-not-l c =
    let a = c.args in
    let r = roof_by a.v a.bytes.now a.warm a.efficiency in record { given_value = unled_step a.l r a.last a.on a.s c.requires.roofed.roof_in_is c.requires.guiding (ap not c.if-not-l.true) c.step_within.result c.step_within.ensures; vars_value = unled_kept a.l r a.last a.on a.s c.requires.roofed.roof_in_is c.requires.guiding (ap not c.if-not-l.true) }

pub after_watts-requires : goal.after_watts-requires
after_watts-requires c =
    let g = c.requires.guiding in record { roofed = c.requires.roofed; shining = c.requires.shining; guiding = subst⁻¹ (Guiding c.args.l) (last_back c.args.l c.args.last g) g; after_value = c.if-l.true }

pub returns-then-l : goal.returns-then-l
returns-then-l c =
    let a = c.args in
    let r = roof_by a.v a.bytes.now a.warm a.efficiency in
    let w = c.after_watts in record { given_value = step_read a.l r a.last a.on a.s c.requires.roofed.roof_in_is c.requires.guiding w.result.given w.ensures.given_value; vars_value = kept_read a.l r a.last a.on a.s c.requires.roofed.roof_in_is c.requires.guiding w.result.vars w.ensures.vars_value }

pub before_watts-requires : goal.before_watts-requires
before_watts-requires c =
    let g = c.requires.guiding in record { roofed = c.requires.roofed; shining = c.requires.shining; guiding = subst⁻¹ (Guiding c.args.l) (last_back c.args.l c.args.last g) g; after_value = c.if-l.false }

pub returns : goal.returns
returns c =
    let a = c.args in
    let r = roof_by a.v a.bytes.now a.warm a.efficiency in
    let w = c.before_watts in record { given_value = step_read a.l r a.last a.on a.s c.requires.roofed.roof_in_is c.requires.guiding w.result.given w.ensures.given_value; vars_value = kept_read a.l r a.last a.on a.s c.requires.roofed.roof_in_is c.requires.guiding w.result.vars w.ensures.vars_value }
