-- DC power is the definition's; so is what it turns on or off, and then nothing is given, or the circle's watts and vars.
use Rattle.solar.proofs.RoofLaws.{efficiency_usable}
use Rattle.solar.proofs.StepLaws.{dc_asks, dc_small, load_asks, ac_asks, vars_asks, watts_small, off_is, on_is}
use mathlib.Core.Path.{ap}
use mathlib.Core.Bool.{not}
use Rattle.solar.proofs.steps.step_within.Goals as goal
use Rattle.solar.proofs.steps.step_within.Goals.{After-ac-ac, After-dc_of-dc, After-load, After-on_after, After-share-share, After-watts-watts, Else-not-on_after, Start}

pub dc_of-dc-requires : goal.dc_of-dc-requires
dc_of-dc-requires c =
    let a = c.args in let parts = dc_asks a.v a.bytes.now a.warm a.efficiency c.requires.roofed a.s c.requires.shining in record { array_bound = parts.0; shining = parts.1.0; usable = parts.1.1.0; temperature_bound = parts.1.1.1 }

pub on_after-requires : goal.on_after-requires
on_after-requires c =
    let a = c.args in
    dc_small a.v a.bytes.now a.warm a.efficiency c.requires.roofed a.s c.requires.shining c.dc_of-dc.result c.dc_of-dc.ensures

pub returns-then-not-on_after : goal.returns-then-not-on_after
returns-then-not-on_after c =
    let a = c.args in
    off_is a.v a.bytes.now a.warm a.efficiency c.requires.roofed a.s c.requires.shining c.dc_of-dc.result c.dc_of-dc.ensures
    a.on c.on_after.result c.on_after.ensures (ap not c.if-not-on_after.true)

pub load-requires : goal.load-requires
load-requires c =
    let a = c.args in let parts = load_asks a.v a.bytes.now a.warm a.efficiency c.requires.roofed a.s c.requires.shining c.dc_of-dc.result c.dc_of-dc.ensures in record { le_kva = parts.0; dc_bound = parts.1 }

pub share-share-requires : goal.share-share-requires
share-share-requires c =
    let a = c.args in
    efficiency_usable a.v a.bytes.now a.warm a.efficiency c.requires.roofed

pub ac-ac-requires : goal.ac-ac-requires
ac-ac-requires c =
    let a = c.args in let parts = ac_asks a.v a.bytes.now a.warm a.efficiency c.requires.roofed a.s c.requires.shining c.dc_of-dc.result c.dc_of-dc.ensures
    c.load.result c.load.ensures c.share-share.result c.share-share.ensures in record { array_bound = parts.0; limit_bound = parts.1.0; efficiency_bound = parts.1.1.0; dc_bound = parts.1.1.1 }

pub vars-vars-requires : goal.vars-vars-requires
vars-vars-requires c =
    let a = c.args in
    vars_asks a.v a.bytes.now a.warm a.efficiency c.requires.roofed a.s c.requires.shining c.dc_of-dc.result c.dc_of-dc.ensures
    a.on c.on_after.result c.on_after.ensures c.load.result c.load.ensures c.share-share.result c.share-share.ensures
    c.ac-ac.result c.watts-watts.result c.ac-ac.ensures c.watts-watts.ensures

pub overflow_cast-result : goal.overflow_cast-result
overflow_cast-result c =
    let a = c.args in
    record {
      sfits = watts_small a.v a.bytes.now a.warm a.efficiency c.requires.roofed a.s c.requires.shining c.dc_of-dc.result c.dc_of-dc.ensures
          a.on c.on_after.result c.on_after.ensures c.load.result c.load.ensures c.share-share.result c.share-share.ensures
          c.ac-ac.result c.watts-watts.result c.ac-ac.ensures c.watts-watts.ensures;
    }

pub returns : goal.returns
returns c =
    let a = c.args in
    on_is a.v a.bytes.now a.warm a.efficiency c.requires.roofed a.s c.requires.shining c.dc_of-dc.result c.dc_of-dc.ensures
    a.on c.on_after.result c.on_after.ensures c.load.result c.load.ensures c.share-share.result c.share-share.ensures
    c.ac-ac.result c.watts-watts.result c.ac-ac.ensures c.watts-watts.ensures (ap not c.if-not-on_after.false) c.vars-vars.result c.vars-vars.type_inv c.vars-vars.ensures
