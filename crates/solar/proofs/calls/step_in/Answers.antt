-- The ranges are tested, then the weather is converted; where both can be used it is the step.
use mathlib.Core.Path.{sym, ◌∙◌, ap}
use native.Mathlib.Omega.{arith}
use Rattle.solar.specs.Posts.{roof_by}
use Rattle.solar.proofs.SkyLaws.{sky_shining}
use Rattle.solar.proofs.AnswerLaws.{out_of_range, roof_passed, no_sky, clear_sky}
use mathlib.Core.Bool.{not}
use Rattle.solar.proofs.calls.step_in.Goals as goal
use Rattle.solar.proofs.calls.step_in.Goals.{After-roof_in, After-sky_of, Else-not-roof_in-on, In-Some, In_default, Start, Then-not-roof_in-on}

pub returns-then-not-roof_in-on : goal.returns-then-not-roof_in-on
returns-then-not-roof_in-on c =
    let a = c.args in
    out_of_range (roof_by a.v a.bytes.now 0 129) a.on a.w c.roof_in.result c.roof_in.ensures (ap not c.if-not-roof_in-on.true) c.refused.result c.refused.ensures

pub returns-in_default : goal.returns-in_default
returns-in_default c =
    let a = c.args in
    no_sky (roof_by a.v a.bytes.now 0 129) a.on a.w c.roof_in.result c.roof_in.ensures (ap not c.if-not-roof_in-on.false)
    c.sky_of.result c.sky_of.ensures c.in_default.is c.refused-in_default.result c.refused-in_default.ensures

pub step_within-requires : goal.step_within-requires
step_within-requires c =
    let a = c.args in record {
      roofed = record {
        roof_in_is = roof_passed (roof_by a.v a.bytes.now 0 129) a.on a.w c.roof_in.result c.roof_in.ensures (ap not c.if-not-roof_in-on.false);
        warm_there = omega arith;
        efficiency_there = omega arith;
      };
      shining = sky_shining a.w c.in-Some.s (sym c.sky_of.ensures ∙ c.in-Some.is);
    }

pub returns : goal.returns
returns c =
    let a = c.args in
    clear_sky (roof_by a.v a.bytes.now 0 129) a.on a.w c.roof_in.result c.roof_in.ensures (ap not c.if-not-roof_in-on.false) c.sky_of.result c.sky_of.ensures
    c.in-Some.s c.in-Some.is c.step_within.result c.step_within.ensures
