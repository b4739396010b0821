use mathlib.Core.Path.{◌≡◌}
use native.Mathlib.Omega.{arith}
use lib.ListN.{length}
use Rattle.roofs.proofs.LoopLaws.{none_lit, guiding, one_more, all_turned, all_kept, all_held, all_laid}
use Rattle.roofs.proofs.steps.step.Goals as goal

pub loop-i-init : goal.loop-i-init
loop-i-init c =
    none_lit (record { there = c.requires.roofs_there; held = c.requires.vars_held; modest = c.requires.modest; fits = c.requires.on_in_bounds })

pub light-g-requires-clause-guiding : goal.light-g-requires-clause-guiding
light-g-requires-clause-guiding c = guiding c.loop-i.invariant c.loop-i-test.true

pub loop-i-preserved : goal.loop-i-preserved
loop-i-preserved c =
    one_more c.loop-i.invariant c.loop-i-test.true c.light-g.result c.put_roof.new.room c.light-g.ensures.given_value c.light-g.ensures.vars_value c.put_roof.ensures

pub returns : goal.returns
returns c =
    let g = c.loop-i.invariant in
    let e : c.loop-i.i ≡ length c.args.on.now = omega arith in
    record { on_after = all_turned g e; vars_after = all_kept g e; vars_held_2 = all_held g e; room_after = all_laid g e }
