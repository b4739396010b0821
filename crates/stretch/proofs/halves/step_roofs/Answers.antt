-- The last part of the vars is as long as the list of what is on; it is lent to the step of the inverters, and what stands before it is as it was.
use mathlib.Core.Path.{ap, ◌∙◌, subst⁻¹}
use mathlib.Core.List.{List}
use Prim.Native.Nat.{◌-◌, ◌≤◌}
use native.Mathlib.Omega.{arith}
use lib.IntN.{ℤ}
use lib.ListN.{length}
use Rattle.octets.specs.BigEndian.{laid}
use Rattle.roofs.specs.Roofs.{on_after, vars_after, roofs_by}
use Rattle.roofs.specs.Posts.{VarsHeld, roofs_here}
use Rattle.stretch.proofs.PartLaws.{last_lent, last_part, last_rest}
use Rattle.stretch.proofs.halves.step_roofs.Goals as goal
use Rattle.stretch.proofs.halves.step_roofs.Goals.{After-shared_slice_known-1, After-step}

pub step-requires : goal.step-requires
step-requires c =
    let a = c.args in record { roofs_there = c.requires.roofs_there; vars_held = subst⁻¹ (VarsHeld (length a.on.now)) (last_lent (length a.vars.now - length a.on.now) a.vars.now) c.requires.vars_held; shining = c.requires.shining; modest = c.requires.modest; on_in_bounds = c.requires.on_in_bounds_2 }

pub returns : goal.returns
returns c =
    let a = c.args in
    let roofs = roofs_here a.site.now a.first (length a.on.now) in
    let vars = a.vars.now in
    let n = length vars - length a.on.now in
    let upto : n ≤ length vars = omega arith in
    let kept = last_part n vars c.step.new.vars upto in
    let lent = last_lent n vars in record { on_after = c.step.ensures.on_after ∙ ap (on_after roofs a.m.lead a.sun a.on.now) lent; vars_unchanged = last_rest n vars c.step.new.vars upto; vars_after = kept ∙ c.step.ensures.vars_after ∙ ap (vars_after roofs a.m.lead a.sun a.on.now) lent; vars_held_2 = subst⁻¹ (VarsHeld (length a.on.now)) kept c.step.ensures.vars_held_2; room_after = c.step.ensures.room_after ∙ ap (λ (vs : List ℤ). laid a.room.now a.m.at (roofs_by roofs a.m.lead a.m.step a.sun a.on.now vs)) lent }
