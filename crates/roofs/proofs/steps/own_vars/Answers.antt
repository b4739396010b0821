use mathlib.Core.Path.{◌≡◌, sym, ap, ◌∙◌, subst⁻¹}
use mathlib.Core.List.{List}
use Prim.Native.Nat.{◌<◌}
use native.Mathlib.Omega.{arith}
use lib.IntN.{ℤ, pos}
use lib.ListN.{length, set}
use Rattle.whole.proofs.OverLaws.{part_none, part_more}
use Rattle.solar.specs.declared.Inverter.{Inverter}
use Rattle.solar.specs.Roof.{Roof}
use Rattle.solar.proofs.RoofLaws.{ranged}
use Rattle.guided.proofs.SharedLaws.{back, small_same}
use Rattle.site.specs.Site.{roof_of}
use Rattle.roofs.specs.Posts.{roof_here, roofs_here, VarsHeld}
use Rattle.roofs.proofs.VarsLaws.{own, all_own, own_held}
use Rattle.roofs.proofs.LoopLaws.{here_count, here_at, there_in}
use Rattle.roofs.proofs.steps.own_vars.Goals as goal
use Rattle.roofs.proofs.steps.own_vars.Goals.{Start}

-- the roofs that are there
abbrev roofs : Start → List Roof
roofs s = roofs_here s.args.bytes.now s.args.first (length s.args.vars.now)

pub loop-i-init : goal.loop-i-init
loop-i-init c = (omega arith, sym (part_none (own (roofs (goal.at.loop-i-init c).Start)) c.args.vars.now))

pub loop-i-preserved : goal.loop-i-preserved
unfolding roof_here
loop-i-preserved c =
    let s = (goal.at.loop-i-preserved c).Start in
    let a = c.args in
    let i = c.loop-i.i in
    let n = length a.vars.now in
    let h : i < n = omega arith in
    let r = roof_of (roofs s) i in
    let x = back c.inverter_at-v.result.var_request in
    let is : x ≡ r.inverter.var_request =
    ap (λ (u : Inverter). back u.var_request) c.inverter_at-v.ensures
    ∙ ap (λ (u : Roof). back u.inverter.var_request) (sym (here_at n a.bytes.now a.first i h))
    ∙ small_same r.inverter.var_request (ranged r (there_in a.bytes.now a.first n c.requires i h)).vars_most in
    (omega arith, ap (λ (t : List ℤ). set t i x) c.loop-i.invariant.1 ∙ part_more (own (roofs s)) a.vars.now i (pos 0) x h is)

pub returns : goal.returns
returns c =
    let s = (goal.at.returns c).Start in
    let a = c.args in
    let n = length a.vars.now in
    let count : length (roofs s) ≡ n = here_count n a.bytes.now a.first in
    let is = all_own (roofs s) a.vars.now c.loop-i.vars c.loop-i.i c.loop-i.invariant.1 (omega arith) (sym count) in
    record { vars_after = is; vars_held = subst⁻¹ (VarsHeld n) is (own_held (roofs s) n (there_in a.bytes.now a.first n c.requires) count) }
