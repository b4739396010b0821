-- The first part of the vars, one for each unit, is lent to what starts the units, the rest, one for each inverter, to what reads their own var requests; each part is afterwards as it was left.
use mathlib.Core.Path.{◌≡◌, sym, ap, ◌∙◌, subst, subst⁻¹}
use Prim.Native.Nat.{ℕ, ◌+◌, ◌-◌}
use native.Mathlib.Omega.{arith}
use lib.ListN.{length, take}
use Rattle.roofs.specs.Roofs.{own_vars}
use Rattle.roofs.specs.Posts.{RoofsThere, VarsHeld, roofs_here}
use Rattle.fleet.specs.Step.{standing}
use Rattle.stretch.proofs.PartLaws.{first_long, then_lent, then_first, then_last}
use Rattle.stretch.proofs.halves.begin.Goals as goal
use Rattle.stretch.proofs.halves.begin.Goals.{After-own_vars, After-start, Start}

-- where the function starts, seen from where the units are started
abbrev start : After-start → Start
start v = v.before.before.before.before.before.before.before.before

-- there are vars for units and inverters, and as many are left of the units' as there are units
all_long : (v : After-start) → let a = (start v).args in length a.vars.now ≡ length a.requests.now + length a.on.now
all_long v = (start v).requires.vars_len ∙ ap (λ (k : ℕ). k + length (start v).args.on.now) (sym (start v).requires.requests_len)

left_long : (v : After-start) → length v.start.new.vars ≡ length (start v).args.requests.now
left_long v =
    let a = (start v).args in
    let n = length a.requests.now in
    let long : length (take (n - 0) a.vars.now) ≡ n = first_long n a.vars.now (omega (arith, all_long v)) in
    omega (arith, v.start.auto)

pub own_vars-requires : goal.own_vars-requires
own_vars-requires c =
    let s = start (goal.at.own_vars-requires c).After-start in
    let a = s.args in
    subst⁻¹ (RoofsThere a.site.now a.first) (then_lent (length a.requests.now) (length a.on.now) a.vars.now c.start.new.vars (left_long (goal.at.own_vars-requires c).After-start) (all_long (goal.at.own_vars-requires c).After-start)) s.requires.roofs_there

pub returns : goal.returns
returns c =
    let s = start (goal.at.returns c).After-start in
    let a = s.args in
    let es = c.start.ensures in
    let n = length a.requests.now in
    let m = length a.on.now in
    let vars = a.vars.now in
    let own = c.own_vars.new.vars in
    let ls = left_long (goal.at.returns c).After-start in
    let lr : length c.start.new.requests ≡ n = omega (arith, c.start.auto) in
    let lv = all_long (goal.at.returns c).After-start in
    let now-first = then_first n m vars c.start.new.vars own ls lv (length c.start.new.requests) lr in
    let now-last = then_last n m vars c.start.new.vars own ls lv (length c.start.new.requests) lr in
    let lent = then_lent n m vars c.start.new.vars ls lv in record { vars_after = ap (standing c.start.new.stored c.start.new.requests) now-first ∙ es; vars_after_2 = now-last ∙ c.own_vars.ensures.vars_after ∙ ap (λ (k : ℕ). own_vars (roofs_here a.site.now a.first k)) lent; vars_held = subst⁻¹ (VarsHeld m) now-last (subst (λ (k : ℕ). VarsHeld k own) lent c.own_vars.ensures.vars_held); on_after = c.turn_off.ensures }
