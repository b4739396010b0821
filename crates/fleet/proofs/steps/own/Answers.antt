-- The row keeps the most that a request is held at, so the smaller of that and the size of this one is what it is held at. Where its kind is told, that is what
-- flows, with the vars that the row keeps; else the step is worked out.
use mathlib.Core.Path.{◌≡◌, sym, ap, ap₂, ◌∙◌, subst⁻¹}
use native.Mathlib.Omega.{arith}
use lib.IntN.{ℤ}
use lib.ListN.{get_or}
use mir.Syntax.{w32}
use mir.Val.{to_z}
use Rattle.whole.proofs.SignLaws.{read}
use Rattle.unit.specs.declared.Unit.{Unit}
use Rattle.unit.specs.Ranges.{Ranged}
use Rattle.rows.specs.declared.Row.{Row}
use Rattle.rows.specs.Rows.{no_row, unit_by, vars_by, most_by, full_by, clear_by}
use Rattle.energy.specs.Limits.{held_size, vars_of}
use Rattle.flows.specs.Flows.{inverter_watts}
use Rattle.storage.specs.Posts.{Told, row_unit, kind_of, flow_by}
use Rattle.storage.specs.Step.{step_of}
use Rattle.storage.proofs.GivingLaws.{holding_vars, holds, held_few, step_carried, step_is, vars_idle, vars_full}
use Rattle.fleet.proofs.steps.own.Goals as goal
use Rattle.fleet.proofs.steps.own.Goals.{then-kind-eq-IDLES, else-kind-eq-IDLES, After-kind_of-kind, After-min-p, Start}

abbrev unit : Start → Unit
unit s = row_unit s.args.rows.now s.args.i s.args.held

abbrev row : Start → Row
row s = get_or s.args.rows.now s.args.i no_row

told : (s : Start) → Told s.args.seconds (row s)
told s = s.requires.rested.told s.args.i s.requires.i_in_bounds

-- what the request is held at
held : (l : After-min-p) → let a = l.args in l.min-p.result ≡ held_size (row_unit a.rows.now a.i a.held) a.request
held l =
    let a = l.args in
    let here = get_or a.rows.now a.i no_row in
    holds (unit_by here) a.held a.request l.ranges.request.sfits l.unsigned_abs.result (most_by here) l.min-p.result
    l.unsigned_abs.ensures.value (l.requires.rested.told a.i l.requires.i_in_bounds).most_is l.min-p.ensures

-- its kind
kind : (k : After-kind_of-kind) → let a = k.args in
    k.kind_of-kind.result ≡ kind_of (row_unit a.rows.now a.i a.held) a.seconds a.request k.min-p.result (clear_by (get_or a.rows.now a.i no_row))
kind k =
    let a = k.args in
    k.kind_of-kind.ensures
    ∙ ap (λ (z : ℤ). kind_of (row_unit a.rows.now a.i a.held) a.seconds z k.min-p.result (clear_by (get_or a.rows.now a.i no_row))) (read w32 a.request k.ranges.request.sfits)

pub kind_of-kind-requires : goal.kind_of-kind-requires
kind_of-kind-requires c =
    let a = c.args in
    let r = c.requires.ranged in record { i_in_bounds = c.requires.i_in_bounds; rested = c.requires.rested; ranged = r; p_bound = held_few (unit (goal.at.kind_of-kind-requires c).Start) a.seconds a.request r c.min-p.result (held (goal.at.kind_of-kind-requires c).After-min-p) }

pub step_within-requires : goal.step_within-requires
step_within-requires c =
    subst⁻¹ (λ (u : Unit). Ranged u c.args.seconds) c.unit_holding.ensures c.requires.ranged

pub returns-then-kind-eq-OPEN : goal.returns-then-kind-eq-OPEN
returns-then-kind-eq-OPEN c =
    let a = c.args in
    c.step_within.ensures ∙ ap₂ (λ (u : Unit) (z : ℤ). step_of u a.seconds z) c.unit_holding.ensures (read w32 a.request c.ranges.request.sfits)

pub done-requires : goal.done-requires
done-requires c =
    let a = c.args in
    let r = c.requires.ranged in
    let s = (goal.at.done-requires c).Start in
    let carried = step_carried (unit s) a.seconds a.request r c.min-p.result (held (goal.at.done-requires c).After-min-p) (clear_by (row s)) (told s).clear_is c.kind_of-kind.result (kind (goal.at.done-requires c).After-kind_of-kind) c.if-kind-eq-OPEN.false in record { i_in_bounds = c.requires.i_in_bounds; rested = c.requires.rested; ranged = r; carried = carried }

pub returns : goal.returns
returns c =
    let a = c.args in
    let s = (goal.at.returns c).Start in
    let r = c.requires.ranged in
    let p = c.min-p.result in
    let kept = told s in
    let h = held (goal.at.returns c).After-min-p in
    let k = kind (goal.at.returns c).After-kind_of-kind in
    -- the vars that the row keeps are those of what flows
    let vars : to_z w32 c.if-kind-eq-IDLES.vars-bits ≡ vars_of (unit s) (inverter_watts (unit s) (flow_by c.kind_of-kind.result p)) =
    elim c.if-kind-eq-IDLES.branch [
      | then-kind-eq-IDLES w ↦ w.vars-is ∙ read w32 (vars_by (row s)) (omega arith) ∙ kept.vars_is ∙ sym (holding_vars (unit_by (row s)) a.held)
          ∙ vars_idle (unit s) a.seconds a.request r p h (clear_by (row s)) kept.clear_is c.kind_of-kind.result k c.if-kind-eq-OPEN.false w.if-kind-eq-IDLES.true
      | else-kind-eq-IDLES w ↦ w.vars-is ∙ read w32 (full_by (row s)) (omega arith) ∙ kept.full_is
          ∙ vars_full (unit s) a.seconds a.request r p h (clear_by (row s)) kept.clear_is c.kind_of-kind.result k c.if-kind-eq-OPEN.false w.if-kind-eq-IDLES.false
    ] in
    step_is (unit s) a.seconds a.request r p h (clear_by (row s)) kept.clear_is c.kind_of-kind.result k c.if-kind-eq-OPEN.false
    (to_z w32 c.if-kind-eq-IDLES.vars-bits) vars c.done.result c.done.ensures
