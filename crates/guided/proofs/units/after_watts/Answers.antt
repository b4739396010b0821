-- With watts first the request is held at S at most, whatever the vars. Where its kind is told, that is what flows, as of the row's unit; the circle leaves a
-- known leg beside it, and of the vars led by that leg only the unit's limit cuts any. Else the step is worked out. Assumes nothing.
use mathlib.Core.Path.{ap, ◌∙◌, subst⁻¹}
use lib.ListN.{get_or}
use Rattle.unit.specs.declared.Unit.{Unit}
use Rattle.unit.specs.Ranges.{Ranged}
use Rattle.rows.specs.declared.Row.{Row}
use Rattle.rows.specs.Rows.{no_row}
use Rattle.storage.specs.Posts.{Told}
use Rattle.guided.specs.Units.{led_step, vars_kept}
use Rattle.guided.proofs.SharedLaws.{guiding_back}
use Rattle.guided.proofs.RowLaws.{first_few, first_carried, left_few, limited_fits, first_step, first_kept}
use Rattle.guided.proofs.UnitLaws.{step_read, kept_read}
use Rattle.guided.proofs.units.after_watts.Goals as goal
use Rattle.guided.proofs.units.after_watts.Goals.{After-below_zero32, After-done, After-kind_of-kind, After-min-p, After-led_unit, After-left, After-limited-size, After-part-asked, After-signed32-vars, After-unsigned_abs, After-unit_holding-u, Else-kind-eq-OPEN, Start}

abbrev row : Start → Row
row s = get_or s.args.units.now s.args.i no_row

told : (s : Start) → Told s.args.seconds (row s)
told s = s.requires.rested.told s.args.i s.requires.i_in_bounds

-- the unit that was read is in its ranges
ranged : (w : After-unit_holding-u) → Ranged w.unit_holding-u.result w.args.seconds
ranged w = subst⁻¹ (λ (x : Unit). Ranged x w.args.seconds) w.unit_holding-u.ensures w.requires.ranged

pub kind_of-kind-requires : goal.kind_of-kind-requires
kind_of-kind-requires c =
    let a = c.args in
    let few = first_few a.l (row (goal.at.kind_of-kind-requires c).Start) a.held a.seconds (told (goal.at.kind_of-kind-requires c).Start) c.requires.ranged a.last c.requires.guiding c.requires.after_value a.request c.ranges.request.sfits
    c.unit_holding-u.result c.unit_holding-u.ensures c.unsigned_abs.result c.unsigned_abs.ensures.value c.min-p.result c.min-p.ensures in record { i_in_bounds = c.requires.i_in_bounds; rested = c.requires.rested; ranged = c.requires.ranged; p_bound = few }

pub open_after-requires : goal.open_after-requires
open_after-requires c =
    let a = c.args in record { ranged = ranged (goal.at.open_after-requires c).After-unit_holding-u; guiding = guiding_back a.l a.last c.requires.guiding; after_value = c.requires.after_value }

pub returns-then-kind-eq-OPEN : goal.returns-then-kind-eq-OPEN
returns-then-kind-eq-OPEN c =
    let a = c.args in
    let u = c.unit_holding-u in
    let o = c.open_after in record {
      outcome_value = step_read a.l u.result a.last a.seconds a.request (ranged (goal.at.returns-then-kind-eq-OPEN c).After-unit_holding-u) c.requires.guiding c.ranges.request.sfits o.result.outcome o.ensures.outcome_value
          ∙ ap (λ (x : Unit). led_step a.l x a.last a.seconds a.request) u.ensures;
      vars_value = kept_read a.l u.result a.last a.seconds a.request (ranged (goal.at.returns-then-kind-eq-OPEN c).After-unit_holding-u) c.requires.guiding c.ranges.request.sfits o.result.vars o.ensures.vars_value
          ∙ ap (λ (x : Unit). vars_kept a.l x a.last a.seconds a.request) u.ensures;
    }

pub part-asked-requires : goal.part-asked-requires
part-asked-requires c =
    let a = c.args in
    let few = left_few a.l (row (goal.at.part-asked-requires c).Start) a.held a.seconds (told (goal.at.part-asked-requires c).Start) c.requires.ranged a.last c.requires.guiding c.requires.after_value a.request c.ranges.request.sfits
    c.unit_holding-u.result c.unit_holding-u.ensures c.unsigned_abs.result c.unsigned_abs.ensures.value c.min-p.result c.min-p.ensures
    _ c.kind_of-kind.result c.kind_of-kind.ensures c.if-kind-eq-OPEN.false c.left.result c.left.ensures in record { modest = c.requires.guiding.modest; base_bound = few }

pub signed32-vars-requires : goal.signed32-vars-requires
signed32-vars-requires c =
    let a = c.args in
    limited_fits a.l (row (goal.at.signed32-vars-requires c).Start) a.held a.seconds (told (goal.at.signed32-vars-requires c).Start) c.requires.ranged a.last c.requires.guiding c.requires.after_value a.request c.ranges.request.sfits
    c.unit_holding-u.result c.unit_holding-u.ensures c.unsigned_abs.result c.unsigned_abs.ensures.value c.min-p.result c.min-p.ensures
    _ c.kind_of-kind.result c.kind_of-kind.ensures c.if-kind-eq-OPEN.false c.left.result c.left.ensures c.part-asked.result c.part-asked.ensures
    c.led_unit.result c.led_unit.ensures c.limited-size.result c.limited-size.ensures c.below_zero32.result c.below_zero32.ensures

pub done-requires : goal.done-requires
done-requires c =
    let a = c.args in
    let carried = first_carried a.l (row (goal.at.done-requires c).Start) a.held a.seconds (told (goal.at.done-requires c).Start) c.requires.ranged a.last c.requires.guiding c.requires.after_value a.request c.ranges.request.sfits
    c.unit_holding-u.result c.unit_holding-u.ensures c.unsigned_abs.result c.unsigned_abs.ensures.value c.min-p.result c.min-p.ensures
    _ c.kind_of-kind.result c.kind_of-kind.ensures c.if-kind-eq-OPEN.false in record { i_in_bounds = c.requires.i_in_bounds; rested = c.requires.rested; ranged = c.requires.ranged; carried = carried }

pub returns : goal.returns
returns c =
    let a = c.args in record {
      outcome_value = first_step a.l (row (goal.at.returns c).Start) a.held a.seconds (told (goal.at.returns c).Start) c.requires.ranged a.last c.requires.guiding c.requires.after_value a.request c.ranges.request.sfits
          c.unit_holding-u.result c.unit_holding-u.ensures c.unsigned_abs.result c.unsigned_abs.ensures.value c.min-p.result c.min-p.ensures
          _ c.kind_of-kind.result c.kind_of-kind.ensures c.if-kind-eq-OPEN.false c.left.result c.left.ensures c.part-asked.result c.part-asked.ensures
          c.led_unit.result c.led_unit.ensures c.limited-size.result c.limited-size.ensures c.below_zero32.result c.below_zero32.ensures
          c.signed32-vars.result c.signed32-vars.type_inv c.signed32-vars.ensures c.done.result c.done.ensures;
      vars_value = first_kept a.l (row (goal.at.returns c).Start) a.held a.seconds (told (goal.at.returns c).Start) c.requires.ranged a.last c.requires.guiding c.requires.after_value a.request c.ranges.request.sfits
          c.unit_holding-u.result c.unit_holding-u.ensures c.unsigned_abs.result c.unsigned_abs.ensures.value c.min-p.result c.min-p.ensures
          _ c.kind_of-kind.result c.kind_of-kind.ensures c.if-kind-eq-OPEN.false c.left.result c.left.ensures c.part-asked.result c.part-asked.ensures
          c.kept.result c.kept.type_inv c.kept.ensures;
    }
