use native.Mathlib.Omega.{arith}
use mathlib.Core.Path.{refl}
use Rattle.unit.specs.declared.Unit.{Unit}
use Rattle.rows.proofs.RowLaws.{column_count}
use Rattle.members.specs.Posts.{column_by}
use Rattle.members.proofs.ColumnLaws.{summing_none, summing_more, summing_all, addable_upto, column_is}
use Rattle.members.proofs.sums.summed.Goals as goal
use Rattle.members.proofs.sums.summed.Goals.{At-loop-row, Start}

pub loop-row-init : goal.loop-row-init
loop-row-init c = summing_none c.args.units.now

pub overflow_add-rated : goal.overflow_add-rated
overflow_add-rated c =
    let rows = c.args.units.now in
    let i = c.loop-row.row-index in
    let add = c.requires.addable in
    omega (
      arith,
      addable_upto (column_by (λ (u : Unit). u.rated) rows) i add,
      c.loop-row.invariant.rated_is,
      add.small i,
      add.few,
      column_count (λ (u : Unit). u.rated) rows,
      column_is (λ (u : Unit). u.rated) refl rows i,
    )

pub overflow_add-reserve : goal.overflow_add-reserve
overflow_add-reserve c =
    let rows = c.args.units.now in
    let i = c.loop-row.row-index in
    let add = c.requires.addable_2 in
    omega (
      arith,
      addable_upto (column_by (λ (u : Unit). u.reserve) rows) i add,
      c.loop-row.invariant.reserve_is,
      add.small i,
      add.few,
      column_count (λ (u : Unit). u.reserve) rows,
      column_is (λ (u : Unit). u.reserve) refl rows i,
    )

pub overflow_add-weight : goal.overflow_add-weight
overflow_add-weight c =
    omega (arith, c.requires.addable.few, column_count (λ (u : Unit). u.rated) c.args.units.now)

pub loop-row-preserved : goal.loop-row-preserved
loop-row-preserved c =
    summing_more c.args.units.now c.loop-row.row-index c.loop-row.rated c.loop-row.reserve c.loop-row.weight _ _ _ c.loop-row.invariant (omega arith)
    refl refl refl (omega arith)

pub returns : goal.returns
returns c =
    summing_all c.args.units.now c.loop-row.row-index c.loop-row.rated c.loop-row.reserve c.loop-row.weight c.loop-row.invariant (omega (arith, c.loop-row.invariant.upto))
