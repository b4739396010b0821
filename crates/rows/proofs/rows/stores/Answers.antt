use Prim.Native.Nat.{ℕ}
use mathlib.Core.Path.{refl, ◌∙◌}
use native.Mathlib.Omega.{arith}
use lib.ListN.{get_or}
use Rattle.unit.specs.declared.Unit.{Unit}
use Rattle.rows.specs.Rows.{no_row, unit_by, stores_by}
use Rattle.rows.proofs.RowLaws.{filling_none, filling_more, filling_all, filled_column}
use Rattle.rows.proofs.rows.stores.Goals as goal

pub loop-i-init : goal.loop-i-init
loop-i-init c = let a = c.args in filling_none (λ (k : ℕ). (unit_by (get_or a.units.now k no_row)).stored) a.stored.now

pub loop-i-preserved : goal.loop-i-preserved
loop-i-preserved c =
    let a = c.args in
    let g : ℕ → ℕ = λ (k : ℕ). (unit_by (get_or a.units.now k no_row)).stored in
    filling_more g a.stored.now c.loop-i.stored c.loop-i.i c.loop-i.invariant (omega arith) (g c.loop-i.i) refl

pub returns : goal.returns
unfolding stores_by
returns c =
    let a = c.args in
    let g : ℕ → ℕ = λ (k : ℕ). (unit_by (get_or a.units.now k no_row)).stored in
    filling_all g a.stored.now c.loop-i.stored c.loop-i.i c.loop-i.invariant (omega arith)
    ∙ filled_column (λ (u : Unit). u.stored) refl a.units.now a.stored.now c.requires
