-- The code makes the definition's tests, with the floor that the row keeps.
use mathlib.Core.Path.{◌≡◌, refl, sym, ap, ◌∙◌, subst⁻¹}
use mathlib.Core.Bool.{true, false}
use Prim.Native.Nat.{ℕ}
use native.Mathlib.Omega.{arith}
use lib.ListN.{get_or}
use Rattle.unit.specs.declared.Unit.{Unit}
use Rattle.unit.specs.Ranges.{Ranged}
use Rattle.rows.specs.Rows.{no_row, unit_by, floor_by}
use Rattle.energy.specs.Limits.{removed_by}
use Rattle.storage.specs.Posts.{row_unit, floor_of}
use Rattle.storage.proofs.GivingLaws.{holding_floor, out_by, above_floor}
use Rattle.storage.proofs.giving.kind_out.Goals as goal
use Rattle.storage.proofs.giving.kind_out.Goals.{After-removed-all, Start}

abbrev unit : Start → Unit
unit s = row_unit s.args.units.now s.args.i s.args.held

-- the floor that the row keeps
abbrev floor : Start → ℕ
floor s = floor_by (get_or s.args.units.now s.args.i no_row)

floor_is : (s : Start) → floor s ≡ floor_of (unit s) s.args.seconds
floor_is s =
    let a = s.args in
    (s.requires.rested.told a.i s.requires.i_in_bounds).floor_is ∙ sym (holding_floor (unit_by (get_or a.units.now a.i no_row)) a.held a.seconds)

-- what all the watts remove
all : (r : After-removed-all) → let a = r.args in r.removed-all.result ≡ removed_by (row_unit a.units.now a.i a.held) a.seconds a.p
all r =
    let a = r.args in
    r.removed-all.ensures ∙ ap (λ (u : Unit). removed_by u a.seconds a.p) r.unit_holding.ensures

pub returns-then-p-held : goal.returns-then-p-held
returns-then-p-held c =
    let a = c.args in
    let s = (goal.at.returns-then-p-held c).Start in
    out_by (unit s) a.seconds a.p a.clear (floor s) _ _ (floor_is s) refl refl true _ c.if-p-held.true refl

pub removed-all-requires : goal.removed-all-requires
removed-all-requires c = record { ranged = subst⁻¹ (λ (u : Unit). Ranged u c.args.seconds) c.unit_holding.ensures c.requires.ranged; p_bound = c.requires.p_bound }

pub overflow_sub-held : goal.overflow_sub-held
overflow_sub-held c =
    let s = (goal.at.overflow_sub-held c).Start in
    let l = above_floor (unit s) c.args.p (floor s) c.if-p-held.false in
    omega (arith, l, floor_is s)

pub returns-then-held-units : goal.returns-then-held-units
returns-then-held-units c =
    let a = c.args in
    let s = (goal.at.returns-then-held-units c).Start in
    out_by (unit s) a.seconds a.p a.clear (floor s) _ _ (floor_is s) refl (all (goal.at.returns-then-held-units c).After-removed-all) false true c.if-p-held.false c.if-held-units.true

pub returns : goal.returns
returns c =
    let a = c.args in
    let s = (goal.at.returns c).Start in
    out_by (unit s) a.seconds a.p a.clear (floor s) _ _ (floor_is s) refl (all (goal.at.returns c).After-removed-all) false false c.if-p-held.false c.if-held-units.false
