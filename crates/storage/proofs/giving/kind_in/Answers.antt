-- The code makes the definition's tests, with the top that the row keeps.
use mathlib.Core.Path.{◌≡◌, refl, ap, ◌∙◌, subst⁻¹}
use mathlib.Core.Bool.{true, false}
use Prim.Native.Nat.{ℕ}
use native.Mathlib.Omega.{arith}
use lib.ListN.{get_or}
use borrow.Author.Tests.{lt-ltb, le-ltb, eq-eqb, ne_eqb}
use Rattle.unit.proofs.RangeLaws.{bounds}
use Rattle.unit.specs.declared.Unit.{Unit}
use Rattle.unit.specs.Ranges.{Ranged}
use Rattle.rows.specs.Rows.{no_row, top_by}
use Rattle.energy.specs.Limits.{added_by}
use Rattle.storage.specs.Posts.{row_unit, top_of}
use Rattle.storage.proofs.GivingLaws.{in_by}
use Rattle.storage.proofs.giving.kind_in.Goals as goal
use Rattle.storage.proofs.giving.kind_in.Goals.{After-added-all, Start}

abbrev unit : Start → Unit
unit s = row_unit s.args.units.now s.args.i s.args.held

-- the top that the row keeps
abbrev top : Start → ℕ
top s = top_by (get_or s.args.units.now s.args.i no_row)

top_is : (s : Start) → top s ≡ top_of (unit s) s.args.seconds
top_is s = (s.requires.rested.told s.args.i s.requires.i_in_bounds).top_is

-- what all the watts add
all : (r : After-added-all) → let a = r.args in r.added-all.result ≡ added_by (row_unit a.units.now a.i a.held) a.seconds a.p
all r =
    let a = r.args in
    r.added-all.ensures ∙ ap (λ (u : Unit). added_by u a.seconds a.p) r.unit_holding.ensures

pub returns-then-units-i : goal.returns-then-units-i
returns-then-units-i c =
    let a = c.args in
    let s = (goal.at.returns-then-units-i c).Start in
    in_by (unit s) a.seconds a.p a.clear (top s) _ _ (top_is s) refl refl true _ _ (lt-ltb (top s) a.held c.if-units-i.true) refl refl

pub added-all-requires : goal.added-all-requires
added-all-requires c = record { ranged = subst⁻¹ (λ (u : Unit). Ranged u c.args.seconds) c.unit_holding.ensures c.requires.ranged; p_bound = c.requires.p_bound }

pub returns-then-all-eq0 : goal.returns-then-all-eq0
returns-then-all-eq0 c =
    let a = c.args in
    let s = (goal.at.returns-then-all-eq0 c).Start in
    in_by (unit s) a.seconds a.p a.clear (top s) _ c.added-all.result (top_is s) refl (all (goal.at.returns-then-all-eq0 c).After-added-all) false true _
    (le-ltb (top s) a.held c.if-units-i.false) (eq-eqb c.added-all.result 0 c.if-all-eq0.true) refl

pub overflow_sub-units : goal.overflow_sub-units
overflow_sub-units c = omega (arith, (bounds c.requires.ranged).stored_most)

pub returns-then-units-i-2 : goal.returns-then-units-i-2
returns-then-units-i-2 c =
    let a = c.args in
    let s = (goal.at.returns-then-units-i-2 c).Start in
    in_by (unit s) a.seconds a.p a.clear (top s) _ c.added-all.result (top_is s) refl (all (goal.at.returns-then-units-i-2 c).After-added-all) false false true
    (le-ltb (top s) a.held c.if-units-i.false) (ne_eqb c.added-all.result 0 c.if-all-eq0.false) c.if-units-i-2.true

pub returns : goal.returns
returns c =
    let a = c.args in
    let s = (goal.at.returns c).Start in
    in_by (unit s) a.seconds a.p a.clear (top s) _ c.added-all.result (top_is s) refl (all (goal.at.returns c).After-added-all) false false false
    (le-ltb (top s) a.held c.if-units-i.false) (ne_eqb c.added-all.result 0 c.if-all-eq0.false) c.if-units-i-2.false
