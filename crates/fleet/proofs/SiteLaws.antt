-- The site of a head and of rows: its units are the rows' units, in their ranges, and what stands at first is a store, a request and vars for each.
-- Assumes nothing.
use mathlib.Core.Path.{◌≡◌, refl, sym, ap, ◌∙◌}
use mathlib.Core.Bool.{true}
use mathlib.Core.List.{List, [], ◌∷◌, map}
use Prim.Native.Nat.{ℕ, suc, ◌+◌, ◌≤◌, ◌<◌}
use native.Mathlib.Nat.{le_trans, le_of_eq}
use native.Mathlib.Omega.{arith}
use lib.IntN.{ℤ, pos, nat_abs}
use lib.ListN.{length, get_or, set, replicate, length-replicate, get_or-map}
use lib.Seq.{ext_get_or}
use Rattle.whole.specs.Over.{each_from, each}
use Rattle.whole.proofs.OverLaws.{each_length, each_at, part, part_none, part_all, part_more}
use Rattle.unit.specs.declared.Unit.{Unit}
use Rattle.unit.specs.Ranges.{unit_in, holding, Ranged}
use Rattle.rows.specs.declared.Row.{Row}
use Rattle.rows.specs.Rows.{no_row, unit_by, units_by}
use Rattle.unit.proofs.RangeLaws.{bounds}
use Rattle.rows.proofs.RowLaws.{units_count, units_at_lem, length_map}
use Rattle.site.specs.declared.Head.{Head}
use Rattle.site.specs.Site.{Site, count, no_unit, unit_of}
use Rattle.site.specs.Ranges.{Sited}
use Rattle.site.proofs.RangeLaws.{unit_ranged}
use Rattle.fleet.specs.Step.{Standing, standing, at_first}
use Rattle.fleet.specs.Posts.{Held, site_by}
use Rattle.fleet.proofs.UnitLaws.{holding_ranged}

-- ---- a unit of a site in its ranges
module _ (site : Site) (h : Sited site) where
  pub held_ranged : (i s : ℕ) → i < count site → s ≤ (unit_of site i).rated → Ranged (holding (unit_of site i) s) site.head.seconds
  held_ranged i s l w = holding_ranged (unit_of site i) s site.head.seconds (unit_ranged site h i l) w

-- ---- rows
module _ (head : Head) (rows : List Row) where
  pub rows_count : count (site_by head rows) ≡ length rows
  rows_count = units_count rows

  pub row_unit_lem : (i : ℕ) → unit_of (site_by head rows) i ≡ unit_by (get_or rows i no_row)
  row_unit_lem i = units_at_lem rows i

  pub rows_below : (i : ℕ) → i < length rows → i < count (site_by head rows)
  rows_below i l = le_trans l (le_of_eq (sym rows_count))

  pub rows_in : Sited (site_by head rows) → (i : ℕ) → i < length rows → unit_in (unit_by (get_or rows i no_row)) ≡ true
  rows_in h i l = ap unit_in (sym (row_unit_lem i)) ∙ h.units i (rows_below i l)

  pub rows_some : Sited (site_by head rows) → 1 ≤ length rows
  rows_some h = le_trans h.some (le_of_eq rows_count)

  pub rows_few : Sited (site_by head rows) → length rows ≤ 64
  rows_few h = le_trans (le_of_eq (sym rows_count)) h.few

-- ---- at first
from_zero : (k : ℕ) (rs : List ℤ) → each_from k (λ (i : ℕ) (r : ℤ). pos 0) rs ≡ replicate (length rs) (pos 0)
unfolding each_from
from_zero k [] = refl
from_zero k (r ∷ rs) = ap (λ (t : List ℤ). pos 0 ∷ t) (from_zero (suc k) rs)

pub zeros : (rs : List ℤ) (n : ℕ) → length rs ≡ n → each (λ (i : ℕ) (r : ℤ). pos 0) rs ≡ replicate n (pos 0)
unfolding each
zeros rs n e = from_zero 0 rs ∙ ap (λ (k : ℕ). replicate k (pos 0)) e

-- each unit's own vars, put one after the other
module _ (rows : List Row) (l : List ℤ) where
  abbrev own : ℕ → ℤ → ℤ
  own i v = (unit_by (get_or rows i no_row)).var_request

  pub record Owning (now : List ℤ) (i : ℕ) : Type 0 where
    pub upto : i ≤ length l
    pub is : now ≡ part own l i

  pub none_own : Owning l 0
  none_own = record { upto = omega arith; is = sym (part_none own l) }

  module _ (now : List ℤ) (i : ℕ) (g : Owning now i) where
    pub one_own : i < length l → (v : ℤ) → v ≡ (unit_by (get_or rows i no_row)).var_request → Owning (set now i v) (i + 1)
    one_own h v e = record {
      upto = omega arith;
      is = ap (λ (t : List ℤ). set t i v) g.is ∙ part_more own l i (pos 0) v h e;
    }

    pub all_own : i ≡ length l → length l ≡ length rows → now ≡ map (λ (u : Unit). u.var_request) (units_by rows)
    all_own e same =
        let vars : List ℤ = map (λ (u : Unit). u.var_request) (units_by rows) in
        g.is ∙ ap (part own l) e ∙ part_all own l
        ∙ ext_get_or (pos 0) (each own l) vars (each_length own l ∙ same ∙ sym (length_map (λ (u : Unit). u.var_request) (units_by rows) ∙ units_count rows))
        (λ k h.
        each_at own l k (pos 0) (le_trans h (le_of_eq (each_length own l)))
        ∙ sym (get_or-map (λ (u : Unit). u.var_request) (units_by rows) k no_unit ∙ ap (λ (u : Unit). u.var_request) (units_at_lem rows k)))

pub first_held : (head : Head) (rows : List Row) (stored : List ℕ) (rs vs : List ℤ) → Sited (site_by head rows) → standing stored rs vs ≡ at_first (units_by rows)
    → Held (site_by head rows) stored rs vs
unfolding at_first
first_held head rows stored rs vs h e =
    let es : stored ≡ map (λ (u : Unit). u.stored) (units_by rows) = ap (λ (st : Standing). st.stored) e in
    let er : rs ≡ replicate (length (units_by rows)) (pos 0) = ap (λ (st : Standing). st.requests) e in
    let ev : vs ≡ map (λ (u : Unit). u.var_request) (units_by rows) = ap (λ (st : Standing). st.vars) e in
    record {
      stores = ap length es ∙ length_map (λ (u : Unit). u.stored) (units_by rows);
      asks = ap length er ∙ length-replicate (length (units_by rows)) (pos 0);
      leads = ap length ev ∙ length_map (λ (u : Unit). u.var_request) (units_by rows);
      within = λ i l.
          le_trans (le_of_eq (ap (λ (t : List ℕ). get_or t i 0) es ∙ get_or-map (λ (u : Unit). u.stored) (units_by rows) i no_unit))
          (bounds (unit_ranged (site_by head rows) h i l)).stored_most;
      small = λ i l.
          le_trans (le_of_eq (ap (λ (t : List ℤ). nat_abs (get_or t i (pos 0))) ev ∙ ap nat_abs (get_or-map (λ (u : Unit). u.var_request) (units_by rows) i no_unit)))
          (bounds (unit_ranged (site_by head rows) h i l)).vars_most;
    }
