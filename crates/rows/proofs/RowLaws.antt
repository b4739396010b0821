-- Rows and their units, one by one, and a list that a loop fills. Assumes nothing.
use mathlib.Core.Path.{◌≡◌, refl, sym, ap, ◌∙◌}
use mathlib.Core.List.{List, [], ◌∷◌, map}
use Prim.Native.Nat.{ℕ, zero, suc, ◌+◌, ◌≤◌, ◌<◌}
use native.Mathlib.Nat.{le_trans, le_of_eq}
use native.Mathlib.Omega.{arith}
use lib.ListN.{length, get_or, set}
use lib.Seq.{ext_get_or}
use Rattle.whole.specs.Over.{each}
use Rattle.whole.proofs.OverLaws.{each_length, each_at, part, part_none, part_all, part_length, part_more}
use Rattle.unit.specs.declared.Unit.{Unit}
use Rattle.rows.specs.declared.Row.{Row}
use Rattle.rows.specs.Rows.{no_row, unit_by, units_by}

at_map {ℓ} : {A B : Type ℓ} (f : A → B) (l : List A) (i : ℕ) (a : A) → get_or (map f l) i (f a) ≡ f (get_or l i a)
at_map f [] i a = refl
at_map f (x ∷ xs) zero a = refl
at_map f (x ∷ xs) (suc i) a = at_map f xs i a

pub length_map {ℓ} : {A B : Type ℓ} (f : A → B) (l : List A) → length (map f l) ≡ length l
length_map f [] = refl
length_map f (x ∷ xs) = ap suc (length_map f xs)

-- past the rows there is a unit of no values
pub units_count : (rows : List Row) → length (units_by rows) ≡ length rows
unfolding units_by
units_count rows = length_map unit_by rows

pub units_at_lem : (rows : List Row) (i : ℕ) → get_or (units_by rows) i (unit_by no_row) ≡ unit_by (get_or rows i no_row)
unfolding units_by
units_at_lem rows i = at_map unit_by rows i no_row

-- one value of every unit
pub column_count : (value : Unit → ℕ) (rows : List Row) → length (map value (units_by rows)) ≡ length rows
column_count value rows = length_map value (units_by rows) ∙ units_count rows

pub column_at : (value : Unit → ℕ) (rows : List Row) (i : ℕ) → get_or (map value (units_by rows)) i (value (unit_by no_row)) ≡ value (unit_by (get_or rows i no_row))
column_at value rows i = at_map value (units_by rows) i (unit_by no_row) ∙ ap value (units_at_lem rows i)

-- a list filled with a value of each unit is that column
pub filled_column : (value : Unit → ℕ) → value (unit_by no_row) ≡ 0 → (rows : List Row) (l : List ℕ) → length l ≡ length rows
    → each (λ (i : ℕ) (_ : ℕ). value (unit_by (get_or rows i no_row))) l ≡ map value (units_by rows)
filled_column value none rows l e =
    let f : ℕ → ℕ → ℕ = λ (i : ℕ) (_ : ℕ). value (unit_by (get_or rows i no_row)) in
    ext_get_or 0 (each f l) (map value (units_by rows)) (each_length f l ∙ e ∙ sym (column_count value rows))
    (λ i h.
    each_at f l i 0 (le_trans h (le_of_eq (each_length f l))) ∙ sym (column_at value rows i)
    ∙ ap (get_or (map value (units_by rows)) i) none)

-- ---- a loop that fills a list by the place alone
pub record Filling (g : ℕ → ℕ) (l now : List ℕ) (i : ℕ) : Type 0 where
  pub upto : i ≤ length l
  pub is : now ≡ part (λ (j : ℕ) (_ : ℕ). g j) l i

module _ (g : ℕ → ℕ) (l : List ℕ) where
  pub filling_none : Filling g l l 0
  filling_none = record { upto = omega arith; is = sym (part_none (λ (j : ℕ) (_ : ℕ). g j) l) }

  module _ (now : List ℕ) (i : ℕ) (w : Filling g l now i) where
    pub filling_length : length now ≡ length l
    filling_length = ap length w.is ∙ part_length (λ (j : ℕ) (_ : ℕ). g j) l i w.upto

    pub filling_more : i < length l → (v : ℕ) → v ≡ g i → Filling g l (set now i v) (i + 1)
    filling_more h v e = record {
      upto = omega arith;
      is = ap (λ (t : List ℕ). set t i v) w.is ∙ part_more (λ (j : ℕ) (_ : ℕ). g j) l i 0 v h e;
    }

    pub filling_all : i ≡ length l → now ≡ each (λ (j : ℕ) (_ : ℕ). g j) l
    filling_all e = w.is ∙ ap (part (λ (j : ℕ) (_ : ℕ). g j) l) e ∙ part_all (λ (j : ℕ) (_ : ℕ). g j) l
