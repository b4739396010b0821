-- A fleet in rows: its columns, place by place, rows that are filled from lists, and the sums over columns. Assumes nothing.
use mathlib.Core.Path.{◌≡◌, refl, sym, ap, ap₂, ◌∙◌, subst, subst⁻¹}
use mathlib.Core.Bool.{Bool, true, false}
use mathlib.Core.List.{List}
use Prim.Native.Nat.{ℕ, ◌+◌, ◌*◌, ◌≤◌, ◌<◌}
use native.Mathlib.Nat.{le_trans, le_of_eq}
use native.Mathlib.Omega.{arith}
use lib.Dec.{eqb}
use lib.ListN.{length, get_or, set, length-set}
use lib.Seq.{ext_get_or, get_or-set_same, get_or-set_other}
use borrow.Author.Tests.{eqb-true, eqb-false}
use lib.IntN.{ℤ}
use Rattle.whole.specs.Over.{sum_of, each}
use Rattle.whole.proofs.OverLaws.{sum_next, sum_upto, each_length, each_at}
use Rattle.unit.specs.declared.Unit.{Unit}
use Rattle.unit.specs.Ranges.{link_of}
use Rattle.rows.specs.declared.Row.{Row}
use Rattle.rows.specs.Rows.{no_row, unit_by}
use Rattle.rows.proofs.RowLaws.{column_at, column_count}
use Rattle.rules.specs.declared.Wanted.{Wanted}
use Rattle.rules.specs.Posts.{need_by}
use Rattle.members.specs.Ranges.{Fleet, fleet_linked, links_of}
use Rattle.members.specs.Sums.{total}
use Rattle.members.specs.Posts.{SameLengths, MemberRow, TotalsOf, Addable, fleet_by, column_by, next_by, own_by, shared_by}

-- past its end a column has 0
pub column_is : (value : Unit → ℕ) → value (unit_by no_row) ≡ 0 → (rows : List Row) (i : ℕ) → get_or (column_by value rows) i 0 ≡ value (unit_by (get_or rows i no_row))
column_is value none rows i = ap (get_or (column_by value rows) i) (sym none) ∙ column_at value rows i

-- a unit's link, its own need and its next request are those of its row
pub link_at_lem : (rows : List Row) (stored : List ℕ) (i : ℕ) → get_or (fleet_by rows stored).link i 0 ≡ (unit_by (get_or rows i no_row)).link
link_at_lem rows stored i = column_is (λ (u : Unit). u.link) refl rows i

pub own_at : (w : Wanted) (rows : List Row) (stored : List ℕ) (i link : ℕ) → link ≡ (unit_by (get_or rows i no_row)).link → need_by w link ≡ own_by w (fleet_by rows stored) i
unfolding own_by
own_at w rows stored i link e = ap (need_by w) (e ∙ sym (link_at_lem rows stored i))

pub next_at : (charging : Bool) (factor : ℕ) (w : Wanted) (weights : ℕ) (rows : List Row) (stored : List ℕ) (i : ℕ) (r : ℤ)
    → next_by charging factor (own_by w (fleet_by rows stored) i) weights (unit_by (get_or rows i no_row)) (get_or stored i 0) r ≡ shared_by charging factor w weights (fleet_by rows stored) i r
unfolding next_by shared_by
next_at charging factor w weights rows stored i r =
    rw (column_is (λ (u : Unit). u.rated) refl rows i, column_is (λ (u : Unit). u.reserve) refl rows i, column_is (λ (u : Unit). u.rating) refl rows i, column_is (λ (u : Unit). u.weight) refl rows i)

-- a column that has a list's values is that list
pub column_list : (value : Unit → ℕ) → value (unit_by no_row) ≡ 0 → (rows : List Row) (l : List ℕ) → length l ≡ length rows
    → ((i : ℕ) → i < length rows → value (unit_by (get_or rows i no_row)) ≡ get_or l i 0) → column_by value rows ≡ l
column_list value none rows l e h =
    ext_get_or 0 (column_by value rows) l (column_count value rows ∙ sym e)
    (λ i k. column_is value none rows i ∙ h i (le_trans k (le_of_eq (column_count value rows))))

-- ---- rows, of which the first i are filled from a fleet's lists
abbrev pub RowAt : Fleet → ℕ → Row → Type 0
RowAt f j row = MemberRow (get_or f.rated j 0) (get_or f.reserve j 0) (get_or f.rating j 0) (get_or f.weight j 0) (get_or f.link j 0) row

pub record Filled (f : Fleet) (n : ℕ) (rows : List Row) (i : ℕ) : Type 0 where
  pub upto : i ≤ n
  pub count : length rows ≡ n
  pub members : (j : ℕ) → j < i → RowAt f j (get_or rows j no_row)

pub filled_none : (f : Fleet) (rows : List Row) → Filled f (length rows) rows 0
filled_none f rows = record { upto = omega arith; count = refl; members = λ j h. absurd (omega arith) }

module _ (f : Fleet) (n : ℕ) (rows : List Row) (i : ℕ) (w : Filled f n rows i) where
  pub filled_more : i < n → (row : Row) → RowAt f i row → Filled f n (set rows i row) (i + 1)
  filled_more h row m = record {
    upto = omega arith;
    count = length-set rows i row ∙ w.count;
    members = λ j l. go j l (eqb i j) refl;
  }
    where
      below : (j : ℕ) → j < i + 1 → (i ≡ j → ⊥) → j < i
      below j l other = omega arith

      go : (j : ℕ) → j < i + 1 → (t : Bool) → eqb i j ≡ t → RowAt f j (get_or (set rows i row) j no_row)
      go j l true e =
          subst (λ (k : ℕ). RowAt f k (get_or (set rows i row) k no_row)) (eqb-true i j e)
          (subst⁻¹ (RowAt f i) (get_or-set_same rows i row no_row (omega (arith, w.count))) m)
      go j l false e =
          let other : i ≡ j → ⊥ = eqb-false i j e in
          subst⁻¹ (RowAt f j) (get_or-set_other rows i j row no_row (λ p. other (sym p))) (w.members j (below j l other))

  -- all of them: the rows are the fleet
  pub filled_all : i ≡ n → SameLengths f n → fleet_by rows f.stored ≡ f
  filled_all e same =
      let at : (j : ℕ) → j < length rows → RowAt f j (get_or rows j no_row) = λ j l. w.members j (omega (arith, w.count)) in
      let rated = column_list (λ (u : Unit). u.rated) refl rows f.rated (same.rated ∙ sym w.count) (λ j l. (at j l).rated_is) in
      let reserve = column_list (λ (u : Unit). u.reserve) refl rows f.reserve (same.reserve ∙ sym w.count) (λ j l. (at j l).reserve_is) in
      let rating = column_list (λ (u : Unit). u.rating) refl rows f.rating (same.rating ∙ sym w.count) (λ j l. (at j l).rating_is) in
      let weight = column_list (λ (u : Unit). u.weight) refl rows f.weight (same.weight ∙ sym w.count) (λ j l. (at j l).weight_is) in
      let link = column_list (λ (u : Unit). u.link) refl rows f.link (same.link ∙ sym w.count) (λ j l. (at j l).link_is) in
      λ k. fleet_linked (rated k) (reserve k) f.stored (rating k) (weight k) (link k)

-- ---- a list that is filled with the units' links
abbrev pub link_at : List ℕ → List ℕ → ℕ → ℕ
link_at phases volts i = get_or phases i 0 * get_or volts i 0

pub links_are : (phases volts l : List ℕ) → length phases ≡ length l → each (λ (i : ℕ) (_ : ℕ). link_at phases volts i) l ≡ links_of phases volts
unfolding links_of
links_are phases volts l e =
    let f : ℕ → ℕ → ℕ = λ (i : ℕ) (_ : ℕ). link_at phases volts i in
    let g : ℕ → ℕ → ℕ = λ (i p : ℕ). link_of p (get_or volts i 0) in
    ext_get_or 0 (each f l) (each g phases) (each_length f l ∙ sym e ∙ sym (each_length g phases))
    (λ i h. let k : i < length l = omega (arith, each_length f l) in each_at f l i 0 k ∙ sym (each_at g phases i 0 (omega arith)))

-- ---- the three sums over the first i rows
pub record Summing (rows : List Row) (i rated reserve weight : ℕ) : Type 0 where
  pub upto : i ≤ length rows
  pub rated_is : rated ≡ total i (column_by (λ (u : Unit). u.rated) rows)
  pub reserve_is : reserve ≡ total i (column_by (λ (u : Unit). u.reserve) rows)
  pub weight_is : weight ≡ total i (column_by (λ (u : Unit). u.weight) rows)
  pub weight_small : weight ≤ i * 65535

-- one place more
column_next : (value : Unit → ℕ) → value (unit_by no_row) ≡ 0 → (rows : List Row) (i sum x : ℕ) → sum ≡ total i (column_by value rows) → x ≡ value (unit_by (get_or rows i no_row))
    → sum + x ≡ total (i + 1) (column_by value rows)
column_next value none rows i sum x es ex =
    ap₂ ◌+◌ es (ex ∙ sym (column_is value none rows i)) ∙ sym (sum_next i (λ (k : ℕ). get_or (column_by value rows) k 0))

pub summing_none : (rows : List Row) → Summing rows 0 0 0 0
unfolding sum_of
summing_none rows = record { upto = omega arith; rated_is = refl; reserve_is = refl; weight_is = refl; weight_small = omega arith }

pub summing_more : (rows : List Row) (i a b c x y z : ℕ) → Summing rows i a b c → i < length rows
    → x ≡ (unit_by (get_or rows i no_row)).rated → y ≡ (unit_by (get_or rows i no_row)).reserve → z ≡ (unit_by (get_or rows i no_row)).weight → z ≤ 65535
    → Summing rows (i + 1) (a + x) (b + y) (c + z)
summing_more rows i a b c x y z w h ex ey ez few = record {
  upto = omega arith;
  rated_is = column_next (λ (u : Unit). u.rated) refl rows i a x w.rated_is ex;
  reserve_is = column_next (λ (u : Unit). u.reserve) refl rows i b y w.reserve_is ey;
  weight_is = column_next (λ (u : Unit). u.weight) refl rows i c z w.weight_is ez;
  weight_small = omega (arith, w.weight_small);
}

pub summing_all : (rows : List Row) (i a b c : ℕ) → Summing rows i a b c → i ≡ length rows → TotalsOf rows (record { rated = a; reserve = b; weight = c })
summing_all rows i a b c w e = record {
  rated = w.rated_is ∙ ap (λ (n : ℕ). total n (column_by (λ (u : Unit). u.rated) rows)) e;
  reserve = w.reserve_is ∙ ap (λ (n : ℕ). total n (column_by (λ (u : Unit). u.reserve) rows)) e;
  weight = w.weight_is ∙ ap (λ (n : ℕ). total n (column_by (λ (u : Unit). u.weight) rows)) e;
}

-- none of them comes near the end of its type
pub addable_upto : (xs : List ℕ) (i : ℕ) → Addable xs → total i xs ≤ i * 10000000000000
addable_upto xs i h = sum_upto i 10000000000000 (λ (k : ℕ). get_or xs k 0) (λ k l. h.small k)
