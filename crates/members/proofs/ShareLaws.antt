-- Rule 6 over the units, as the loops work it out: what each unit may count on, by watts the one need that stands for all, and by current each unit's own
-- from the plain need's size. Assumes nothing.
use mathlib.Core.Path.{◌≡◌, refl, sym, ap, ◌∙◌, subst⁻¹}
use mathlib.Core.Bool.{Bool, true, false}
use mathlib.Core.List.{List}
use Prim.Native.Nat.{ℕ, ◌^◌, ◌≤◌, ◌<◌}
use native.Mathlib.Nat.{le_trans, le_of_eq}
use native.Mathlib.Omega.{arith}
use lib.Dec.{lit≤}
use lib.IntN.{ℤ, pos, nat_abs}
use lib.ListN.{length, get_or}
use lib.Signed.{mag}
use mir.Syntax.{w64}
use Rattle.whole.specs.Signed.{signed}
use Rattle.whole.proofs.SignLaws.{read}
use Rattle.unit.specs.declared.Unit.{Unit}
use Rattle.rows.specs.declared.Row.{Row}
use Rattle.rows.specs.Rows.{no_row, unit_by}
use Rattle.rows.proofs.RowLaws.{column_count}
use Rattle.rules.specs.declared.Wanted.{Wanted}
use Rattle.rules.specs.Rules.{in_watts}
use Rattle.rules.specs.Posts.{need_by}
use Rattle.rules.proofs.RuleLaws.{back64, plain_own}
use Rattle.members.specs.Posts.{Sharing, Sharable, SharableBySize, fleet_by, next_by, sized_by, own_by, shared_by}
use Rattle.members.proofs.ColumnLaws.{column_is, link_at_lem, own_at, next_at}
use Rattle.members.proofs.CallLaws.{same_need}

-- what one unit may count on: its row is there, and its values and a need that was worked out are in bounds
module _ (factor : ℕ) (w : Wanted) (weights : ℕ) (rows : List Row) (stored : List ℕ) (n : ℕ) (p : Sharing factor w weights (fleet_by rows stored) n) (i : ℕ) where
  pub row_there : i < n → i < length rows
  row_there h = omega (arith, column_count (λ (u : Unit). u.rating) rows, p.lengths.rating)

  unit_share : (need : ℤ) → nat_abs need ≤ 400000000000 → Sharable factor need weights (unit_by (get_or rows i no_row))
  unit_share need small = record {
    need_small = small;
    factor_small = p.factor_small;
    weights_small = p.weights_small;
    rating_small = le_trans (le_of_eq (sym (column_is (λ (u : Unit). u.rating) refl rows i))) (p.rating_small i);
    weight_small = le_trans (le_of_eq (sym (column_is (λ (u : Unit). u.weight) refl rows i))) (p.weight_small i);
  }

  pub may_share : (need : ℤ) → mag need < 2 ^ 63 → nat_abs need ≤ 400000000000 → Sharable factor (back64 need) weights (unit_by (get_or rows i no_row))
  may_share need ok small = unit_share (back64 need) (subst⁻¹ (λ (z : ℤ). nat_abs z ≤ 400000000000) (read w64 need ok) small)

  -- by current, from the size of the plain need
  pub may_size : (size : ℕ) → size ≤ 400000000 → 1 ≤ weights → SharableBySize factor size weights (unit_by (get_or rows i no_row))
  may_size size small some = record {
    size_small = small;
    link_small = le_trans (le_of_eq (sym (link_at_lem rows stored i))) (p.linked.link_small i);
    weights_some = some;
    unit = unit_share (pos size) (le_trans small (lit≤ tt));
  }

-- the next request of row i's unit by a need that was worked out
abbrev pub row_next : Bool → ℕ → ℤ → ℕ → List Row → List ℕ → ℕ → ℤ → ℤ
row_next charging factor need weights rows stored i r = next_by charging factor need weights (unit_by (get_or rows i no_row)) (get_or stored i 0) r

module _ (charging : Bool) (factor : ℕ) (w : Wanted) (weights : ℕ) (rows : List Row) (stored : List ℕ) (need : ℤ) where
  -- by the unit's own it is rule 6
  pub next_is : (i : ℕ) (r next : ℤ) → need ≡ own_by w (fleet_by rows stored) i → next ≡ row_next charging factor need weights rows stored i r
      → next ≡ shared_by charging factor w weights (fleet_by rows stored) i r
  next_is i r next own e = e ∙ ap (λ (z : ℤ). row_next charging factor z weights rows stored i r) own ∙ next_at charging factor w weights rows stored i r

  -- and by watts one is that of all
  pub alike_is : w.current ≡ false → need ≡ need_by w 0 → row_next charging factor need weights rows stored ≡ shared_by charging factor w weights (fleet_by rows stored)
  alike_is watts e =
      λ k i r. next_is i r (row_next charging factor need weights rows stored i r) (e ∙ sym (same_need w (fleet_by rows stored) watts i)) refl k

-- by current, where nothing is added, each unit's own need comes from the sign and the size of the plain need
abbrev pub row_sized : Bool → Bool → ℕ → ℕ → ℕ → List Row → List ℕ → ℕ → ℤ → ℤ
row_sized charging below factor size weights rows stored i r = sized_by charging below factor size weights (unit_by (get_or rows i no_row)) (get_or stored i 0) r

pub sized_is : (charging : Bool) (factor : ℕ) (w : Wanted) (weights : ℕ) (rows : List Row) (stored : List ℕ) (below : Bool) (size : ℕ)
    → w.current ≡ true → w.other ≡ false → signed below size ≡ w.plain → row_sized charging below factor size weights rows stored ≡ shared_by charging factor w weights (fleet_by rows stored)
unfolding sized_by
sized_is charging factor w weights rows stored below size current other e = λ k i r. at i r k
  where
    own : (i : ℕ) → in_watts true (unit_by (get_or rows i no_row)).link (signed below size) ≡ own_by w (fleet_by rows stored) i
    own i =
        let link = (unit_by (get_or rows i no_row)).link in
        ap (in_watts true link) e ∙ sym (plain_own w link current other) ∙ own_at w rows stored i link refl

    at : (i : ℕ) (r : ℤ) → row_sized charging below factor size weights rows stored i r ≡ shared_by charging factor w weights (fleet_by rows stored) i r
    at i r =
        next_is charging factor w weights rows stored (in_watts true (unit_by (get_or rows i no_row)).link (signed below size)) i r
        (row_sized charging below factor size weights rows stored i r) (own i) refl
