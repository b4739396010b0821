-- The tests of a curve's bytes as the code makes them, point by point. Assumes nothing.
use mathlib.Core.Path.{◌≡◌, sym, ap, ap₂, ◌∙◌}
use mathlib.Core.Bool.{Bool, true, false, not, ◌&&◌, ◌||◌}
use mathlib.Core.List.{List}
use Prim.Native.Nat.{ℕ, ◌+◌, ◌-◌, ◌*◌, ◌≤◌, ◌<◌}
use native.Mathlib.Nat.{zero-add}
use native.Mathlib.Omega.{arith}
use lib.Dec.{eqb, leb}
use lib.Signed.{lt_z}
use borrow.Author.Tests.{eq-eqb, ne_eqb, leb-true, not-true, not-false}
use Rattle.whole.specs.Interval.{between}
use Rattle.whole.specs.Over.{all_of}
use Rattle.whole.proofs.OverLaws.{and_parts}
use Rattle.whole.proofs.ChainLaws.{all_same}
use Rattle.octets.specs.BigEndian.{be}
use Rattle.curve.specs.declared.Bounds.{Bounds}
use Rattle.curve.specs.Curve.{Point}
use Rattle.curve.specs.Ranges.{in_bounds, point_in, points_in}
use Rattle.curve.specs.Layout.{count_at, x_at, points_from, points_at, rest_in, curve_in}
use Rattle.curve.proofs.PointLaws.{point_at, from_point, points_count}

-- point 0 has none before it; any other has
pub first_rises : (i : ℕ) (t : Bool) → i ≡ 0 → true ≡ (eqb i 0 || t)
first_rises i t e = sym (ap (λ (b : Bool). b || t) (eq-eqb i 0 e))

pub next_rises : (i : ℕ) (s t : Bool) → (i ≡ 0 → ⊥) → s ≡ t → s ≡ (eqb i 0 || t)
next_rises i s t n e = e ∙ sym (ap (λ (b : Bool). b || t) (ne_eqb i 0 n))

-- a count that is tested
pub count_few : (n : ℕ) → not (between 2 16 n) ≡ false → n ≤ 16
count_few n t = leb-true n 16 (and_parts (leb 2 n) (leb n 16) (not-false (between 2 16 n) t)).1

module _ (b : Bounds) (bytes : List ℕ) (place : ℕ) where
  -- the test of point i, of n points in the bytes
  pub point_in_lem : (n i : ℕ) → i < n
      → (in_bounds b (point_at bytes place i) && (eqb i 0 || lt_z (x_at bytes place (i - 1)) (x_at bytes place i))) ≡ point_in b (points_from n 0 bytes place) i
  unfolding point_in
  point_in_lem n i l =
      let m : i - 1 < n = omega arith in
      sym (ap₂ (λ (p q : Point). in_bounds b q && (eqb i 0 || lt_z p.x q.x))
      (from_point bytes place n 0 (i - 1) m ∙ ap (point_at bytes place) (zero-add (i - 1)))
      (from_point bytes place n 0 i l ∙ ap (point_at bytes place) (zero-add i)))

  -- so each of n points is tested by its x and y
  pub each_tested : (n : ℕ) → all_of n (λ i. in_bounds b (point_at bytes place i) && (eqb i 0 || lt_z (x_at bytes place (i - 1)) (x_at bytes place i))) ≡ all_of n (point_in b (points_from n 0 bytes place))
  each_tested n = all_same n _ (point_in b (points_from n 0 bytes place)) (point_in_lem n)

  -- the whole test by the count
  points_by : points_in b (points_at bytes place) ≡ (between 2 16 (count_at bytes place) && all_of (count_at bytes place) (point_in b (points_at bytes place)))
  unfolding points_in
  points_by = ap (λ (n : ℕ). between 2 16 n && all_of n (point_in b (points_at bytes place))) (points_count bytes place)

  -- too few points, or too many
  pub points_out : (n : ℕ) → n ≡ count_at bytes place → not (between 2 16 n) ≡ true → false ≡ points_in b (points_at bytes place)
  points_out n e t =
      sym (points_by
      ∙ ap (λ (k : ℕ). between 2 16 k && all_of (count_at bytes place) (point_in b (points_at bytes place))) (sym e)
      ∙ ap (λ (s : Bool). s && all_of (count_at bytes place) (point_in b (points_at bytes place))) (not-true (between 2 16 n) t))

  -- as many as there may be
  pub points_each : (n : ℕ) → n ≡ count_at bytes place → not (between 2 16 n) ≡ false → (r : Bool) → r ≡ all_of n (point_in b (points_from n 0 bytes place))
      → r ≡ points_in b (points_at bytes place)
  unfolding points_at
  points_each n e t r h =
      h ∙ ap (λ (k : ℕ). all_of k (point_in b (points_from k 0 bytes place))) e
      ∙ sym (points_by
      ∙ ap (λ (k : ℕ). between 2 16 k && all_of (count_at bytes place) (point_in b (points_at bytes place))) (sym e)
      ∙ ap (λ (s : Bool). s && all_of (count_at bytes place) (point_in b (points_at bytes place))) (not-false (between 2 16 n) t))

  -- points that are as they must be are at most 16
  pub points_few : points_in b (points_at bytes place) ≡ true → count_at bytes place ≤ 16
  points_few t =
      let h = (and_parts (between 2 16 (count_at bytes place)) (all_of (count_at bytes place) (point_in b (points_at bytes place))) (sym points_by ∙ t)).0 in
      leb-true (count_at bytes place) 16 (and_parts (leb 2 (count_at bytes place)) (leb (count_at bytes place) 16) h).1

  -- the whole curve
  pub curve_out : points_in b (points_at bytes place) ≡ false → false ≡ curve_in b bytes place
  unfolding curve_in
  curve_out t = sym (ap (λ (s : Bool). s && rest_in bytes place) t)

  pub curve_rest : points_in b (points_at bytes place) ≡ true → (n : ℕ) → n ≡ count_at bytes place
      → (r : Bool) → r ≡ all_of (16 - n) (λ (i : ℕ). eqb (be 8 bytes (place + 1 + 8 * (n + i))) 0) → r ≡ curve_in b bytes place
  unfolding curve_in rest_in
  curve_rest t n e r h =
      h ∙ ap (λ (k : ℕ). all_of (16 - k) (λ (i : ℕ). eqb (be 8 bytes (place + 1 + 8 * (k + i))) 0)) e
      ∙ sym (ap (λ (s : Bool). s && rest_in bytes place) t)
