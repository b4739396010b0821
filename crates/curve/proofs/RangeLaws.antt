-- What the range test of the points gives: 2 to 16 points that rise, each within the bounds; so the curve's value lies within the bounds of y
-- anywhere. The test passes at each point, and the law of every curve does the rest. Assumes nothing.
use mathlib.Core.Path.{◌≡◌, sym, ap, ◌∙◌}
use mathlib.Core.Bool.{Bool, true, ◌&&◌, ◌||◌}
use mathlib.Core.List.{List}
use Prim.Native.Nat.{ℕ, suc, ◌-◌, ◌≤◌, ◌<◌}
use native.Mathlib.Omega.{arith}
use lib.Dec.{leb, eqb, eqb-suc-zero}
use lib.IntN.{ℤ}
use lib.ListN.{length}
use lib.Signed.{◌≤ℤ◌, le_z, lt_z}
use borrow.Author.Tests.{leb-true}
use Rattle.whole.specs.Interval.{between}
use Rattle.whole.specs.Over.{all_of}
use Rattle.whole.proofs.OverLaws.{and_parts, all_at}
use Rattle.curve.specs.declared.Bounds.{Bounds}
use Rattle.curve.specs.Curve.{Point, point_of, curve_at}
use Rattle.curve.specs.Laws.{Rising}
use Rattle.curve.specs.Ranges.{in_bounds, point_in, points_in}
use Rattle.curve.proofs.OrderLaws.{true_lt, true_le}
use Rattle.curve.proofs.CurveProved.{curve_law}

module _ (b : Bounds) (points : List Point) (passed : points_in b points ≡ true) where
  parts : (between 2 16 (length points) ≡ true) × (all_of (length points) (point_in b points) ≡ true)
  unfolding points_in
  parts = and_parts (between 2 16 (length points)) (all_of (length points) (point_in b points)) passed

  at_point : (i : ℕ) → i < length points
      → (in_bounds b (point_of points i) ≡ true) × ((eqb i 0 || lt_z (point_of points (i - 1)).x (point_of points i).x) ≡ true)
  unfolding point_in
  at_point i h =
      and_parts (in_bounds b (point_of points i)) (eqb i 0 || lt_z (point_of points (i - 1)).x (point_of points i).x)
      (all_at (length points) (point_in b points) parts.1 i h)

  -- there are 2 to 16
  pub points_some : (2 ≤ length points) × (length points ≤ 16)
  points_some =
      let p = and_parts (leb 2 (length points)) (leb (length points) 16) parts.0 in
      (leb-true 2 (length points) p.0, leb-true (length points) 16 p.1)

  -- the points that pass the range test rise
  pub points_rise : Rising points
  points_rise i h = true_lt (point_of points i).x (point_of points (suc i)).x (sym same ∙ (at_point (suc i) h).1)
    where
      less : suc i - 1 ≡ i
      less = omega arith

      same : (eqb (suc i) 0 || lt_z (point_of points (suc i - 1)).x (point_of points (suc i)).x) ≡ lt_z (point_of points i).x (point_of points (suc i)).x
      same =
          ap (λ (t : Bool). t || lt_z (point_of points (suc i - 1)).x (point_of points (suc i)).x) (eqb-suc-zero i)
          ∙ ap (λ (k : ℕ). lt_z (point_of points k).x (point_of points (suc i)).x) less

  -- and each lies within the bounds
  pub points_bounded : (i : ℕ) → i < length points
      → ((b.x_least ≤ℤ (point_of points i).x) × ((point_of points i).x ≤ℤ b.x_most))
      × ((b.y_least ≤ℤ (point_of points i).y) × ((point_of points i).y ≤ℤ b.y_most))
  points_bounded i h =
      let p = point_of points i in
      let both =
      and_parts (le_z b.x_least p.x && le_z p.x b.x_most) (le_z b.y_least p.y && le_z p.y b.y_most) (at_point i h).0 in
      (side b.x_least p.x b.x_most both.0, side b.y_least p.y b.y_most both.1)
    where
      side : (low z high : ℤ) → (le_z low z && le_z z high) ≡ true → (low ≤ℤ z) × (z ≤ℤ high)
      side low z high e = let s = and_parts (le_z low z) (le_z z high) e in (true_le low z s.0, true_le z high s.1)

  -- so a curve's value lies within the bounds of y, anywhere
  pub curve_bounded : (x : ℤ) → (b.y_least ≤ℤ curve_at points x) × (curve_at points x ≤ℤ b.y_most)
  curve_bounded x =
      (curve_law points points_rise).within (let s : (2 ≤ length points) × (length points ≤ 16) = points_some in omega arith)
      b.y_least b.y_most (λ i h. (points_bounded i h).1) x
