-- A roof in its ranges, as plain bounds on numbers, and its curves as the code reads them: what every later proof counts on. Assumes nothing.
use mathlib.Core.Path.{◌≡◌, subst}
use mathlib.Core.Bool.{true, ◌&&◌}
use mathlib.Core.List.{List}
use Prim.Native.Nat.{ℕ, ◌+◌, ◌≤◌, ◌<◌}
use native.Mathlib.Nat.{le_trans}
use native.Mathlib.Omega.{arith}
use lib.Dec.{leb, lit≤}
use lib.IntN.{ℤ, nat_abs}
use lib.ListN.{length}
use lib.Signed.{◌≤ℤ◌}
use borrow.Author.Tests.{leb-true}
use Rattle.whole.specs.Interval.{between}
use Rattle.whole.proofs.OverLaws.{and_parts}
use Rattle.curve.specs.declared.Bounds.{Bounds}
use Rattle.curve.specs.Curve.{Point, point_of, curve_at}
use Rattle.curve.specs.Ranges.{points_in}
use Rattle.curve.specs.Layout.{curve_bytes, count_at, points_at}
use Rattle.curve.specs.Posts.{Usable}
use Rattle.curve.proofs.OrderLaws.{size_up, size_within}
use Rattle.curve.proofs.PointLaws.{points_count, points_point}
use Rattle.curve.proofs.RangeLaws.{points_some, points_bounded, curve_bounded}
use Rattle.solar.specs.declared.Inverter.{Inverter}
use Rattle.solar.specs.Roof.{Roof, inverter_in, warm_bounds, efficiency_bounds, roof_in}
use Rattle.solar.specs.Posts.{roof_by, Roofed}

-- ---- a curve whose bounds are no larger than 10^8 can be read
usable : (b : Bounds) (bytes : List ℕ) (place : ℕ) → place + curve_bytes ≤ length bytes → points_in b (points_at bytes place) ≡ true
    → ((z : ℤ) → b.x_least ≤ℤ z → z ≤ℤ b.x_most → nat_abs z ≤ 100000000)
    → ((z : ℤ) → b.y_least ≤ℤ z → z ≤ℤ b.y_most → nat_abs z ≤ 100000000)
    → Usable bytes place
usable b bytes place there passed hx hy =
    let s : (2 ≤ length points) × (length points ≤ 16) = points_some b points passed in
    record {
      there = there;
      some = omega (arith, count);
      few = omega (arith, count);
      x_small = λ i h. subst (λ (p : Point). nat_abs p.x ≤ 100000000) (points_point bytes place i h) (hx (point_of points i).x (at i h).0.0 (at i h).0.1);
      y_small = λ i h. subst (λ (p : Point). nat_abs p.y ≤ 100000000) (points_point bytes place i h) (hy (point_of points i).y (at i h).1.0 (at i h).1.1);
    }
  where
    points : List Point
    points = points_at bytes place

    count : length points ≡ count_at bytes place
    count = points_count bytes place

    at : (i : ℕ) → i < count_at bytes place
        → ((b.x_least ≤ℤ (point_of points i).x) × ((point_of points i).x ≤ℤ b.x_most))
        × ((b.y_least ≤ℤ (point_of points i).y) × ((point_of points i).y ≤ℤ b.y_most))
    at i h = let e : length points ≡ count_at bytes place = count in points_bounded b points passed i (omega arith)

-- ---- the bounds
pub record Ranged (r : Roof) : Type 0 where
  pub array_most : r.inverter.array ≤ 100000000
  pub kva_least : 1 ≤ r.inverter.kva
  pub kva_most : r.inverter.kva ≤ 100000000
  pub limit_most : r.inverter.limit ≤ 10000
  pub vars_most : nat_abs r.inverter.var_request ≤ 100000000
  pub factor_most : (x : ℤ) → nat_abs (curve_at r.warm x) ≤ 20000
  pub efficiency_most : (x : ℤ) → nat_abs (curve_at r.efficiency x) ≤ 10000

within : (low high x : ℕ) → between low high x ≡ true → (low ≤ x) × (x ≤ high)
within low high x e = let p = and_parts (leb low x) (leb x high) e in (leb-true low x p.0, leb-true x high p.1)

module _ (r : Roof) (passed : roof_in r ≡ true) where
  abbrev Parts : Type 0
  Parts = (inverter_in r.inverter ≡ true) × (points_in warm_bounds r.warm ≡ true) × (points_in efficiency_bounds r.efficiency ≡ true)

  parts : Parts
  unfolding roof_in
  parts =
      let e = and_parts (inverter_in r.inverter && points_in warm_bounds r.warm) (points_in efficiency_bounds r.efficiency) passed in
      let w = and_parts (inverter_in r.inverter) (points_in warm_bounds r.warm) e.0 in
      (w.0, w.1, e.1)

  pub ranged : Ranged r
  unfolding inverter_in
  ranged =
      let v = r.inverter in
      let priority = and_parts _ _ parts.0 in
      let vars = and_parts _ _ priority.0 in
      let limit = and_parts _ _ vars.0 in
      let out = and_parts _ _ limit.0 in
      let into = and_parts _ _ out.0 in
      let kva = and_parts _ _ into.0 in
      let kva-in = within 1 100000000 v.kva kva.1 in
      record {
        array_most = (within 1 100000000 v.array kva.0).1;
        kva_least = kva-in.0;
        kva_most = kva-in.1;
        limit_most = leb-true _ _ limit.1;
        vars_most = leb-true _ _ vars.1;
        factor_most = λ x. let b = curve_bounded warm_bounds r.warm parts.1 x in size_up 20000 (curve_at r.warm x) b.0 b.1;
        efficiency_most = λ x. let b = curve_bounded efficiency_bounds r.efficiency parts.2 x in size_up 10000 (curve_at r.efficiency x) b.0 b.1;
      }

module _ (v : Inverter) (bytes : List ℕ) (warm efficiency : ℕ) (h : Roofed v bytes warm efficiency) where
  pub warm_usable : Usable bytes warm
  warm_usable =
      usable warm_bounds bytes warm h.warm_there (parts (roof_by v bytes warm efficiency) h.roof_in_is).1
      (λ z low high. size_within 99999999 z low high)
      (λ z low high. le_trans (size_up 20000 z low high) (lit≤ tt))

  pub efficiency_usable : Usable bytes efficiency
  efficiency_usable =
      usable efficiency_bounds bytes efficiency h.efficiency_there (parts (roof_by v bytes warm efficiency) h.roof_in_is).2
      (λ z low high. size_up 100000000 z low high)
      (λ z low high. le_trans (size_up 10000 z low high) (lit≤ tt))
