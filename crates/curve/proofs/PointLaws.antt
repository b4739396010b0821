-- The points that lie in the bytes: how many they are, and which. Assumes nothing.
use mathlib.Core.Path.{◌≡◌, refl, sym, ap, ◌∙◌}
use mathlib.Core.List.{List}
use Prim.Native.Nat.{ℕ, zero, suc, ◌+◌, ◌<◌}
use native.Mathlib.Nat.{zero-add, add-zero, add-suc, suc-add, not-suc-le-zero, le_of_suc-le-suc}
use lib.ListN.{length}
use Rattle.curve.specs.Curve.{Point, point, point_of}
use Rattle.curve.specs.Layout.{count_at, x_at, y_at, points_from, points_at}

module _ (bytes : List ℕ) (place : ℕ) where
  -- point i of the bytes
  abbrev pub point_at : ℕ → Point
  point_at i = point (x_at bytes place i) (y_at bytes place i)

  -- n points are n points
  pub from_count : (n k : ℕ) → length (points_from n k bytes place) ≡ n
  unfolding points_from
  from_count zero k = refl
  from_count (suc n) k = ap suc (from_count n (suc k))

  -- and the one at i is that of the bytes
  pub from_point : (n k i : ℕ) → i < n → point_of (points_from n k bytes place) i ≡ point_at (k + i)
  unfolding points_from
  from_point zero k i h = absurd (not-suc-le-zero h)
  from_point (suc n) k zero h = ap point_at (sym (add-zero k))
  from_point (suc n) k (suc i) h = from_point n (suc k) i (le_of_suc-le-suc h) ∙ ap point_at (suc-add k i ∙ sym (add-suc k i))

  -- so it is with all of them
  pub points_count : length (points_at bytes place) ≡ count_at bytes place
  unfolding points_at
  points_count = from_count (count_at bytes place) 0

  pub points_point : (i : ℕ) → i < count_at bytes place → point_of (points_at bytes place) i ≡ point_at i
  unfolding points_at
  points_point i h = from_point (count_at bytes place) 0 i h ∙ ap point_at (zero-add i)
