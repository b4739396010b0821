-- What the points of a curve must be (rules K1 and Q): 2 to 16, each within the bounds of x and y and right of the one before it.
use Rattle.std.specs.Prelude.{ℕ, ◌-◌, Bool, ◌&&◌, ◌||◌, List, [], ◌∷◌, eqb, ℤ, length}
use Rattle.std.specs.Int.Signed.{lt_z, le_z}
use Rattle.whole.specs.Interval.{between}
use Rattle.whole.specs.Over.{all_of}
use Rattle.curve.specs.declared.Bounds.{Bounds}
use Rattle.curve.specs.Curve.{Point, point, point_of}

abbrev pub in_bounds : Bounds → Point → Bool
in_bounds b p = (le_z b.x_least p.x && le_z p.x b.x_most) && (le_z b.y_least p.y && le_z p.y b.y_most)

unfoldable pub point_in : Bounds → List Point → ℕ → Bool
point_in b points i = in_bounds b (point_of points i) && (eqb i 0 || lt_z (point_of points (i - 1)).x (point_of points i).x)

unfoldable pub points_in : Bounds → List Point → Bool
unfolding point_in all_of
points_in b points = between 2 16 (length points) && all_of (length points) (point_in b points)

-- the points of two lists
unfoldable pub points_of : List ℤ → List ℤ → List Point
points_of [] ys = []
points_of (x ∷ xs) [] = []
points_of (x ∷ xs) (y ∷ ys) = point x y ∷ points_of xs ys
