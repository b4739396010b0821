-- A curve as it lies in bytes (its row in docs/LAYOUTS.md): one byte with the number of points, then sixteen times x and y, 0 past the
-- points.
use Rattle.std.specs.Prelude.{ℕ, zero, suc, ◌+◌, ◌-◌, ◌*◌, Bool, ◌&&◌, List, [], ◌∷◌, eqb, ℤ}
use Rattle.std.specs.Int.{w32}
use Rattle.std.proofs.Common.{to_z}
use Rattle.whole.specs.Over.{all_of}
use Rattle.octets.specs.BigEndian.{be}
use Rattle.curve.specs.declared.Bounds.{Bounds}
use Rattle.curve.specs.Curve.{Point, point}
use Rattle.curve.specs.Ranges.{points_in}

-- the bytes of a curve; how many points there are, and the x and the y of point i
abbrev pub curve_bytes : ℕ
curve_bytes = 129

unfoldable pub count_at : List ℕ → ℕ → ℕ
unfolding be
count_at bytes place = be 1 bytes place

unfoldable pub x_at : List ℕ → ℕ → ℕ → ℤ
unfolding be
x_at bytes place i = to_z w32 (be 4 bytes (place + 1 + 8 * i))

unfoldable pub y_at : List ℕ → ℕ → ℕ → ℤ
unfolding be
y_at bytes place i = to_z w32 (be 4 bytes (place + 5 + 8 * i))

-- n points from point i on
unfoldable pub points_from : ℕ → ℕ → List ℕ → ℕ → List Point
unfolding x_at y_at
points_from zero i bytes place = []
points_from (suc n) i bytes place = point (x_at bytes place i) (y_at bytes place i) ∷ points_from n (suc i) bytes place

unfoldable pub points_at : List ℕ → ℕ → List Point
unfolding points_from count_at
points_at bytes place = points_from (count_at bytes place) 0 bytes place

-- the places past the points hold 0
unfoldable pub rest_in : List ℕ → ℕ → Bool
unfolding count_at be all_of
rest_in bytes place = all_of (16 - count_at bytes place) (λ (i : ℕ). eqb (be 8 bytes (place + 1 + 8 * (count_at bytes place + i))) 0)

unfoldable pub curve_in : Bounds → List ℕ → ℕ → Bool
unfolding points_in points_at rest_in
curve_in b bytes place = points_in b (points_at bytes place) && rest_in bytes place
