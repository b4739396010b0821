-- What holds of every curve whose points rise in x (rule K4). `curve-law` proves it.
use Rattle.std.specs.Prelude.{ℕ, suc, ◌≤◌, ◌<◌, List, ◌≡◌, ℤ, length, ◌≤ℤ◌, ◌<ℤ◌}
use Rattle.curve.specs.Curve.{Point, point_of, curve_at}

abbrev pub Rising : List Point → Type 0
Rising points = (i : ℕ) → suc i < length points → (point_of points i).x <ℤ (point_of points (suc i)).x

pub record CurveLaw (points : List Point) : Type 0 where
  -- at a point its own y
  pub own_y : (i : ℕ) → i < length points → curve_at points (point_of points i).x ≡ (point_of points i).y
  -- between two points the value lies between their y: within any bounds that both have
  pub between : (i : ℕ) → suc i < length points → (x : ℤ) → (point_of points i).x ≤ℤ x → x ≤ℤ (point_of points (suc i)).x
      → (low high : ℤ) → low ≤ℤ (point_of points i).y → low ≤ℤ (point_of points (suc i)).y → (point_of points i).y ≤ℤ high → (point_of points (suc i)).y ≤ℤ high
      → (low ≤ℤ curve_at points x) × (curve_at points x ≤ℤ high)
  -- a curve whose y never fall from point to point never falls
  pub never_falls : ((i : ℕ) → suc i < length points → (point_of points i).y ≤ℤ (point_of points (suc i)).y) → (x z : ℤ) → x ≤ℤ z
      → curve_at points x ≤ℤ curve_at points z
  -- and everywhere a curve lies within the bounds that all its y have
  pub within : 1 ≤ length points → (low high : ℤ) → ((i : ℕ) → i < length points → (low ≤ℤ (point_of points i).y) × ((point_of points i).y ≤ℤ high)) → (x : ℤ)
      → (low ≤ℤ curve_at points x) × (curve_at points x ≤ℤ high)

-- the theorem
abbrev pub CurveTheorem : Type 0
CurveTheorem = (points : List Point) → Rising points → CurveLaw points
