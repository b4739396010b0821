-- A curve of points with rising x (rules K1 to K3): straight between two points, the change from the left one cut toward zero; beyond the ends the
-- end's own y.
use Rattle.std.specs.Prelude.{ℕ, cond, List, [], ◌∷◌, ℤ, pos, nat_abs, ◌+ℤ◌, ◌-ℤ◌, ◌*ℤ◌, get_or}
use Rattle.std.specs.Int.Signed.{lt_z}
use Rattle.whole.specs.Quotient.{cut}

pub record Point : Type 0 where
  pub x : ℤ
  pub y : ℤ

abbrev pub point : ℤ → ℤ → Point
point x y = record { x = x; y = y }

-- point i; past the last there is one of no values
abbrev pub point_of : List Point → ℕ → Point
point_of points i = get_or points i (point (pos 0) (pos 0))

-- K2: the straight line from p to q at x
unfoldable pub line_at : Point → Point → ℤ → ℤ
unfolding cut
line_at p q x = p.y +ℤ cut ((q.y -ℤ p.y) *ℤ (x -ℤ p.x)) (nat_abs (q.x -ℤ p.x))

-- from a point that is not right of x on
unfoldable pub curve_from : Point → List Point → ℤ → ℤ
unfolding line_at
curve_from p [] x = p.y
curve_from p (q ∷ more) x = let further = curve_from q more x in cond (lt_z x q.x) (line_at p q x) further

-- K1, K3: the value of a curve at x
unfoldable pub curve_at : List Point → ℤ → ℤ
unfolding curve_from
curve_at [] x = pos 0
curve_at (p ∷ more) x = let further = curve_from p more x in cond (lt_z x p.x) p.y further
