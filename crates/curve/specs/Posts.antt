-- Nobody has to believe this file: what the code may count on.
use Rattle.std.specs.Prelude.{ℕ, ◌+◌, ◌≤◌, ◌<◌, List, nat_abs, length}
use Rattle.curve.specs.Layout.{curve_bytes, count_at, x_at, y_at}

-- a curve at a place whose value can be worked out: its bytes are there, it has 1 to 16 points, and they are no larger than 10^8 in size
pub record Usable (bytes : List ℕ) (place : ℕ) : Type 0 where
  pub there : place + curve_bytes ≤ length bytes
  pub some : 1 ≤ count_at bytes place
  pub few : count_at bytes place ≤ 16
  pub x_small : (i : ℕ) → i < count_at bytes place → nat_abs (x_at bytes place i) ≤ 100000000
  pub y_small : (i : ℕ) → i < count_at bytes place → nat_abs (y_at bytes place i) ≤ 100000000
