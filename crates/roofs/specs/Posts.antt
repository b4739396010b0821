-- Nobody has to believe this file: where the code finds the roofs, and what a step may count on.
use Rattle.std.specs.Prelude.{ℕ, zero, suc, ◌+◌, ◌*◌, ◌≤◌, ◌<◌, List, [], ◌∷◌, ℤ, pos, nat_abs, length, get_or, ◌≡◌}
use Rattle.parts.specs.Header.{header}
use Rattle.solar.specs.Roof.{Roof}
use Rattle.solar.specs.Posts.{roof_by, Roofed}
use Rattle.fields.specs.Fields.{inverter_at}
use Rattle.stick.specs.Posts.{roof_bytes}

-- a roof as it lies at a place of bytes, an inverter field and its two curve fields; and so many, one behind the other
unfoldable pub roof_here : List ℕ → ℕ → Roof
unfolding inverter_at
roof_here bytes at = roof_by (inverter_at bytes (at + header)) bytes (at + 25) (at + 157)

unfoldable pub roofs_here : List ℕ → ℕ → ℕ → List Roof
unfolding roof_here
roofs_here bytes first zero = []
roofs_here bytes first (suc n) = roof_here bytes first ∷ roofs_here bytes (first + roof_bytes) n

-- they are there, and in their ranges
pub record RoofsThere (bytes : List ℕ) (first n : ℕ) : Type 0 where
  pub few : n ≤ 64
  pub within : first + roof_bytes * n ≤ length bytes
  pub there : (i : ℕ) → i < n → Roofed (inverter_at bytes (first + roof_bytes * i + header)) bytes (first + roof_bytes * i + 25) (first + roof_bytes * i + 157)

-- vars for each of them, within their bounds
pub record VarsHeld (n : ℕ) (vars : List ℤ) : Type 0 where
  pub count : length vars ≡ n
  pub small : (i : ℕ) → i < n → nat_abs (get_or vars i (pos 0)) ≤ 100000000
