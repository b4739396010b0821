-- Nobody has to believe this file: where the code finds a function, and what it may count on.
use Rattle.std.specs.Prelude.{ℕ, ◌+◌, ◌≤◌, Bool, true, cond, List, ◌≡◌, length}
use Rattle.octets.specs.BigEndian.{be}
use Rattle.curve.specs.Layout.{curve_bytes, points_at}
use Rattle.lead.specs.Lead.{Function, Leading, unled, led, function_in}

-- a function as it lies at a place of bytes, its field and its curve's, or none
unfoldable pub function_here : List ℕ → ℕ → Function
unfolding be points_at
function_here bytes at = record { base = be 1 bytes (at + 3); curve = points_at bytes (at + 7) }

abbrev pub leading_here : List ℕ → Bool → ℕ → Leading
leading_here bytes there at = cond there (led (function_here bytes at)) unled

-- one that is there is in its ranges
pub record LeadingThere (bytes : List ℕ) (there : Bool) (at : ℕ) : Type 0 where
  pub within : there ≡ true → at + 7 + curve_bytes ≤ length bytes
  pub in_range : there ≡ true → function_in (function_here bytes at) ≡ true
