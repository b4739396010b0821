-- A signed number as a sign and a size, and back. Zero has no sign: from either sign and size 0 comes 0.
use Rattle.std.specs.Prelude.{ℕ, Bool, true, false, ℤ, pos, negsuc, neg_ℤ}

-- whether z is below 0
abbrev pub negative : ℤ → Bool
negative (pos n) = false
negative (negsuc n) = true

-- the number of a sign and a size
abbrev pub signed : Bool → ℕ → ℤ
signed false n = pos n
signed true n = neg_ℤ (pos n)
