-- Quotients of whole numbers. Rounded down is the library's `◌/◌`; rules Q28 and U4 also round up, and rule P6 cuts a signed quotient toward zero.
-- A divisor of 0 gives 0, as `◌/◌` has it, so that each is defined everywhere.
use Rattle.std.specs.Prelude.{ℕ, suc, ◌+◌, ◌-◌, ◌/◌, ℤ, pos, negsuc, neg_ℤ}

-- a / b rounded up
unfoldable pub ceil : ℕ → ℕ → ℕ
ceil a b = (a + (b - 1)) / b

-- z / b cut toward zero
unfoldable pub cut : ℤ → ℕ → ℤ
cut (pos a) b = pos (a / b)
cut (negsuc a) b = neg_ℤ (pos (suc a / b))
