-- The largest whole number that passes a test (rules U5 and U7), and the kVA circle's leg, which is one (rule U1).
use Rattle.std.specs.Prelude.{ℕ, zero, suc, ◌+◌, ◌*◌, Bool, cond, leb}

-- the largest number from 1 to n that passes the test; 0 where none does
unfoldable pub largest : (ℕ → Bool) → ℕ → ℕ
largest ok zero = zero
largest ok (suc n) = let below = largest ok n in cond (ok (suc n)) (suc n) below

-- x and y lie in the circle of radius S
abbrev pub in_circle : ℕ → ℕ → ℕ → Bool
in_circle S y x = leb (x * x + y * y) (S * S)

-- the largest whole x with x² + y² ≤ S² (no x above S has it); 0 also where y alone is too large
unfoldable pub leg_of : ℕ → ℕ → ℕ
unfolding largest
leg_of S y = largest (in_circle S y) S
