-- The kVA circle as every inverter has it (rules U3, U12 and I5): S is its radius, v the size of the vars wanted, limited already.
use Rattle.std.specs.Prelude.{ℕ, min, Bool, cond, eqb, ℤ}
use Rattle.whole.specs.Largest.{leg_of}
use Rattle.whole.specs.Signed.{signed}

-- the watts: what is asked, at most S; where vars come first (priority 1), also at most the leg beside v
unfoldable pub watts_in : ℕ → ℕ → ℕ → ℕ → ℕ
unfolding leg_of
watts_in S priority v asked = let p = min asked S in cond (eqb priority 1) (min p (leg_of S v)) p

-- the vars: below 0 or not, the smaller of v and the leg beside the watts
unfoldable pub vars_in : ℕ → Bool → ℕ → ℕ → ℤ
unfolding leg_of
vars_in S below v watts = signed below (min v (leg_of S watts))
