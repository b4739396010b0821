-- Sums and tests over the first n numbers, and a list with each element replaced by a function of its place and itself: what a rule says
-- of all units together, of some unit, or of each. A unit's value in a list is `get_or list i 0`.
use Rattle.std.specs.Prelude.{ℕ, zero, suc, ◌+◌, Bool, true, false, ◌&&◌, ◌||◌, List, [], ◌∷◌, ℤ, pos, ◌+ℤ◌}

-- f 0 + .. + f (n - 1)
unfoldable pub sum_of : ℕ → (ℕ → ℕ) → ℕ
sum_of zero f = 0
sum_of (suc n) f = sum_of n f + f n

unfoldable pub sum_ofℤ : ℕ → (ℕ → ℤ) → ℤ
sum_ofℤ zero f = pos 0
sum_ofℤ (suc n) f = sum_ofℤ n f +ℤ f n

-- every number below n passes the test
unfoldable pub all_of : ℕ → (ℕ → Bool) → Bool
all_of zero ok = true
all_of (suc n) ok = all_of n ok && ok n

-- some number below n passes the test
unfoldable pub some_of : ℕ → (ℕ → Bool) → Bool
some_of zero ok = false
some_of (suc n) ok = some_of n ok || ok n

-- the list whose element at i is f i of what l has there, counted from k
unfoldable pub each_from {ℓ} : {A : Type ℓ} → ℕ → (ℕ → A → A) → List A → List A
each_from k f [] = []
each_from k f (x ∷ xs) = f k x ∷ each_from (suc k) f xs

unfoldable pub each {ℓ} : {A : Type ℓ} → (ℕ → A → A) → List A → List A
unfolding each_from
each f l = each_from 0 f l
