-- Laws of the sum of the first n values of any function. Each holds by one induction over n, adding one value at a time. Assumes nothing.
use mathlib.Core.Path.{◌≡◌, refl, sym, ap, ap₂, ◌∙◌}
use Prim.Native.Nat.{ℕ, zero, suc, ◌+◌, ◌*◌, ◌/◌, ◌≤◌, ◌<◌}
use mathlib.Core.Logic.{◌⊎◌, inl, inr}
use native.Mathlib.Nat.{le_refl, not-suc-le-zero, add-zero, add-suc, le-suc_iff}
use native.Mathlib.Nat.{zero-mul, suc-mul, add-mul, mul-le-mul_left, div-mul-le_self, le_of_mul-le-mul_right, mul_assoc, mul_comm}
use native.Mathlib.Omega.{arith}
use lib.IntN.{ℤ, pos, ◌+ℤ◌}
use Rattle.whole.specs.Over.{sum_of, sum_ofℤ}

-- what holds of each number below n + 1 holds of each below n
pub below {ℓ} : {P : ℕ → Type ℓ} {n : ℕ} → ((i : ℕ) → i < suc n → P i) → (i : ℕ) → i < n → P i
below h i l = h i (omega arith)

-- values that are equal, or none larger, one by one
pub sum_same : (n : ℕ) (f g : ℕ → ℕ) → ((i : ℕ) → i < n → f i ≡ g i) → sum_of n f ≡ sum_of n g
unfolding sum_of
sum_same zero f g h = refl
sum_same (suc n) f g h = cc (sum_same n f g (below h), h n (le_refl (suc n)))

pub sum_le : (n : ℕ) (f g : ℕ → ℕ) → ((i : ℕ) → i < n → f i ≤ g i) → sum_of n f ≤ sum_of n g
unfolding sum_of
sum_le zero f g h = le_refl 0
sum_le (suc n) f g h = omega (arith, sum_le n f g (below h), h n (le_refl (suc n)))

-- values that are all 0
pub sum_none : (n : ℕ) (f : ℕ → ℕ) → ((i : ℕ) → i < n → f i ≡ 0) → sum_of n f ≡ 0
unfolding sum_of
sum_none zero f h = refl
sum_none (suc n) f h = omega (arith, sum_none n f (below h), h n (le_refl (suc n)))

-- values that are all the same
pub sum_const : (n c : ℕ) → sum_of n (λ (i : ℕ). c) ≡ n * c
unfolding sum_of
sum_const zero c = sym (zero-mul c)
sum_const (suc n) c = ap (λ (x : ℕ). x + c) (sum_const n c) ∙ sym (suc-mul n c)

-- one value is no larger than the sum
pub sum_has : (n : ℕ) (f : ℕ → ℕ) (i : ℕ) → i < n → f i ≤ sum_of n f
unfolding sum_of
sum_has zero f i l = absurd (not-suc-le-zero l)
sum_has (suc n) f i l = at (le-suc_iff.0 l) (sum_has n f i)
  where
    at : (suc i ≤ n) ⊎ (suc i ≡ suc n) → (i < n → f i ≤ sum_of n f) → f i ≤ sum_of n f + f n
    at (inl m) rest = omega (arith, rest m)
    at (inr e) rest = let last : f i ≡ f n = ap f (omega arith) in omega arith

-- none smaller and one larger: a larger sum
pub sum_lt : (n : ℕ) (f g : ℕ → ℕ) → ((i : ℕ) → i < n → f i ≤ g i) → (i : ℕ) → i < n → f i < g i → sum_of n f < sum_of n g
unfolding sum_of
sum_lt zero f g h i l more = absurd (not-suc-le-zero l)
sum_lt (suc n) f g h i l more = at (le-suc_iff.0 l) (λ m. sum_lt n f g (below h) i m more)
  where
    at : (suc i ≤ n) ⊎ (suc i ≡ suc n) → (i < n → sum_of n f < sum_of n g) → sum_of n f + f n < sum_of n g + g n
    at (inl m) rest = omega (arith, rest m, h n (le_refl (suc n)))
    at (inr e) rest =
        let same : i ≡ n = omega arith in
        let low : f i ≡ f n = ap f same in
        let high : g i ≡ g n = ap g same in
        omega (arith, sum_le n f g (below h))

-- the sum of sums, of multiples, of floors
pub sum_add : (n : ℕ) (f g : ℕ → ℕ) → sum_of n (λ (i : ℕ). f i + g i) ≡ sum_of n f + sum_of n g
unfolding sum_of
sum_add zero f g = refl
sum_add (suc n) f g = omega (arith, sum_add n f g)

pub sum_mul : (n : ℕ) (f : ℕ → ℕ) (c : ℕ) → sum_of n (λ (i : ℕ). f i * c) ≡ sum_of n f * c
unfolding sum_of
sum_mul zero f c = sym (zero-mul c)
sum_mul (suc n) f c = ap (λ (x : ℕ). x + f n * c) (sum_mul n f c) ∙ sym (add-mul (sum_of n f) (f n) c)

pub sum_mul_left : (n : ℕ) (c : ℕ) (f : ℕ → ℕ) → sum_of n (λ (i : ℕ). c * f i) ≡ c * sum_of n f
sum_mul_left n c f = sum_same n (λ (i : ℕ). c * f i) (λ (i : ℕ). f i * c) (λ i l. mul_comm c (f i)) ∙ sum_mul n f c ∙ mul_comm (sum_of n f) c

pub sum_floors : (n : ℕ) (f : ℕ → ℕ) (d : ℕ) → sum_of n (λ (i : ℕ). f i / d) * d ≤ sum_of n f
sum_floors n f d = rw (← sum_mul n (λ (i : ℕ). f i / d) d) (sum_le n (λ (i : ℕ). f i / d * d) f (λ i l. div-mul-le_self (f i) d))

-- x shared by weights, of which c parts of m are given out, each share rounded down: no more than x in all
pub sum_shares : (n x c m : ℕ) (w : ℕ → ℕ) → c ≤ m → 0 < sum_of n w * m → sum_of n (λ (i : ℕ). x * w i * c / (sum_of n w * m)) ≤ x
sum_shares n x c m w h p =
    let d : ℕ = sum_of n w * m in
    let floors : sum_of n (λ (i : ℕ). x * w i * c / d) * d ≤ sum_of n (λ (i : ℕ). x * w i * c) = sum_floors n (λ (i : ℕ). x * w i * c) d in
    let whole : sum_of n (λ (i : ℕ). x * w i * c) ≡ x * sum_of n w * c = sum_mul n (λ (i : ℕ). x * w i) c ∙ ap (λ (y : ℕ). y * c) (sum_mul_left n x w) in
    let part : x * sum_of n w * c ≤ x * sum_of n w * m = mul-le-mul_left (x * sum_of n w) h in
    let all : x * sum_of n w * m ≡ x * d = mul_assoc x (sum_of n w) m in
    le_of_mul-le-mul_right (omega arith) p

-- values that are 0 from c on add nothing
pub sum_still : (c j : ℕ) (f : ℕ → ℕ) → ((i : ℕ) → c ≤ i → f i ≡ 0) → sum_of (c + j) f ≡ sum_of c f
unfolding sum_of
sum_still c zero f h = ap (λ (n : ℕ). sum_of n f) (add-zero c)
sum_still c (suc j) f h = ap (λ (n : ℕ). sum_of n f) (add-suc c j) ∙ omega (arith, sum_still c j f h, h (c + j) (omega arith))

-- a sum of signed numbers, none below 0
pub sumℤ_pos : (n : ℕ) (z : ℕ → ℤ) (f : ℕ → ℕ) → ((i : ℕ) → i < n → z i ≡ pos (f i)) → sum_ofℤ n z ≡ pos (sum_of n f)
unfolding sum_of sum_ofℤ
sumℤ_pos zero z f h = refl
sumℤ_pos (suc n) z f h = ap₂ ◌+ℤ◌ (sumℤ_pos n z f (below h)) (h n (le_refl (suc n)))
