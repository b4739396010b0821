-- What "the largest" means, and that a leg is known by where its square lies. Assumes nothing.
use mathlib.Core.Path.{◌≡◌, refl, sym, ap, ◌∙◌}
use mathlib.Core.Bool.{Bool, true, false}
use mathlib.Core.Logic.{◌⊎◌, inl, inr}
use Prim.Native.Nat.{ℕ, zero, suc, ◌+◌, ◌-◌, ◌*◌, ◌^◌, ◌≤◌, ◌<◌, zero-le, min}
use native.Mathlib.Nat.{le_refl, le_step, not-suc-le-zero, le_antisymm, mul-le-mul, mul-suc, suc-mul, le-suc_iff, eq-zero-or-pos, lt_of_le_of_lt}
use native.Mathlib.Omega.{arith}
use lib.Dec.{leb, lit<}
use borrow.Author.Tests.{le-leb, lt-leb, leb-true}
use Rattle.whole.proofs.Choice.{by_test, passed_failed}
use Rattle.whole.specs.Largest.{largest, in_circle, leg_of}

-- ---- the largest number that passes a test
module _ (ok : ℕ → Bool) where
  pub largest_le : (n : ℕ) → largest ok n ≤ n
  unfolding largest
  largest_le zero = le_refl 0
  largest_le (suc n) = by_test (λ (k : ℕ). k ≤ suc n) (ok (suc n)) (suc n) (largest ok n) (λ t. le_refl (suc n)) (λ t. le_step (largest_le n))

  -- it passes, unless it is 0
  pub largest_passes : (n : ℕ) → 0 < largest ok n → ok (largest ok n) ≡ true
  unfolding largest
  largest_passes zero h = absurd (not-suc-le-zero h)
  largest_passes (suc n) h =
      by_test (λ (k : ℕ). 0 < k → ok k ≡ true) (ok (suc n)) (suc n) (largest ok n) (λ t l. t) (λ t. largest_passes n) h

  -- nothing above it passes
  pub largest_tops : (n j : ℕ) → j ≤ n → ok j ≡ true → j ≤ largest ok n
  unfolding largest
  largest_tops zero j h t = h
  largest_tops (suc n) j h t = by_test (λ (k : ℕ). j ≤ k) (ok (suc n)) (suc n) (largest ok n) (λ u. h) (λ u. below u (le-suc_iff.0 h) (λ l. largest_tops n j l t))
    where
      below : ok (suc n) ≡ false → (j ≤ n) ⊎ (j ≡ suc n) → (j ≤ n → j ≤ largest ok n) → j ≤ largest ok n
      below u (inl l) rest = rest l
      below u (inr e) rest = absurd (passed_failed t (ap ok e ∙ u))

  -- so it is known by: it passes or is 0, and nothing above it passes
  pub largest_is : (n x : ℕ) → x ≤ n → (0 < x → ok x ≡ true) → ((j : ℕ) → x < j → j ≤ n → ok j ≡ false) → largest ok n ≡ x
  largest_is n x h t above = le_antisymm over (under (eq-zero-or-pos x))
    where
      clash : x < largest ok n → ⊥
      clash l = passed_failed (largest_passes n (omega arith)) (above (largest ok n) l (largest_le n))

      over : largest ok n ≤ x
      over = let no_more : ¬ (x < largest ok n) = clash in omega arith

      under : (x ≡ 0) ⊎ (0 < x) → x ≤ largest ok n
      under (inl e) = omega arith
      under (inr p) = largest_tops n x h (t p)

  -- where the test is a bound, it is the bound or n
  pub largest_upto : (n B : ℕ) → ((x : ℕ) → 0 < x → ok x ≡ leb x B) → largest ok n ≡ min n B
  largest_upto n B same =
      largest_is n (min n B) (omega arith)
      (λ h. same (min n B) h ∙ le-leb (min n B) B (omega arith))
      (λ j l m. same j (omega arith) ∙ lt-leb j B (omega arith))

-- two tests of order that pass together are one
pub leb_same : (a b c d : ℕ) → (a ≤ b → c ≤ d) → (c ≤ d → a ≤ b) → leb a b ≡ leb c d
leb_same a b c d f g = go (leb c d) refl
  where
    go : (t : Bool) → leb c d ≡ t → leb a b ≡ leb c d
    go true e = le-leb a b (g (leb-true c d e)) ∙ sym e
    go false e = lt-leb a b (let no : ¬ (a ≤ b) = (λ h. passed_failed (le-leb c d (f h)) e) in omega arith) ∙ sym e

-- ---- the leg
pub square_le : {a b : ℕ} → a ≤ b → a * a ≤ b * b
square_le h = mul-le-mul h h

pub square_suc : (n : ℕ) → suc n * suc n ≡ n * n + n + n + 1
square_suc n = let e : suc n * suc n ≡ suc n * n + suc n = mul-suc (suc n) n in let f : suc n * n ≡ n * n + n = suc-mul n n in omega arith

root_le : (a b : ℕ) → a * a ≤ b * b → a ≤ b
root_le a b l = let under : ¬ (b < a) = clash in omega arith
  where
    clash : b < a → ⊥
    clash h =
        let q : suc b * suc b ≤ a * a = square_le h in
        let e : suc b * suc b ≡ b * b + b + b + 1 = square_suc b in
        omega arith

-- squares of 32-bit numbers fit 64 bits
pub square_fits : (a : ℕ) → a < 2 ^ 32 → a * a < 2 ^ 64
square_fits a h = lt_of_le_of_lt (square_le le) (lit< tt)
  where
    le : a ≤ 4294967295
    le = omega arith

-- the square of the leg is within what y leaves of the circle, and the next square is not
pub leg_is : (S y x : ℕ) → y ≤ S → x * x ≤ S * S - y * y → S * S - y * y < suc x * suc x → leg_of S y ≡ x
unfolding leg_of
leg_is S y x h low high =
    let room : y * y ≤ S * S = square_le h in
    let small : x ≤ S = root_le x S (omega arith) in
    largest_is (in_circle S y) S x small
    (λ p. le-leb (x * x + y * y) (S * S) (omega arith))
    (λ j l m. lt-leb (j * j + y * y) (S * S) (let q : suc x * suc x ≤ j * j = square_le l in omega arith))

-- no leg where y alone is too large
pub leg_none : (S y : ℕ) → S < y → leg_of S y ≡ 0
unfolding leg_of
leg_none S y h =
    largest_is (in_circle S y) S 0 zero-le
    (λ p. absurd (not-suc-le-zero p))
    (λ j l m. lt-leb (j * j + y * y) (S * S) (let q : suc S * suc S ≤ y * y = square_le h in let e : suc S * suc S ≡ S * S + S + S + 1 = square_suc S in omega arith))

-- beside nothing it is the radius
pub leg_whole : (S y : ℕ) → y ≡ 0 → leg_of S y ≡ S
leg_whole S y e =
    let none : y * y ≡ 0 = ap (λ (n : ℕ). n * n) e in
    let next : suc S * suc S ≡ S * S + S + S + 1 = square_suc S in
    leg_is S y S (omega arith) (omega arith) (omega arith)

-- for callers: the leg lies in the circle, and no larger one does
pub leg_in : (S y : ℕ) → y ≤ S → leg_of S y * leg_of S y + y * y ≤ S * S
unfolding leg_of
leg_in S y h = go (eq-zero-or-pos (leg_of S y))
  where
    go : (leg_of S y ≡ 0) ⊎ (0 < leg_of S y) → leg_of S y * leg_of S y + y * y ≤ S * S
    go (inl e) = rw e (let q : y * y ≤ S * S = square_le h in omega arith)
    go (inr p) = leb-true (leg_of S y * leg_of S y + y * y) (S * S) (largest_passes (in_circle S y) S p)

pub leg_tops : (S y x : ℕ) → x * x + y * y ≤ S * S → x ≤ leg_of S y
unfolding leg_of
leg_tops S y x h = largest_tops (in_circle S y) S x (root_le x S (omega arith)) (le-leb (x * x + y * y) (S * S) h)

pub leg_le : (S y : ℕ) → leg_of S y ≤ S
unfolding leg_of
leg_le S y = largest_le (in_circle S y) S
