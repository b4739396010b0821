-- A test of each number of a range, as the library's `all` makes it, is the definition's test over the first n numbers. Assumes nothing.
use mathlib.Core.Path.{◌≡◌, refl, sym, ap, ap₂, ◌∙◌}
use mathlib.Core.Bool.{Bool, true, false, ◌&&◌}
use Prim.Native.Nat.{ℕ, zero, suc, ◌+◌, ◌<◌, zero-le}
use native.Mathlib.Nat.{zero-add, le_step, lt-suc_self}
use native.Mathlib.Omega.{arith}
use lib.ListN.{length}
use Rattle.std.specs.Bool.{MatchBool}
use Rattle.std.specs.List.{range_with_len, AllWithin, HoldsAt}
use Rattle.std.proofs.lemmas.List.FromFn.{length-range_with_len, get_or-range_with_len}
use Rattle.whole.specs.Over.{all_of}
use Rattle.whole.proofs.Choice.{passed_failed}
use Rattle.whole.proofs.OverLaws.{all_at}

every : (n : ℕ) (ok : ℕ → Bool) → ((i : ℕ) → i < n → ok i ≡ true) → all_of n ok ≡ true
unfolding all_of
every zero ok h = refl
every (suc n) ok h = ap₂ ◌&&◌ (every n ok (λ i l. h i (le_step l))) (h n (lt-suc_self n))

one_fails : (n : ℕ) (ok : ℕ → Bool) (i : ℕ) → i < n → ok i ≡ false → false ≡ all_of n ok
one_fails n ok i h e = go (all_of n ok) refl
  where
    go : (t : Bool) → all_of n ok ≡ t → false ≡ all_of n ok
    go true p = absurd (passed_failed (all_at n ok p i h) e)
    go false p = sym p

-- n numbers from a on
pub all_ranged : (a n : ℕ) (ok : ℕ → Bool) (r : Bool)
    → MatchBool r (AllWithin (λ x. ok x ≡ true) (range_with_len a n) 0 (length (range_with_len a n))) ((k : ℕ) × (k < length (range_with_len a n)) × HoldsAt (λ x. ok x ≡ false) (range_with_len a n) k)
    → r ≡ all_of n (λ i. ok (a + i))
all_ranged a n ok true h =
    sym (every n (λ i. ok (a + i)) (λ i l. sym (ap ok (get_or-range_with_len a n i 0 l)) ∙ h i 0 zero-le (omega (arith, length-range_with_len a n))))
all_ranged a n ok false (k, l, e) =
    let below : k < n = omega (arith, length-range_with_len a n) in
    one_fails n (λ i. ok (a + i)) k below (sym (ap ok (get_or-range_with_len a n k 0 below)) ∙ e 0)

-- the first n numbers
pub all_below : (n : ℕ) (ok : ℕ → Bool) (r : Bool)
    → MatchBool r (AllWithin (λ x. ok x ≡ true) (range_with_len 0 n) 0 (length (range_with_len 0 n))) ((k : ℕ) × (k < length (range_with_len 0 n)) × HoldsAt (λ x. ok x ≡ false) (range_with_len 0 n) k)
    → r ≡ all_of n ok
all_below n ok r h = all_ranged 0 n ok r h ∙ ap (all_of n) (λ j i. ok (zero-add i j))

-- tests that say the same below n
pub all_same : (n : ℕ) (p q : ℕ → Bool) → ((i : ℕ) → i < n → p i ≡ q i) → all_of n p ≡ all_of n q
unfolding all_of
all_same zero p q h = refl
all_same (suc n) p q h = ap₂ ◌&&◌ (all_same n p q (λ i l. h i (le_step l))) (h n (lt-suc_self n))
