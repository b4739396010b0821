-- Laws of sums, tests and replaced lists over the first n numbers: how each grows by one, what bounds it, and what it says at an index. Assumes nothing.
use mathlib.Core.Path.{◌≡◌, refl, sym, ap, ap₂, ◌∙◌}
use mathlib.Core.Bool.{Bool, true, false, ◌&&◌, ◌||◌}
use mathlib.Core.List.{List, [], ◌∷◌, ◌++◌, append_assoc}
use mathlib.Core.Logic.{◌⊎◌, inl, inr}
use Prim.Native.Nat.{ℕ, zero, suc, ◌+◌, ◌-◌, ◌*◌, ◌≤◌, ◌<◌, zero-le}
use native.Mathlib.Nat.{le_refl, le_trans, suc-mul, zero-add, add-zero, add-suc, suc-add, not-suc-le-zero, le_of_suc-le-suc, eq-or-lt_of_le, le_step}
use native.Mathlib.Numerals.{add-one}
use native.Mathlib.Omega.{arith}
use lib.IntN.{ℤ, nat_abs, ◌+ℤ◌}
use lib.ListN.{length, get_or, take, drop, set, length-append, length-drop}
use lib.Seq.{take-suc, drop-cons, length-take-le, get_or_at, set_at, drop-length, take-length}
use Rattle.whole.proofs.Choice.{passed_failed}
use Rattle.whole.proofs.SignLaws.{size_sum}
use Rattle.whole.specs.Over.{sum_of, sum_ofℤ, all_of, some_of, each_from, each}

-- ---- one more, as a loop meets it
pub sum_next : (n : ℕ) (f : ℕ → ℕ) → sum_of (n + 1) f ≡ sum_of n f + f n
unfolding sum_of
sum_next n f = ap (λ (k : ℕ). sum_of k f) (add-one n)

pub sumℤ_next : (n : ℕ) (f : ℕ → ℤ) → sum_ofℤ (n + 1) f ≡ sum_ofℤ n f +ℤ f n
unfolding sum_ofℤ
sumℤ_next n f = ap (λ (k : ℕ). sum_ofℤ k f) (add-one n)

pub all_next : (n : ℕ) (ok : ℕ → Bool) → all_of (n + 1) ok ≡ (all_of n ok && ok n)
unfolding all_of
all_next n ok = ap (λ (k : ℕ). all_of k ok) (add-one n)

pub some_next : (n : ℕ) (ok : ℕ → Bool) → some_of (n + 1) ok ≡ (some_of n ok || ok n)
unfolding some_of
some_next n ok = ap (λ (k : ℕ). some_of k ok) (add-one n)

-- ---- bounds
pub sum_upto : (n b : ℕ) (f : ℕ → ℕ) → ((i : ℕ) → i < n → f i ≤ b) → sum_of n f ≤ n * b
unfolding sum_of
sum_upto zero b f h = zero-le
sum_upto (suc n) b f h =
    let e : suc n * b ≡ n * b + b = suc-mul n b in
    let p : sum_of n f ≤ n * b = sum_upto n b f (λ i l. h i (le_step l)) in
    let q : f n ≤ b = h n (le_refl (suc n)) in
    omega arith

pub sumℤ_upto : (n b : ℕ) (f : ℕ → ℤ) → ((i : ℕ) → i < n → nat_abs (f i) ≤ b) → nat_abs (sum_ofℤ n f) ≤ n * b
unfolding sum_ofℤ
sumℤ_upto zero b f h = zero-le
sumℤ_upto (suc n) b f h =
    let e : suc n * b ≡ n * b + b = suc-mul n b in
    let p : nat_abs (sum_ofℤ n f) ≤ n * b = sumℤ_upto n b f (λ i l. h i (le_step l)) in
    let q : nat_abs (f n) ≤ b = h n (le_refl (suc n)) in
    let r : nat_abs (sum_ofℤ n f +ℤ f n) ≤ nat_abs (sum_ofℤ n f) + nat_abs (f n) = size_sum (sum_ofℤ n f) (f n) in
    omega arith

-- ---- tests
and_left : (a b : Bool) → (a && b) ≡ true → a ≡ true
and_left true b e = refl
and_left false b e = e

and_right : (a b : Bool) → (a && b) ≡ true → b ≡ true
and_right true b e = e
and_right false b e = absurd (passed_failed e refl)

or_left : (a b : Bool) → (a || b) ≡ false → a ≡ false
or_left true b e = e
or_left false b e = refl

or_right : (a b : Bool) → (a || b) ≡ false → b ≡ false
or_right true b e = absurd (passed_failed refl e)
or_right false b e = e

pub and_parts : (a b : Bool) → (a && b) ≡ true → (a ≡ true) × (b ≡ true)
and_parts a b e = (and_left a b e, and_right a b e)

-- what passes for all below n passes at i
pub all_at : (n : ℕ) (ok : ℕ → Bool) → all_of n ok ≡ true → (i : ℕ) → i < n → ok i ≡ true
unfolding all_of
all_at zero ok e i h = absurd (not-suc-le-zero h)
all_at (suc n) ok e i h = go (eq-or-lt_of_le (le_of_suc-le-suc h)) (λ l. all_at n ok (and_left (all_of n ok) (ok n) e) i l)
  where
    go : (i ≡ n) ⊎ (i < n) → (i < n → ok i ≡ true) → ok i ≡ true
    go (inl p) rest = ap ok p ∙ and_right (all_of n ok) (ok n) e
    go (inr l) rest = rest l

pub none_at : (n : ℕ) (ok : ℕ → Bool) → some_of n ok ≡ false → (i : ℕ) → i < n → ok i ≡ false
unfolding some_of
none_at zero ok e i h = absurd (not-suc-le-zero h)
none_at (suc n) ok e i h = go (eq-or-lt_of_le (le_of_suc-le-suc h)) (λ l. none_at n ok (or_left (some_of n ok) (ok n) e) i l)
  where
    go : (i ≡ n) ⊎ (i < n) → (i < n → ok i ≡ false) → ok i ≡ false
    go (inl p) rest = ap ok p ∙ or_right (some_of n ok) (ok n) e
    go (inr l) rest = rest l

-- where some below n passes, one does
pub some_at : (n : ℕ) (ok : ℕ → Bool) → some_of n ok ≡ true → (i : ℕ) × (i < n) × (ok i ≡ true)
unfolding some_of
some_at zero ok e = absurd (passed_failed e refl)
some_at (suc n) ok e = at (some_of n ok) refl (some_at n ok)
  where
    at : (b : Bool) → some_of n ok ≡ b → (some_of n ok ≡ true → (i : ℕ) × (i < n) × (ok i ≡ true)) → (i : ℕ) × (i < suc n) × (ok i ≡ true)
    at true p rest = let found = rest p in (found.0, le_step found.1, found.2)
    at false p rest = (n, le_refl (suc n), sym (ap (λ (b : Bool). b || ok n) p) ∙ e)

-- two tests that agree below n
pub some_same : (n : ℕ) (p q : ℕ → Bool) → ((i : ℕ) → i < n → p i ≡ q i) → some_of n p ≡ some_of n q
unfolding some_of
some_same zero p q h = refl
some_same (suc n) p q h = ap₂ ◌||◌ (some_same n p q (λ i l. h i (le_step l))) (h n (le_refl (suc n)))

pub none_of : (n : ℕ) (ok : ℕ → Bool) → ((i : ℕ) → i < n → ok i ≡ false) → some_of n ok ≡ false
unfolding some_of
none_of zero ok h = refl
none_of (suc n) ok h = ap₂ ◌||◌ (none_of n ok (λ i l. h i (le_step l))) (h n (le_refl (suc n)))

-- ---- a list with each element replaced
module _ {A : Type 0} (f : ℕ → A → A) where
  from_length : (k : ℕ) (l : List A) → length (each_from k f l) ≡ length l
  unfolding each_from
  from_length k [] = refl
  from_length k (x ∷ xs) = ap suc (from_length (suc k) xs)

  from_at : (k : ℕ) (l : List A) (i : ℕ) (d : A) → i < length l → get_or (each_from k f l) i d ≡ f (k + i) (get_or l i d)
  unfolding each_from
  from_at k [] i d h = absurd (not-suc-le-zero h)
  from_at k (x ∷ xs) zero d h = ap (λ (j : ℕ). f j x) (sym (add-zero k))
  from_at k (x ∷ xs) (suc i) d h =
      from_at (suc k) xs i d (le_of_suc-le-suc h) ∙ ap (λ (j : ℕ). f j (get_or xs i d)) (suc-add k i ∙ sym (add-suc k i))

  from_snoc : (k : ℕ) (l : List A) (x : A) → each_from k f (l ++ (x ∷ [])) ≡ each_from k f l ++ (f (k + length l) x ∷ [])
  unfolding each_from
  from_snoc k [] x = ap (λ (j : ℕ). f j x ∷ []) (sym (add-zero k))
  from_snoc k (y ∷ ys) x =
      ap (λ (t : List A). f k y ∷ t) (from_snoc (suc k) ys x ∙ ap (λ (j : ℕ). each_from (suc k) f ys ++ (f j x ∷ [])) (suc-add k (length ys) ∙ sym (add-suc k (length ys))))

  pub each_length : (l : List A) → length (each f l) ≡ length l
  unfolding each
  each_length l = from_length 0 l

  pub each_at : (l : List A) (i : ℕ) (d : A) → i < length l → get_or (each f l) i d ≡ f i (get_or l i d)
  unfolding each
  each_at l i d h = from_at 0 l i d h ∙ ap (λ (j : ℕ). f j (get_or l i d)) (zero-add i)

  -- f's work done on the first i elements: what a loop over l in place has reached
  unfoldable pub part : List A → ℕ → List A
  part l i = each f (take i l) ++ drop i l

  pub part_none : (l : List A) → part l 0 ≡ l
  unfolding part each each_from
  part_none l = refl

  pub part_all : (l : List A) → part l (length l) ≡ each f l
  unfolding part
  part_all l = ap₂ (λ (a b : List A). each f a ++ b) (take-length l) (drop-length l) ∙ append_nil (each f l)
    where
      append_nil : (xs : List A) → xs ++ [] ≡ xs
      append_nil [] = refl
      append_nil (x ∷ xs) = ap (λ (t : List A). x ∷ t) (append_nil xs)

  head_length : (l : List A) (i : ℕ) → i ≤ length l → length (each f (take i l)) ≡ i
  head_length l i h = each_length (take i l) ∙ length-take-le i l h

  pub part_length : (l : List A) (i : ℕ) → i ≤ length l → length (part l i) ≡ length l
  unfolding part
  part_length l i h =
      let a : length (each f (take i l) ++ drop i l) ≡ length (each f (take i l)) + length (drop i l) = length-append (each f (take i l)) (drop i l) in
      let b : length (each f (take i l)) ≡ i = head_length l i h in
      let c : length (drop i l) ≡ length l - i = length-drop i l in
      omega arith

  split_part : (l : List A) (i : ℕ) (d : A) → i < length l → part l i ≡ each f (take i l) ++ get_or l i d ∷ drop (suc i) l
  unfolding part
  split_part l i d h = ap (λ (t : List A). each f (take i l) ++ t) (drop-cons l i d h)

  -- the next element is as it was
  pub part_next : (l : List A) (i : ℕ) (d : A) → i < length l → get_or (part l i) i d ≡ get_or l i d
  part_next l i d h =
      ap (λ (t : List A). get_or t i d) (split_part l i d h)
      ∙ get_or_at (each f (take i l)) (get_or l i d) (drop (suc i) l) d i (head_length l i (le_trans (le_step (le_refl i)) h))

  -- one more is done
  pub part_more : (l : List A) (i : ℕ) (d v : A) → i < length l → v ≡ f i (get_or l i d) → set (part l i) i v ≡ part l (i + 1)
  unfolding part each
  part_more l i d v h e =
      ap (λ (t : List A). set t i v) (split_part l i d h)
      ∙ set_at (each f (take i l)) (get_or l i d) (drop (suc i) l) v i (head_length l i (le_trans (le_step (le_refl i)) h))
      ∙ ap (λ (a : A). each f (take i l) ++ a ∷ drop (suc i) l) e
      ∙ sym (ap (λ (k : ℕ). each f (take k l) ++ drop k l) (add-one i)
      ∙ ap (λ (t : List A). each f t ++ drop (suc i) l) (take-suc l i d h)
      ∙ ap (λ (t : List A). t ++ drop (suc i) l) (from_snoc 0 (take i l) (get_or l i d))
      ∙ append_assoc (each f (take i l)) (f (0 + length (take i l)) (get_or l i d) ∷ []) (drop (suc i) l)
      ∙ ap (λ (k : ℕ). each f (take i l) ++ f k (get_or l i d) ∷ drop (suc i) l) (zero-add (length (take i l)) ∙ length-take-le i l (le_trans (le_step (le_refl i)) h)))
