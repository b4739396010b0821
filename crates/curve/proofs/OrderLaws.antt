-- The order of signed numbers: its test decides it, and a number is no smaller than another exactly when it is that number and a whole number
-- more. By the signs. Assumes nothing.
use mathlib.Core.Path.{◌≡◌, refl, sym, ap, ◌∙◌, subst}
use mathlib.Core.Bool.{Bool, true, false, not}
use mathlib.Core.Logic.{◌⊎◌, inl, inr}
use Prim.Native.Nat.{ℕ, zero, suc, ◌+◌, ◌-◌, ◌≤◌, ◌<◌}
use native.Mathlib.Nat.{le_antisymm}
use native.Mathlib.Omega.{arith}
use lib.Dec.{T, ltb, le→leb, leb→le, ltb→lt}
use lib.IntN.{ℤ, pos, negsuc, nat_abs, neg_ℤ, sub_ℕ, ◌+ℤ◌, ◌-ℤ◌, +ℤ_assoc, +ℤ_comm, +ℤ_idl, +ℤ_invr, +ℤ-neg_ℤ_cancel, -ℤ-+ℤ_cancel, neg_ℤ-+ℤ}
use lib.Signed.{◌≤ℤ◌, ◌<ℤ◌, le_z, lt_z, le_z_yes, lt_z_yes, lt_z_no, clash_ℤ}
use borrow.Author.Tests.{le-ltb}
use Rattle.whole.proofs.Choice.{by_test}

-- ---- the tests

is_true : (t : Bool) → T t → t ≡ true
is_true true h = refl
is_true false h = absurd h

is_false : (t : Bool) → (T t → ⊥) → t ≡ false
is_false true h = absurd (h tt)
is_false false h = refl

pub lt_true : (a b : ℤ) → a <ℤ b → lt_z a b ≡ true
lt_true a b h = is_true (lt_z a b) h.lt

pub le_false : (a b : ℤ) → b ≤ℤ a → lt_z a b ≡ false
le_false a b h = is_false (lt_z a b) (λ t. clash_ℤ {a = a} {b = b} (lt_z_yes t) h)

pub true_lt : (a b : ℤ) → lt_z a b ≡ true → a <ℤ b
true_lt a b e = lt_z_yes (subst T (sym e) tt)

pub true_le : (a b : ℤ) → le_z a b ≡ true → a ≤ℤ b
true_le a b e = le_z_yes (subst T (sym e) tt)

pub lt_or_le : (a b : ℤ) → (a <ℤ b) ⊎ (b ≤ℤ a)
lt_or_le a b = at (lt_z a b) refl
  where
    at : (t : Bool) → lt_z a b ≡ t → (a <ℤ b) ⊎ (b ≤ℤ a)
    at true e = inl (true_lt a b e)
    at false e = inr (lt_z_no {a = a} {b = b} (subst (λ (t : Bool). T (not t)) (sym e) tt))

-- ---- a number between bounds, by its size
pub size_up : (n : ℕ) (z : ℤ) → pos 0 ≤ℤ z → z ≤ℤ pos n → nat_abs z ≤ n
size_up n (pos m) low high = leb→le m n high.le
size_up n (negsuc m) low high = absurd low.le

pub size_within : (n : ℕ) (z : ℤ) → negsuc n ≤ℤ z → z ≤ℤ pos (suc n) → nat_abs z ≤ suc n
size_within n (pos m) low high = leb→le m (suc n) high.le
size_within n (negsuc m) low high = let l : m ≤ n = leb→le m n low.le in omega arith

-- ---- differences

-- a - b where it is no less than 0
sub_up : (a b : ℕ) → b ≤ a → sub_ℕ a b ≡ pos (a - b)
sub_up a b h = simp (le-ltb a b h)

pub pos_less : (a b : ℕ) → b ≤ a → pos a -ℤ pos b ≡ pos (a - b)
pos_less a zero h = let same : a + 0 ≡ a - 0 = omega arith in ap pos same
pos_less a (suc b) h = sub_up a (suc b) h

-- (a + n) - a and a - (a + n)
pub rise_of : (a : ℤ) (n : ℕ) → (a +ℤ pos n) -ℤ a ≡ pos n
rise_of a n = ap (λ (z : ℤ). z -ℤ a) (+ℤ_comm a (pos n)) ∙ +ℤ-neg_ℤ_cancel (pos n) a

pub fall_of : (a : ℤ) (n : ℕ) → a -ℤ (a +ℤ pos n) ≡ neg_ℤ (pos n)
fall_of a n =
    ap (λ (z : ℤ). a +ℤ z) (neg_ℤ-+ℤ a (pos n))
    ∙ sym (+ℤ_assoc a (neg_ℤ a) (neg_ℤ (pos n)))
    ∙ ap (λ (z : ℤ). z +ℤ neg_ℤ (pos n)) (+ℤ_invr a)
    ∙ +ℤ_idl (neg_ℤ (pos n))

-- ---- a number and a whole number more

pub more_more : (a : ℤ) (n m : ℕ) → (a +ℤ pos n) +ℤ pos m ≡ a +ℤ pos (n + m)
more_more a n m = +ℤ_assoc a (pos n) (pos m)

back : (a b : ℤ) (n : ℕ) → b -ℤ a ≡ pos n → b ≡ a +ℤ pos n
back a b n e = sym (+ℤ_comm a (pos n) ∙ ap (λ (z : ℤ). z +ℤ a) (sym e) ∙ -ℤ-+ℤ_cancel b a)

pub more_le : (a : ℤ) (n : ℕ) → a ≤ℤ (a +ℤ pos n)
more_le a n = record { le = go a }
  where
    go : (a : ℤ) → T (le_z a (a +ℤ pos n))
    go (pos a) = le→leb a (a + n) (omega arith)
    go (negsuc a) =
        by_test (λ (z : ℤ). T (le_z (negsuc a) z)) (ltb n (suc a)) (negsuc (suc a - suc n)) (pos (n - suc a))
        (λ t. le→leb (suc a - suc n) a (omega arith))
        (λ t. tt)

pub le_more : (a b : ℤ) → a ≤ℤ b → (n : ℕ) × (b ≡ a +ℤ pos n)
le_more a b h = let d = by a b h in (d.0, back a b d.0 d.1)
  where
    by : (a b : ℤ) → a ≤ℤ b → (n : ℕ) × (b -ℤ a ≡ pos n)
    by (pos a) (pos b) h = (b - a, pos_less b a (leb→le a b h.le))
    by (pos a) (negsuc b) h = absurd h.le
    by (negsuc a) (pos b) h = (b + suc a, refl)
    by (negsuc a) (negsuc b) h = let l : b ≤ a = leb→le b a h.le in (suc a - suc b, sub_up (suc a) (suc b) (omega arith))

pub lt_more : (a b : ℤ) → a <ℤ b → (n : ℕ) × (b ≡ a +ℤ pos (suc n))
lt_more a b h = let d = by a b h in (d.0, back a b (suc d.0) d.1)
  where
    by : (a b : ℤ) → a <ℤ b → (n : ℕ) × (b -ℤ a ≡ pos (suc n))
    by (pos a) (pos b) h =
        let l : a < b = ltb→lt a b h.lt in
        (b - a - 1, pos_less b a (omega arith) ∙ ap pos (let e : b - a ≡ suc (b - a - 1) = omega arith in e))
    by (pos a) (negsuc b) h = absurd h.lt
    by (negsuc a) (pos b) h = (b + a, ap pos (let e : b + suc a ≡ suc (b + a) = omega arith in e))
    by (negsuc a) (negsuc b) h =
        let l : b < a = ltb→lt b a h.lt in
        (a - b - 1, sub_up (suc a) (suc b) (omega arith) ∙ ap pos (let e : suc a - suc b ≡ suc (a - b - 1) = omega arith in e))

-- a larger whole number more gives no less
pub more_mono : (a : ℤ) (n m : ℕ) → n ≤ m → (a +ℤ pos n) ≤ℤ (a +ℤ pos m)
more_mono a n m h =
    subst (λ (z : ℤ). (a +ℤ pos n) ≤ℤ z)
    (more_more a n (m - n) ∙ ap (λ (k : ℕ). a +ℤ pos k) (let e : n + (m - n) ≡ m = omega arith in e))
    (more_le (a +ℤ pos n) (m - n))

-- ---- the order

pub lt_le : (a b : ℤ) → a <ℤ b → a ≤ℤ b
lt_le a b h = let d = lt_more a b h in subst (λ (z : ℤ). a ≤ℤ z) (sym d.1) (more_le a (suc d.0))

pub le_le : (a b c : ℤ) → a ≤ℤ b → b ≤ℤ c → a ≤ℤ c
le_le a b c h k = go (le_more a b h) (le_more b c k)
  where
    go : (n : ℕ) × (b ≡ a +ℤ pos n) → (m : ℕ) × (c ≡ b +ℤ pos m) → a ≤ℤ c
    go (n, e) (m, f) =
        subst (λ (z : ℤ). a ≤ℤ z) (sym (f ∙ ap (λ (z : ℤ). z +ℤ pos m) e ∙ more_more a n m)) (more_le a (n + m))

pub le_same : (a b : ℤ) → a ≤ℤ b → b ≤ℤ a → a ≡ b
le_same (pos a) (pos b) h k = ap pos (le_antisymm (leb→le a b h.le) (leb→le b a k.le))
le_same (pos a) (negsuc b) h k = absurd h.le
le_same (negsuc a) (pos b) h k = absurd k.le
le_same (negsuc a) (negsuc b) h k = ap negsuc (le_antisymm (leb→le a b k.le) (leb→le b a h.le))
