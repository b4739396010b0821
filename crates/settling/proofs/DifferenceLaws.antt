-- Differences of signed numbers that are no less than 0: a number above another is above it by a whole number, and what is taken off a
-- number above another leaves so much less. By the signs. Assumes nothing.
use mathlib.Core.Path.{◌≡◌, sym, ap, ◌∙◌, subst}
use Prim.Native.Nat.{ℕ, zero, suc, ◌+◌, ◌-◌, ◌≤◌, ◌<◌}
use native.Mathlib.Omega.{arith}
use lib.Dec.{T, ltb, le→leb, ltb→lt}
use lib.IntN.{ℤ, pos, negsuc, neg_ℤ, nat_abs, sub_ℕ, ◌+ℤ◌, ◌-ℤ◌, +ℤ_assoc, +ℤ_comm, -ℤ-+ℤ_cancel}
use lib.Signed.{◌≤ℤ◌, ◌<ℤ◌, le_z}
use borrow.Author.Tests.{le-ltb}
use Rattle.whole.proofs.Choice.{by_test}

-- a - b where it is no less than 0
pub sub_up : (a b : ℕ) → b ≤ a → sub_ℕ a b ≡ pos (a - b)
sub_up a b h = simp (le-ltb a b h)

pub pos_less : (a b : ℕ) → b ≤ a → pos a -ℤ pos b ≡ pos (a - b)
pos_less a zero h = let same : a + 0 ≡ a - 0 = omega arith in ap pos same
pos_less a (suc b) h = sub_up a (suc b) h

-- a number above another is above it by one or more
pub above_by : (a b : ℤ) → a <ℤ b → (b -ℤ a ≡ pos (nat_abs (b -ℤ a))) × (0 < nat_abs (b -ℤ a))
above_by a b h = known (b -ℤ a) (over a b h)
  where
    over : (a b : ℤ) → a <ℤ b → (x : ℕ) × (b -ℤ a ≡ pos (suc x))
    over (pos a) (pos b) h =
        let l : a < b = ltb→lt a b h.lt in
        (b - a - 1, pos_less b a (omega arith) ∙ ap pos (let e : b - a ≡ suc (b - a - 1) = omega arith in e))
    over (pos a) (negsuc b) h = absurd h.lt
    over (negsuc a) (pos b) h = (b + a, ap pos (let e : b + suc a ≡ suc (b + a) = omega arith in e))
    over (negsuc a) (negsuc b) h =
        let l : b < a = ltb→lt b a h.lt in
        (a - b - 1, sub_up (suc a) (suc b) (omega arith) ∙ ap pos (let e : suc a - suc b ≡ suc (a - b - 1) = omega arith in e))

    known : (z : ℤ) → (x : ℕ) × (z ≡ pos (suc x)) → (z ≡ pos (nat_abs z)) × (0 < nat_abs z)
    known z (x, e) = (e ∙ ap pos (sym (ap nat_abs e)), (let s : nat_abs z ≡ suc x = ap nat_abs e in omega arith))

-- and no smaller than it where the difference is no less than 0
pub no_smaller : (a b : ℤ) (x : ℕ) → b -ℤ a ≡ pos x → a ≤ℤ b
no_smaller a b x e = subst (λ (z : ℤ). a ≤ℤ z) back (record { le = more a x })
  where
    back : a +ℤ pos x ≡ b
    back = +ℤ_comm a (pos x) ∙ ap (λ (z : ℤ). z +ℤ a) (sym e) ∙ -ℤ-+ℤ_cancel b a

    more : (a : ℤ) (x : ℕ) → T (le_z a (a +ℤ pos x))
    more (pos a) x = le→leb a (a + x) (omega arith)
    more (negsuc a) x =
        by_test (λ (z : ℤ). T (le_z (negsuc a) z)) (ltb x (suc a)) (negsuc (suc a - suc x)) (pos (x - suc a))
        (λ t. le→leb (suc a - suc x) a (omega arith))
        (λ t. tt)

-- what is taken off may be taken off last
pub less_swap : (a b c : ℤ) → (a -ℤ b) -ℤ c ≡ (a -ℤ c) -ℤ b
less_swap a b c = +ℤ_assoc a (neg_ℤ b) (neg_ℤ c) ∙ ap (λ (z : ℤ). a +ℤ z) (+ℤ_comm (neg_ℤ b) (neg_ℤ c)) ∙ sym (+ℤ_assoc a (neg_ℤ c) (neg_ℤ b))

-- a - x - b, for a above b by D or less
pub less_by : (a b : ℤ) (D x : ℕ) → a -ℤ b ≡ pos D → x ≤ D → (a -ℤ pos x) -ℤ b ≡ pos (D - x)
less_by a b D x e h = less_swap a (pos x) b ∙ ap (λ (z : ℤ). z -ℤ pos x) e ∙ pos_less D x h
