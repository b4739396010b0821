-- The straight line from p to q: with x right of p by n, q right of p by m and a rise or a fall of k, the change is ⌊k n / m⌋, which is no more
-- than k and grows with n. So at p the line has p's y, it lies between both y, and it never falls where q's y is no smaller. Assumes nothing.
use mathlib.Core.Path.{◌≡◌, refl, sym, ap, ap₂, ◌∙◌, subst⁻¹}
use mathlib.Core.Logic.{◌⊎◌, inl, inr}
use Prim.Native.Nat.{ℕ, zero, suc, ◌+◌, ◌-◌, ◌*◌, ◌/◌, ◌≤◌, ◌<◌}
use native.Mathlib.Nat.{le_trans, le_of_eq, zero-div, zero-mul, mul_comm, mul-le-mul_left, div-le_of_le-mul, le-div_iff_mul-le, div-mul-le_self}
use native.Mathlib.Omega.{arith}
use lib.IntN.{ℤ, pos, neg_ℤ, nat_abs, ◌+ℤ◌, ◌-ℤ◌, ◌*ℤ◌, +ℤ_assoc, +ℤ_idr, *ℤ-zero}
use lib.Signed.{◌≤ℤ◌, ◌<ℤ◌}
use Rattle.whole.specs.Quotient.{cut}
use Rattle.curve.specs.Curve.{Point, line_at}
use Rattle.curve.proofs.OrderLaws.{lt_or_le, lt_le, le_le, le_more, lt_more, more_le, more_mono, more_more, rise_of, fall_of, pos_less}

-- ---- the change

-- a larger number has no smaller quotient
div_le : {a b d : ℕ} → 0 < d → a ≤ b → a / d ≤ b / d
div_le {a} {b} {d} p h = (le-div_iff_mul-le p).1 (le_trans (div-mul-le_self a d) h)

share_le : (k n m : ℕ) → n ≤ m → k * n / m ≤ k
share_le k n m h = div-le_of_le-mul m (le_trans (mul-le-mul_left k h) (le_of_eq (mul_comm k m)))

cut_fall : (a m : ℕ) → cut (neg_ℤ (pos a)) m ≡ neg_ℤ (pos (a / m))
unfolding cut
cut_fall zero m = simp zero-div
cut_fall (suc a) m = refl

times_fall : (k n : ℕ) → neg_ℤ (pos k) *ℤ pos n ≡ neg_ℤ (pos (k * n))
times_fall zero n = simp zero-mul
times_fall (suc k) n = refl

-- ---- the line, by whole numbers

module _ (p q : Point) (x : ℤ) (n m k : ℕ) (at : x ≡ p.x +ℤ pos n) (right : q.x ≡ p.x +ℤ pos m) where
  along : x -ℤ p.x ≡ pos n
  along = ap (λ (z : ℤ). z -ℤ p.x) at ∙ rise_of p.x n

  across : nat_abs (q.x -ℤ p.x) ≡ m
  across = ap nat_abs (ap (λ (z : ℤ). z -ℤ p.x) right ∙ rise_of p.x m)

  line_up : q.y ≡ p.y +ℤ pos k → line_at p q x ≡ p.y +ℤ pos (k * n / m)
  unfolding line_at cut
  line_up e =
      ap₂ (λ (z : ℤ) (d : ℕ). p.y +ℤ cut z d)
      (ap₂ ◌*ℤ◌ (ap (λ (z : ℤ). z -ℤ p.y) e ∙ rise_of p.y k) along)
      across

  line_down : p.y ≡ q.y +ℤ pos k → n ≤ m → line_at p q x ≡ q.y +ℤ pos (k - k * n / m)
  unfolding line_at
  line_down e h =
      ap₂ (λ (z : ℤ) (d : ℕ). p.y +ℤ cut z d)
      (ap₂ ◌*ℤ◌ (ap (λ (z : ℤ). q.y -ℤ z) e ∙ fall_of q.y k) along ∙ times_fall k n)
      across
      ∙ ap₂ ◌+ℤ◌ e (cut_fall (k * n) m)
      ∙ +ℤ_assoc q.y (pos k) (neg_ℤ (pos (k * n / m)))
      ∙ ap (λ (z : ℤ). q.y +ℤ z) (pos_less k (k * n / m) (share_le k n m h))

-- ---- the line's laws

module _ (p q : Point) where
  pub line_left : line_at p q p.x ≡ p.y
  unfolding line_at cut
  line_left =
      ap (λ (z : ℤ). p.y +ℤ cut z (nat_abs (q.x -ℤ p.x))) (ap (λ (z : ℤ). (q.y -ℤ p.y) *ℤ z) none ∙ *ℤ-zero (q.y -ℤ p.y))
      ∙ ap (λ (d : ℕ). p.y +ℤ pos d) (zero-div (nat_abs (q.x -ℤ p.x)))
      ∙ +ℤ_idr p.y
    where
      none : p.x -ℤ p.x ≡ pos 0
      none = ap (λ (z : ℤ). z -ℤ p.x) (sym (+ℤ_idr p.x)) ∙ rise_of p.x 0

  pub line_between : (x : ℤ) → p.x ≤ℤ x → x <ℤ q.x → (low high : ℤ) → low ≤ℤ p.y → low ≤ℤ q.y → p.y ≤ℤ high → q.y ≤ℤ high
      → (low ≤ℤ line_at p q x) × (line_at p q x ≤ℤ high)
  line_between x h l low high lp lq ph qh = go (le_more p.x x h) (lt_more x q.x l) (lt_or_le p.y q.y)
    where
      within : (a c : ℤ) (i k : ℕ) → line_at p q x ≡ a +ℤ pos i → i ≤ k → low ≤ℤ a → c ≡ a +ℤ pos k → c ≤ℤ high
          → (low ≤ℤ line_at p q x) × (line_at p q x ≤ℤ high)
      within a c i k e less below f above =
          subst⁻¹ (λ (z : ℤ). (low ≤ℤ z) × (z ≤ℤ high)) e
          (le_le low a (a +ℤ pos i) below (more_le a i), le_le (a +ℤ pos i) c high (subst⁻¹ (λ (z : ℤ). (a +ℤ pos i) ≤ℤ z) f (more_mono a i k less)) above)

      go : (n : ℕ) × (x ≡ p.x +ℤ pos n) → (j : ℕ) × (q.x ≡ x +ℤ pos (suc j)) → (p.y <ℤ q.y) ⊎ (q.y ≤ℤ p.y)
          → (low ≤ℤ line_at p q x) × (line_at p q x ≤ℤ high)
      go (n, e) (j, f) (inl u) =
          let d = le_more p.y q.y (lt_le p.y q.y u) in
          let right = f ∙ ap (λ (z : ℤ). z +ℤ pos (suc j)) e ∙ more_more p.x n (suc j) in
          within p.y q.y (d.0 * n / (n + suc j)) d.0
          (line_up p q x n (n + suc j) d.0 e right d.1)
          (share_le d.0 n (n + suc j) (omega arith)) lp d.1 qh
      go (n, e) (j, f) (inr u) =
          let d = le_more q.y p.y u in
          let right = f ∙ ap (λ (z : ℤ). z +ℤ pos (suc j)) e ∙ more_more p.x n (suc j) in
          within q.y p.y (d.0 - d.0 * n / (n + suc j)) d.0
          (line_down p q x n (n + suc j) d.0 e right d.1 (omega arith))
          (omega arith) lq d.1 ph

  pub line_mono : p.y ≤ℤ q.y → (x z : ℤ) → p.x ≤ℤ x → x ≤ℤ z → z <ℤ q.x → line_at p q x ≤ℤ line_at p q z
  line_mono u x z h k l = go (le_more p.x x h) (le_more x z k) (lt_more z q.x l) (le_more p.y q.y u)
    where
      go : (n : ℕ) × (x ≡ p.x +ℤ pos n) → (i : ℕ) × (z ≡ x +ℤ pos i) → (j : ℕ) × (q.x ≡ z +ℤ pos (suc j)) → (c : ℕ) × (q.y ≡ p.y +ℤ pos c)
          → line_at p q x ≤ℤ line_at p q z
      go (n, e) (i, f) (j, g) (c, d) =
          let there : z ≡ p.x +ℤ pos (n + i) = f ∙ ap (λ (a : ℤ). a +ℤ pos i) e ∙ more_more p.x n i in
          let right : q.x ≡ p.x +ℤ pos (n + i + suc j) = g ∙ ap (λ (a : ℤ). a +ℤ pos (suc j)) there ∙ more_more p.x (n + i) (suc j) in
          let less : n ≤ n + i = omega arith in
          let some : 0 < n + i + suc j = omega arith in
          subst⁻¹ (λ (a : ℤ). a ≤ℤ line_at p q z) (line_up p q x n (n + i + suc j) c e right d)
          (subst⁻¹ (λ (a : ℤ). (p.y +ℤ pos (c * n / (n + i + suc j))) ≤ℤ a) (line_up p q z (n + i) (n + i + suc j) c there right d)
          (more_mono p.y (c * n / (n + i + suc j)) (c * (n + i) / (n + i + suc j)) (div_le some (mul-le-mul_left c less))))
