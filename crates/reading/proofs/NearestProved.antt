-- The rule's number is the nearest, and even at a tie. n / d lies r d-ths past q, r below d: q is r away, the next one d - r, and every other at least d more
-- than the one on its side; which of r and d - r is smaller is how twice r compares with d. Assumes nothing.
use mathlib.Core.Path.{◌≡◌, refl, sym, ap, ◌∙◌, subst⁻¹}
use mathlib.Core.Bool.{Bool, true, false}
use mathlib.Core.Logic.{◌⊎◌, inl, inr}
use Prim.Native.Nat.{ℕ, suc, ◌+◌, ◌-◌, ◌*◌, ◌/◌, ◌%◌, ◌≤◌, ◌<◌}
use native.Mathlib.Nat.{eq-or-lt_of_le, mod-lt, div-add-mod', suc-mul, mul-le-mul_right}
use native.Mathlib.Omega.{arith}
use lib.Dec.{leb}
use borrow.Author.Tests.{leb-true, leb-false}
use Rattle.reading.specs.Conversion.{nearest}
use Rattle.reading.specs.Laws.{away, NearestTheorem}
use Rattle.reading.proofs.NearestLaws.{ruled, ruled_less, ruled_tie, ruled_more}

-- one of two orders
pub order : (a b : ℕ) → (a ≤ b) ⊎ (b < a)
order a b = go (leb a b) refl
  where
    go : (t : Bool) → leb a b ≡ t → (a ≤ b) ⊎ (b < a)
    go true e = inl (leb-true a b e)
    go false e = inr (leb-false a b e)

-- ---- with n = q × d + r
module _ (n d q r : ℕ) (is : q * d + r ≡ n) (l : r < d) where
  below_is : away n d q ≡ r
  below_is = omega arith

  above_is : away n d (suc q) ≡ d - r
  above_is = let e : suc q * d ≡ q * d + d = suc-mul q d in omega arith

  below : (w : ℕ) → w ≤ q → r ≤ away n d w
  below w h = let m : w * d ≤ q * d = mul-le-mul_right d h in omega arith

  further_below : (w : ℕ) → w < q → r < away n d w
  further_below w h =
      let m : suc w * d ≤ q * d = mul-le-mul_right d h in
      let e : suc w * d ≡ w * d + d = suc-mul w d in
      omega arith

  above : (w : ℕ) → q < w → d - r ≤ away n d w
  above w h =
      let m : suc q * d ≤ w * d = mul-le-mul_right d h in
      let e : suc q * d ≡ q * d + d = suc-mul q d in
      omega arith

  further_above : (w : ℕ) → suc q < w → d - r < away n d w
  further_above w h =
      let m : suc (suc q) * d ≤ w * d = mul-le-mul_right d h in
      let e : suc (suc q) * d ≡ suc q * d + d = suc-mul (suc q) d in
      let f : suc q * d ≡ q * d + d = suc-mul q d in
      omega arith

  abbrev Closest : ℕ → Type 0
  Closest x = (w : ℕ) → away n d x ≤ away n d w

  abbrev Even : ℕ → Type 0
  Even x = (w : ℕ) → away n d w ≡ away n d x → (w ≡ x → ⊥) → x % 2 ≡ 0

  near : r ≤ d - r → Closest q
  near h w = elim (order w q) [ inl k ↦ omega (arith, below_is, below w k) | inr k ↦ omega (arith, below_is, above w k) ]

  next : d - r ≤ r → Closest (suc q)
  next h w = elim (order w q) [ inl k ↦ omega (arith, above_is, below w k) | inr k ↦ omega (arith, above_is, above w k) ]

  -- nearer than the other side, none is as near
  near_even : r < d - r → Even q
  near_even h w e ne =
      elim (order w q) [
        | inl k ↦ elim (eq-or-lt_of_le k) [ inl j ↦ absurd (ne j) | inr j ↦ absurd (omega (arith, below_is, further_below w j)) ]
        | inr k ↦ absurd (omega (arith, below_is, above w k))
      ]

  next_even : d - r < r → Even (suc q)
  next_even h w e ne =
      elim (order w q) [
        | inl k ↦ absurd (omega (arith, above_is, below w k))
        | inr k ↦ elim (eq-or-lt_of_le k) [ inl j ↦ absurd (ne (sym j)) | inr j ↦ absurd (omega (arith, above_is, further_above w j)) ]
      ]

  tied : r * 2 ≡ d → Closest (q + q % 2)
  tied h = elim (eq-or-lt_of_le (two q)) [
    | inl e ↦ subst⁻¹ Closest (ap (λ (x : ℕ). q + x) e ∙ one q) (next (omega arith))
    | inr e ↦ subst⁻¹ Closest (ap (λ (x : ℕ). q + x) (none (q % 2) e) ∙ zeroed q) (near (omega arith))
  ]
    where
      two : (x : ℕ) → x % 2 ≤ 1
      two x = omega arith

      one : (x : ℕ) → x + 1 ≡ suc x
      one x = omega arith

      none : (x : ℕ) → x < 1 → x ≡ 0
      none x h = omega arith

      zeroed : (x : ℕ) → x + 0 ≡ x
      zeroed x = omega arith

  rule_closest : Closest (ruled q (r * 2) d)
  rule_closest = elim (order d (r * 2)) [
    | inl k ↦ elim (eq-or-lt_of_le k) [
      | inl e ↦ subst⁻¹ Closest (ruled_tie q (r * 2) d (sym e)) (tied (sym e))
      | inr j ↦ subst⁻¹ Closest (ruled_more q (r * 2) d j) (next (omega arith))
    ]
    | inr k ↦ subst⁻¹ Closest (ruled_less q (r * 2) d k) (near (omega arith))
  ]

  rule_even : Even (ruled q (r * 2) d)
  rule_even = elim (order d (r * 2)) [
    | inl k ↦ elim (eq-or-lt_of_le k) [
      | inl e ↦ subst⁻¹ Even (ruled_tie q (r * 2) d (sym e)) (λ w a ne. omega arith)
      | inr j ↦ subst⁻¹ Even (ruled_more q (r * 2) d j) (next_even (omega arith))
    ]
    | inr k ↦ subst⁻¹ Even (ruled_less q (r * 2) d k) (near_even (omega arith))
  ]

pub nearest_proved : NearestTheorem
unfolding nearest
nearest_proved n d some = record {
  closest = rule_closest n d (n / d) (n % d) (div-add-mod' n d) (mod-lt n some);
  even = rule_even n d (n / d) (n % d) (div-add-mod' n d) (mod-lt n some);
}
