-- Rounding to the nearest whole number: equal fractions round alike, a power of two cancels, and a shift finds the number. Assumes nothing.
-- Exponents are variables here: 2 ^ 1074 as a numeral has too many digits for `omega`.
use mathlib.Core.Path.{◌≡◌, refl, sym, ap, ap₂, ◌∙◌, subst}
use mathlib.Core.Bool.{Bool, cond}
use mathlib.Core.Logic.{◌⊎◌, inl, inr}
use Prim.Native.Nat.{ℕ, zero, suc, ◌+◌, ◌-◌, ◌*◌, ◌/◌, ◌%◌, ◌^◌, ◌≤◌, ◌<◌, zero-le, compare, Ordering}
use native.Mathlib.Nat.{le_trans, le_of_eq, le-suc, lt_irrefl, lt_of_lt_of_le, lt_of_le_of_lt, eq-or-lt_of_le, add_comm, mul_comm, mul_assoc, mul_right_comm, suc-mul, mod-lt, mod-eq_of_lt, div-eq_of_lt, le-div_iff_mul-le, pow-suc, mul-le-mul_left}
use native.Mathlib.Numerals.{add-one}
use native.Mathlib.Omega.{arith}
use lib.Dec.{leb, eqb, is_le, compare_is_eq}
use borrow.Author.Tests.{le-leb, lt-leb, eq-eqb, ne_eqb}
use lib.Ieee.{nearest as ieee}
use lib.Ieee.Nearest.{closest, closest_same, nearest-ge}
use lib.Pow.{pow_pos, pow-add, pow_mono, shl_lt, shr-shr, split, high, ones_lt, mod-pow-add}
use Rattle.reading.specs.Conversion.{nearest}

-- the rule is the one by which IEEE 754's operations round, as the library has it
pub nearest_closest : (n d : ℕ) → nearest n d ≡ closest n d
unfolding nearest
nearest_closest n d = go (n / d) (compare (n % d * 2) d)
  where
    go : (q : ℕ) (o : Ordering) → cond (compare_is_eq o) (q + q % 2) (cond (is_le o) q (suc q)) ≡ ieee q o
    go q Ordering.lt = refl
    go q Ordering.eq = refl
    go q Ordering.gt = refl

-- equal fractions round alike
pub nearest_same : (n d n' d' : ℕ) → 0 < d → 0 < d' → n * d' ≡ n' * d → nearest n d ≡ nearest n' d'
nearest_same n d n' d' p p' e = nearest_closest n d ∙ closest_same n d n' d' p p' e ∙ sym (nearest_closest n' d')

-- a common power of two cancels
pub nearest_cancel : (n j k : ℕ) → nearest (n * 2 ^ k) (2 ^ (j + k)) ≡ nearest n (2 ^ j)
nearest_cancel n j k =
    nearest_same (n * 2 ^ k) (2 ^ (j + k)) n (2 ^ j) (pow_pos (j + k)) (pow_pos j)
    (mul_right_comm n (2 ^ k) (2 ^ j) ∙ mul_assoc n (2 ^ j) (2 ^ k) ∙ ap (λ (x : ℕ). n * x) (sym (pow-add 2 j k)))

-- ---- by how twice the remainder compares
abbrev pub ruled : ℕ → ℕ → ℕ → ℕ
ruled q twice d = cond (eqb twice d) (q + q % 2) (cond (leb twice d) q (suc q))

pub ruled_less : (q twice d : ℕ) → twice < d → ruled q twice d ≡ q
ruled_less q twice d h =
    ap (λ (b : Bool). cond b (q + q % 2) (cond (leb twice d) q (suc q))) (ne_eqb twice d (λ e. lt_irrefl d (subst (λ (x : ℕ). x < d) e h)))
    ∙ ap (λ (b : Bool). cond b q (suc q)) (le-leb twice d (omega arith))

pub ruled_tie : (q twice d : ℕ) → twice ≡ d → ruled q twice d ≡ q + q % 2
ruled_tie q twice d e = ap (λ (b : Bool). cond b (q + q % 2) (cond (leb twice d) q (suc q))) (eq-eqb twice d e)

pub ruled_more : (q twice d : ℕ) → d < twice → ruled q twice d ≡ suc q
ruled_more q twice d h =
    ap (λ (b : Bool). cond b (q + q % 2) (cond (leb twice d) q (suc q))) (ne_eqb twice d (λ e. lt_irrefl d (subst (λ (x : ℕ). d < x) e h)))
    ∙ ap (λ (b : Bool). cond b q (suc q)) (lt-leb twice d h)

-- ---- by a power of two from 2 up: with h wholes of 2^i and s more, h odd means a half and more, and s then says whether it is just a half. One less is h
-- wholes still, unless s is 0; so taking one away where h / 2 is even decides the tie, and nothing else.
module _ (i h : ℕ) where
  abbrev kept : ℕ → ℕ
  kept s = (h * 2 ^ i + s - 1 + h / 2 % 2) / 2 ^ i

  kept_odd : (s : ℕ) → s < 2 ^ i → 0 < h * 2 ^ i + s → h / 2 % 2 ≡ 1 → kept s ≡ h
  kept_odd s l some c = ap (λ (x : ℕ). x / 2 ^ i) back ∙ high h i l
    where
      back : h * 2 ^ i + s - 1 + h / 2 % 2 ≡ h * 2 ^ i + s
      back = omega arith

  kept_more : (s : ℕ) → suc s < 2 ^ i → h / 2 % 2 ≡ 0 → kept (suc s) ≡ h
  kept_more s l c = ap (λ (x : ℕ). x / 2 ^ i) back ∙ high h i (lt_of_le_of_lt (le-suc s) l)
    where
      back : h * 2 ^ i + suc s - 1 + h / 2 % 2 ≡ h * 2 ^ i + s
      back = omega arith

  kept_none : h / 2 % 2 ≡ 0 → 0 < h → kept 0 ≡ h - 1
  kept_none c some = ap (λ (x : ℕ). x / 2 ^ i) back ∙ high (h - 1) i (ones_lt i)
    where
      back : h * 2 ^ i + 0 - 1 + h / 2 % 2 ≡ (h - 1) * 2 ^ i + (2 ^ i - 1)
      back =
          let e : h * 2 ^ i ≡ (h - 1) * 2 ^ i + 2 ^ i = ap (λ (x : ℕ). x * 2 ^ i) (omega arith) ∙ suc-mul (h - 1) (2 ^ i) in
          let p : 0 < 2 ^ i = pow_pos i in
          omega arith

  abbrev Shifted : ℕ → Type 0
  Shifted s = ruled (h / 2) ((h % 2 * 2 ^ i + s) * 2) (2 * 2 ^ i) ≡ (kept s + 1) / 2

  -- h even: less than a half
  even_shifted : (s : ℕ) → s < 2 ^ i → h % 2 ≡ 0 → (kept s ≡ h) ⊎ ((kept s ≡ h - 1) × (0 < h)) → Shifted s
  even_shifted s l b k = ruled_less (h / 2) ((h % 2 * 2 ^ i + s) * 2) (2 * 2 ^ i) less ∙ half k
    where
      less : (h % 2 * 2 ^ i + s) * 2 < 2 * 2 ^ i
      less = let z : h % 2 * 2 ^ i ≡ 0 * 2 ^ i = ap (λ (x : ℕ). x * 2 ^ i) b in omega arith

      half : (kept s ≡ h) ⊎ ((kept s ≡ h - 1) × (0 < h)) → h / 2 ≡ (kept s + 1) / 2
      half (inl e) = let r = ap (λ (x : ℕ). (x + 1) / 2) e in omega arith
      half (inr (e, p)) = omega arith

  -- h odd: just a half, or more
  odd_none : h % 2 ≡ 1 → (h / 2 + h / 2 % 2 ≡ (kept 0 + 1) / 2) → Shifted 0
  odd_none b k = ruled_tie (h / 2) ((h % 2 * 2 ^ i + 0) * 2) (2 * 2 ^ i) just ∙ k
    where
      just : (h % 2 * 2 ^ i + 0) * 2 ≡ 2 * 2 ^ i
      just = let z : h % 2 * 2 ^ i ≡ 1 * 2 ^ i = ap (λ (x : ℕ). x * 2 ^ i) b in omega arith

  odd_more : (s : ℕ) → h % 2 ≡ 1 → kept (suc s) ≡ h → Shifted (suc s)
  odd_more s b k = ruled_more (h / 2) ((h % 2 * 2 ^ i + suc s) * 2) (2 * 2 ^ i) more ∙ half
    where
      more : 2 * 2 ^ i < (h % 2 * 2 ^ i + suc s) * 2
      more = let z : h % 2 * 2 ^ i ≡ 1 * 2 ^ i = ap (λ (x : ℕ). x * 2 ^ i) b in omega arith

      half : suc (h / 2) ≡ (kept (suc s) + 1) / 2
      half = omega arith

  shifted : (s : ℕ) → s < 2 ^ i → 0 < h * 2 ^ i + s → Shifted s
  shifted s l some = go s l some (eq-or-lt_of_le (below_two h)) (eq-or-lt_of_le (below_two (h / 2)))
    where
      below_two : (x : ℕ) → x % 2 ≤ 1
      below_two x = omega arith

      from_zero : (x : ℕ) → 0 ≤ x
      from_zero x = zero-le

      from : (x : ℕ) → x < 1 → x ≡ 0
      from x l = omega arith

      some_h : 0 < h * 2 ^ i + 0 → 0 < h
      some_h p = elim (eq-or-lt_of_le (from_zero h)) [
        | inl e ↦ absurd (let z : h * 2 ^ i ≡ 0 * 2 ^ i = ap (λ (x : ℕ). x * 2 ^ i) (sym e) in omega arith)
        | inr q ↦ q
      ]

      go : (s : ℕ) → s < 2 ^ i → 0 < h * 2 ^ i + s → (h % 2 ≡ 1) ⊎ (h % 2 < 1) → (h / 2 % 2 ≡ 1) ⊎ (h / 2 % 2 < 1) → Shifted s
      go zero l p (inl b) (inl c) = odd_none b (let k = kept_odd 0 l p c in omega arith)
      go zero l p (inl b) (inr c) = odd_none b (let k = kept_none (from (h / 2 % 2) c) (some_h p) in omega arith)
      go (suc s) l p (inl b) (inl c) = odd_more s b (kept_odd (suc s) l p c)
      go (suc s) l p (inl b) (inr c) = odd_more s b (kept_more s l (from (h / 2 % 2) c))
      go s l p (inr b) (inl c) = even_shifted s l (from (h % 2) b) (inl (kept_odd s l p c))
      go zero l p (inr b) (inr c) = even_shifted 0 l (from (h % 2) b) (inr (kept_none (from (h / 2 % 2) c) (some_h p), some_h p))
      go (suc s) l p (inr b) (inr c) = even_shifted (suc s) l (from (h % 2) b) (inl (kept_more s l (from (h / 2 % 2) c)))

pub nearest_shift : (n i : ℕ) → 0 < n → nearest n (2 ^ (i + 1)) ≡ ((n - 1 + n / 2 ^ i / 2 % 2) / 2 ^ i + 1) / 2
unfolding nearest
nearest_shift n i p =
    ap₂ (λ (q r : ℕ). ruled q (r * 2) (2 ^ (i + 1))) (sym (shr-shr n i 1)) rest
    ∙ ap (ruled (n / 2 ^ i / 2) ((n / 2 ^ i % 2 * 2 ^ i + n % 2 ^ i) * 2)) double
    ∙ shifted i (n / 2 ^ i) (n % 2 ^ i) (mod-lt n (pow_pos i)) (subst (λ (x : ℕ). 0 < x) (sym (split n i)) p)
    ∙ ap (λ (x : ℕ). ((x - 1 + n / 2 ^ i / 2 % 2) / 2 ^ i + 1) / 2) (split n i)
  where
    double : 2 ^ (i + 1) ≡ 2 * 2 ^ i
    double = ap (λ (x : ℕ). 2 ^ x) (add-one i) ∙ pow-suc 2 i ∙ mul_comm (2 ^ i) 2

    rest : n % 2 ^ (i + 1) ≡ n / 2 ^ i % 2 * 2 ^ i + n % 2 ^ i
    rest = ap (λ (x : ℕ). n % 2 ^ x) (add_comm i 1) ∙ mod-pow-add n 1 i

-- less than a half is 0
pub nearest_none : (n d : ℕ) → 2 * n < d → nearest n d ≡ 0
unfolding nearest
nearest_none n d h =
    ap₂ (λ (q r : ℕ). ruled q (r * 2) d) (div-eq_of_lt less) (mod-eq_of_lt less) ∙ ruled_less 0 (n * 2) d (omega arith)
  where
    less : n < d
    less = omega arith

-- a number of at least w wholes rounds to at least w
pub nearest_from : (n d w : ℕ) → 0 < d → w * d ≤ n → w ≤ nearest n d
nearest_from n d w p h =
    le_trans ((le-div_iff_mul-le p).1 h) (le_trans (nearest-ge (n / d) (compare (n % d * 2) d)) (le_of_eq (sym (nearest_closest n d))))

-- n × 2^k / 2^l, by where k lies below l: at least n; the nearest of a smaller fraction; 0
pub nearest_high : (n k l : ℕ) → l ≤ k → n ≤ nearest (n * 2 ^ k) (2 ^ l)
nearest_high n k l h = nearest_from (n * 2 ^ k) (2 ^ l) n (pow_pos l) (mul-le-mul_left n (pow_mono h))

pub nearest_middle : (n k i l : ℕ) → i + 1 + k ≡ l → nearest (n * 2 ^ k) (2 ^ l) ≡ nearest n (2 ^ (i + 1))
nearest_middle n k i l e = ap (λ (x : ℕ). nearest (n * 2 ^ k) (2 ^ x)) (sym e) ∙ nearest_cancel n (i + 1) k

pub nearest_low : (n k j l : ℕ) → n < 2 ^ j → suc (j + k) ≤ l → nearest (n * 2 ^ k) (2 ^ l) ≡ 0
nearest_low n k j l h m = nearest_none (n * 2 ^ k) (2 ^ l) (lt_of_lt_of_le twice (pow_mono m))
  where
    twice : 2 * (n * 2 ^ k) < 2 ^ suc (j + k)
    twice =
        let p : n * 2 ^ k < 2 ^ (j + k) = shl_lt j k h in
        let e : 2 ^ suc (j + k) ≡ 2 ^ (j + k) * 2 = pow-suc 2 (j + k) in
        omega arith
