-- From a double's bits to its watts. Assumes nothing.
use mathlib.Core.Path.{◌≡◌, refl, sym, ap, ◌∙◌, subst}
use mathlib.Core.Bool.{Bool, true, false, cond}
use Prim.Native.Nat.{ℕ, zero, suc, ◌+◌, ◌-◌, ◌*◌, ◌/◌, ◌%◌, ◌^◌, ◌≤◌, ◌<◌, zero-le}
use mathlib.Core.Logic.{◌⊎◌, inl, inr}
use native.Mathlib.Nat.{mul_assoc, mod-lt, lt_irrefl, lt_of_lt_of_le, le_of_suc-le-suc, not-suc-le-zero, eq-or-lt_of_le}
use native.Mathlib.Omega.{arith}
use lib.Dec.{leb, eqb, lit<, lit≤}
use borrow.Author.Tests.{ne_eqb, le-leb, lt-leb}
use lib.IntN.{ℤ, pos, negsuc}
use lib.Ieee.{Float, nan, inf, fin, binary64, up, down, odd, of_bits, of_fields}
use lib.Ieee.Exact.{HasValue, odd_sign}
use lib.Pow.{pow_pos, field}
use Rattle.whole.specs.Signed.{signed}
use Rattle.whole.proofs.Choice.{by_test}
use Rattle.reading.specs.Conversion.{nearest, within, watts_of, most_watts}
use Rattle.reading.proofs.NearestLaws.{nearest_same, nearest_high, nearest_middle, nearest_low}
use Rattle.std.proofs.Common.{None, Some}

down_pos : (e : ℤ) → 0 < down e
down_pos (pos k) = pow_pos 0
down_pos (negsuc k) = pow_pos (suc k)

-- a double of the size a / c has the watts nearest to 1000 a / c
pub watts_of_value : (v : Float) (s : Bool) (a c : ℕ) → 0 < c → HasValue v s a c → watts_of v ≡ within s (nearest (1000 * a) c)
unfolding watts_of
watts_of_value nan s a c p h = absurd h
watts_of_value (inf t) s a c p h = absurd h
watts_of_value (fin t m e) s a c p h =
    ap (λ (b : Bool). within b (nearest (1000 * (m * up e)) (down e))) h.0
    ∙ ap (within s)
    (nearest_same (1000 * (m * up e)) (down e) (1000 * a) c (down_pos e) p
    (mul_assoc 1000 (m * up e) c ∙ ap (λ (x : ℕ). 1000 * x) h.1 ∙ sym (mul_assoc 1000 a (down e))))

-- q × 2^k of the smallest double has the watts nearest to 1000 q × 2^k / 2^l
odd_watts : (s : Bool) (q k l : ℕ) → watts_of (odd 53 s q k l) ≡ within s (nearest (1000 * q * 2 ^ k) (2 ^ l))
odd_watts s q k l =
    watts_of_value (odd 53 s q k l) s (q * 2 ^ k) (2 ^ l) (pow_pos l) (odd_sign 53 s q k l)
    ∙ ap (λ (x : ℕ). within s (nearest x (2 ^ l))) (sym (mul_assoc 1000 q (2 ^ k)))

-- ---- by the exponent's field

-- a normal double: the leading digit is added, and the field counts from 1
normal_watts : (s : Bool) (k t : ℕ) → suc k < 2047 → watts_of (of_fields binary64 s (suc k) t) ≡ within s (nearest (1000 * (2 ^ 52 + t) * 2 ^ k) (2 ^ 1074))
unfolding of_fields
normal_watts s k t h = ap (λ (b : Bool). watts_of (cond b (cond (eqb t 0) (inf s) nan) (odd 53 s (2 ^ 52 + t) k 1074))) (ne_eqb (suc k) 2047 (λ e. lt_irrefl 2047 (subst (λ (x : ℕ). x < 2047) e h))) ∙ odd_watts s (2 ^ 52 + t) k 1074

-- a field of all ones: no number
none_watts : (s : Bool) (t : ℕ) → watts_of (of_fields binary64 s 2047 t) ≡ None
unfolding of_fields watts_of
none_watts s t = by_test (λ (v : Float). watts_of v ≡ None) (eqb t 0) (inf s) nan (λ p. refl) (λ p. refl)

pub too_much : (s : Bool) (size : ℕ) → most_watts < size → within s size ≡ None
unfolding within
too_much s size h = ap (λ (b : Bool). cond b (Some (signed s size)) None) (lt-leb size most_watts h)

in_range : (s : Bool) (size : ℕ) → size ≤ most_watts → within s size ≡ Some (signed s size)
unfolding within
in_range s size h = ap (λ (b : Bool). cond b (Some (signed s size)) None) (le-leb size most_watts h)

pub no_watts : (s : Bool) (size : ℕ) → size ≡ 0 → within s size ≡ Some (pos 0)
no_watts s size e = ap (within s) e ∙ in_range s 0 zero-le ∙ zero_of s
  where
    zero_of : (b : Bool) → Some (signed b 0) ≡ Some (pos 0)
    zero_of true = refl
    zero_of false = refl

high_field : (s : Bool) (x t : ℕ) → 1074 < x → x < 2048 → watts_of (of_fields binary64 s x t) ≡ None
high_field s zero t h m = absurd (not-suc-le-zero h)
high_field s (suc k) t h m = go (eq-or-lt_of_le (le_of_lt_suc m))
  where
    le_of_lt_suc : suc k < 2048 → suc k ≤ 2047
    le_of_lt_suc l = omega arith

    large : most_watts < 1000 * (2 ^ 52 + t)
    large = omega arith

    go : (suc k ≡ 2047) ⊎ (suc k < 2047) → watts_of (of_fields binary64 s (suc k) t) ≡ None
    go (inl e) = ap (λ (x : ℕ). watts_of (of_fields binary64 s x t)) e ∙ none_watts s t
    go (inr l) =
        normal_watts s k t l
        ∙ too_much s (nearest (1000 * (2 ^ 52 + t) * 2 ^ k) (2 ^ 1074))
        (lt_of_lt_of_le large (nearest_high (1000 * (2 ^ 52 + t)) k 1074 (le_of_suc-le-suc h)))

low_field : (s : Bool) (x t : ℕ) → x < 1011 → t < 2 ^ 52 → watts_of (of_fields binary64 s x t) ≡ Some (pos 0)
unfolding of_fields
low_field s zero t h m = odd_watts s t 0 1074 ∙ no_watts s (nearest (1000 * t * 2 ^ 0) (2 ^ 1074)) (nearest_low (1000 * t) 0 63 1074 (omega arith) (lit≤ tt))
low_field s (suc k) t h m =
    normal_watts s k t (omega arith)
    ∙ no_watts s (nearest (1000 * (2 ^ 52 + t) * 2 ^ k) (2 ^ 1074)) (nearest_low (1000 * (2 ^ 52 + t)) k 63 1074 (omega arith) (omega arith))

middle_field : (s : Bool) (x t : ℕ) → 1011 ≤ x → x ≤ 1074 → watts_of (of_fields binary64 s x t) ≡ within s (nearest (1000 * (2 ^ 52 + t)) (2 ^ (1074 - x + 1)))
middle_field s zero t h m = absurd (not-suc-le-zero h)
middle_field s (suc k) t h m =
    normal_watts s k t (omega arith)
    ∙ ap (within s) (nearest_middle (1000 * (2 ^ 52 + t)) k (1074 - suc k) 1074 (omega arith))

-- ---- by the bit pattern, as the code takes it apart
abbrev pub field_of : ℕ → ℕ
field_of b = b / 4503599627370496 % 2048

abbrev pub digits_of : ℕ → ℕ
digits_of b = b % 4503599627370496

abbrev pub minus_of : ℕ → Bool
minus_of b = leb 9223372036854775808 b

parts : (b : ℕ) → of_bits binary64 b ≡ of_fields binary64 (minus_of b) (field_of b) (digits_of b)
unfolding of_bits
parts b = ap (λ (x : ℕ). of_fields binary64 (minus_of b) x (digits_of b)) (field b 11 52)

pub high_bits : (b : ℕ) → 1074 < field_of b → None ≡ watts_of (of_bits binary64 b)
high_bits b h = sym (ap watts_of (parts b) ∙ high_field (minus_of b) (field_of b) (digits_of b) h (mod-lt (b / 4503599627370496) (lit< tt)))

pub low_bits : (b : ℕ) → field_of b < 1011 → Some (pos 0) ≡ watts_of (of_bits binary64 b)
low_bits b h = sym (ap watts_of (parts b) ∙ low_field (minus_of b) (field_of b) (digits_of b) h (mod-lt b (lit< tt)))

module _ (b size : ℕ) (low : 1011 ≤ field_of b) (high : field_of b ≤ 1074) (is : size ≡ nearest (1000 * (4503599627370496 + digits_of b)) (2 ^ (1074 - field_of b + 1))) where
  pub middle : watts_of (of_bits binary64 b) ≡ within (minus_of b) size
  middle = ap watts_of (parts b) ∙ middle_field (minus_of b) (field_of b) (digits_of b) low high ∙ ap (within (minus_of b)) (sym is)

  pub over_bits : most_watts < size → None ≡ watts_of (of_bits binary64 b)
  over_bits h = sym (middle ∙ too_much (minus_of b) size h)

  pub whole_bits : size ≤ most_watts → Some (signed (minus_of b) size) ≡ watts_of (of_bits binary64 b)
  whole_bits h = sym (middle ∙ in_range (minus_of b) size h)
