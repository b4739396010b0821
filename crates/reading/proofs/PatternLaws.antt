-- Which bit patterns convert. A pattern without its sign is the field times 2^52 and the digits, and it grows with the size that it stands for: the sizes up to
-- 10^8 are those up to one pattern, of the field 1039, and the sizes that round to 0 those up to another, of the field 1012. At any other field all sizes
-- are on one side. Assumes nothing.
use mathlib.Core.Path.{◌≡◌, refl, sym, ap, ◌∙◌}
use mathlib.Core.Bool.{Bool, true, false, cond, ◌&&◌}
use mathlib.Core.Logic.{inl, inr}
use Prim.Native.Nat.{ℕ, zero, suc, ◌+◌, ◌-◌, ◌*◌, ◌%◌, ◌^◌, ◌≤◌, ◌<◌, zero-le}
use native.Mathlib.Nat.{mod-lt, suc-mul, mul-le-mul_right, eq-or-lt_of_le}
use native.Mathlib.Omega.{arith}
use lib.Dec.{leb, ltb, lit<}
use lib.Ieee.{binary64, of_bits}
use lib.IntN.{ℤ, pos, negsuc}
use lib.Pow.{pow_pos, pow_mono}
use borrow.Author.Tests.{le-leb, lt-leb}
use Rattle.whole.specs.Signed.{signed}
use Rattle.whole.proofs.LargestLaws.{leb_same}
use Rattle.reading.specs.Conversion.{nearest, most_watts, within, watts_of, not_below, milli_of}
use Rattle.reading.specs.Choice.{usable_of}
use Rattle.reading.specs.Laws.{away}
use Rattle.reading.specs.Posts.{is_whole}
use Rattle.reading.proofs.NearestProved.{nearest_proved, order}
use Rattle.reading.proofs.DoubleLaws.{field_of, digits_of, minus_of, high_bits, low_bits, middle, too_much, no_watts}
use Rattle.std.proofs.Common.{None, Option, Some}

-- ---- an even w is the nearest number, or above it, up to the half between it and the next
module _ (n d w : ℕ) (some : 0 < d) where
  abbrev found : ℕ
  found = nearest n d

  pub nearest_upto : w % 2 ≡ 0 → 2 * n ≤ (2 * w + 1) * d → found ≤ w
  nearest_upto even h = elim (order found w) [ inl l ↦ l | inr l ↦ absurd (clash l) ]
    where
      clash : w < found → ⊥
      clash l =
          let one : suc w * d ≤ found * d = mul-le-mul_right d l in
          let e : suc w * d ≡ w * d + d = suc-mul w d in
          let f : (2 * w + 1) * d ≡ 2 * (w * d) + d = omega arith in
          let near : away n d found ≤ away n d w = (nearest_proved n d some).closest w in
          let tie : away n d w ≡ away n d found = omega arith in
          let twos : found % 2 ≡ 0 = (nearest_proved n d some).even w tie (λ q. omega arith) in
          let two : suc (suc w) * d ≤ found * d = mul-le-mul_right d (omega arith) in
          let g : suc (suc w) * d ≡ suc w * d + d = suc-mul (suc w) d in
          omega arith

  pub nearest_over : (2 * w + 1) * d < 2 * n → w < found
  nearest_over h = elim (order found w) [ inl l ↦ absurd (clash l) | inr l ↦ l ]
    where
      clash : found ≤ w → ⊥
      clash l =
          let one : found * d ≤ w * d = mul-le-mul_right d l in
          let e : suc w * d ≡ w * d + d = suc-mul w d in
          let f : (2 * w + 1) * d ≡ 2 * (w * d) + d = omega arith in
          let near : away n d found ≤ away n d (suc w) = (nearest_proved n d some).closest (suc w) in
          omega arith

  -- so a test of the number is a test of n, or of what n grows with
  pub nearest_test : (v top : ℕ) → w % 2 ≡ 0 → (2 * n ≤ (2 * w + 1) * d → v ≤ top) × (v ≤ top → 2 * n ≤ (2 * w + 1) * d) → leb found w ≡ leb v top
  nearest_test v top even (f, g) =
      leb_same found w v top
      (λ l. f (elim (order (2 * n) ((2 * w + 1) * d)) [ inl k ↦ k | inr k ↦ absurd (let m : w < found = nearest_over k in omega arith) ]))
      (λ l. nearest_upto even (g l))

-- ---- by the field x and the digits t
module _ (x t : ℕ) (low : 1011 ≤ x) (high : x ≤ 1074) (few : t < 2 ^ 52) where
  abbrev d : ℕ
  d = 2 ^ (1074 - x + 1)

  at : (p : ℕ) → x ≡ p → d ≡ 2 ^ (1074 - p + 1)
  at p e = ap (λ (k : ℕ). 2 ^ (1074 - k + 1)) e

  upto : (p : ℕ) → x ≤ p → 2 ^ (1074 - p + 1) ≤ d
  upto p h = pow_mono {i = 1074 - p + 1} {j = 1074 - x + 1} (omega arith)

  from : (p : ℕ) → p ≤ x → d ≤ 2 ^ (1074 - p + 1)
  from p h = pow_mono {i = 1074 - x + 1} {j = 1074 - p + 1} (omega arith)

  most_test : leb (nearest (1000 * (4503599627370496 + t)) d) most_watts ≡ leb (x * 4503599627370496 + t) 4681608360918534586
  most_test =
      nearest_test (1000 * (4503599627370496 + t)) d most_watts (pow_pos (1074 - x + 1)) (x * 4503599627370496 + t) 4681608360918534586 refl
      (elim (order x 1039) [
        | inl k ↦ elim (eq-or-lt_of_le k) [
          | inl e ↦ let s : d ≡ 2 ^ 36 = at 1039 e in (λ l. omega arith, λ l. omega arith)
          | inr j ↦ let s : 2 ^ 37 ≤ d = upto 1038 (omega arith) in (λ l. omega arith, λ l. omega arith)
        ]
        | inr k ↦ let s : d ≤ 2 ^ 35 = from 1040 k in (λ l. omega arith, λ l. omega arith)
      ])

  none_test : leb (nearest (1000 * (4503599627370496 + t)) d) 0 ≡ leb (x * 4503599627370496 + t) 4557750909289998843
  none_test =
      nearest_test (1000 * (4503599627370496 + t)) d 0 (pow_pos (1074 - x + 1)) (x * 4503599627370496 + t) 4557750909289998843 refl
      (elim (order x 1012) [
        | inl k ↦ elim (eq-or-lt_of_le k) [
          | inl e ↦ let s : d ≡ 2 ^ 63 = at 1012 e in (λ l. omega arith, λ l. omega arith)
          | inr j ↦ let s : 2 ^ 64 ≤ d = upto 1011 (omega arith) in (λ l. omega arith, λ l. omega arith)
        ]
        | inr k ↦ let s : d ≤ 2 ^ 62 = from 1013 k in (λ l. omega arith, λ l. omega arith)
      ])

-- ---- by the pattern: the size that it becomes, and the two tests of it
abbrev signless : ℕ → ℕ
signless b = b % 9223372036854775808

record Sized (b : ℕ) : Type 0 where
  pub size : ℕ
  pub is : watts_of (of_bits binary64 b) ≡ within (minus_of b) size
  pub most : leb size most_watts ≡ leb (signless b) 4681608360918534586
  pub none : leb size 0 ≡ leb (signless b) 4557750909289998843

sized : (b : ℕ) → Sized b
sized b = elim (order 1011 (field_of b)) [
  | inl l ↦ elim (order (field_of b) 1074) [
    | inl h ↦
        let few : digits_of b < 2 ^ 52 = mod-lt b (lit< tt) in
        let v : field_of b * 4503599627370496 + digits_of b ≡ signless b = omega arith in
        let n = nearest (1000 * (4503599627370496 + digits_of b)) (2 ^ (1074 - field_of b + 1)) in
        record {
          size = n;
          is = middle b n l h refl;
          most = most_test (field_of b) (digits_of b) l h few ∙ ap (λ (k : ℕ). leb k 4681608360918534586) v;
          none = none_test (field_of b) (digits_of b) l h few ∙ ap (λ (k : ℕ). leb k 4557750909289998843) v;
        }
    | inr h ↦ record {
      size = suc most_watts;
      is = sym (high_bits b h) ∙ sym (too_much (minus_of b) (suc most_watts) (lit< tt));
      most = sym (lt-leb (signless b) 4681608360918534586 (omega arith));
      none = sym (lt-leb (signless b) 4557750909289998843 (omega arith));
    }
  ]
  | inr l ↦ record {
    size = 0;
    is = sym (low_bits b l) ∙ sym (no_watts (minus_of b) 0 refl);
    most = sym (le-leb (signless b) 4681608360918534586 (omega arith));
    none = sym (le-leb (signless b) 4557750909289998843 (omega arith));
  }
]

-- ---- what is whole: a size up to the most, and of a current below 0 none but 0
whole_cond : (b : Bool) (z : ℤ) → is_whole (cond b (Some z) None) ≡ b
whole_cond true z = refl
whole_cond false z = refl

whole_within : (s : Bool) (size : ℕ) → is_whole (within s size) ≡ leb size most_watts
unfolding within
whole_within s size = whole_cond (leb size most_watts) (signed s size)

plus_within : (size : ℕ) → is_whole (not_below (within false size)) ≡ leb size most_watts
unfolding within
plus_within size = go (leb size most_watts)
  where
    go : (b : Bool) → is_whole (not_below (cond b (Some (pos size)) None)) ≡ b
    go true = ap (λ (t : Bool). is_whole (cond t (Some (pos size)) None)) (le-leb 0 size zero-le)
    go false = refl

minus_within : (size : ℕ) → is_whole (not_below (within true size)) ≡ leb size 0
unfolding within
minus_within zero = refl
minus_within (suc n) = go (leb (suc n) most_watts) ∙ sym (lt-leb (suc n) 0 (omega arith))
  where
    go : (b : Bool) → is_whole (not_below (cond b (Some (negsuc n)) None)) ≡ false
    go true = refl
    go false = refl

-- ---- the code's tests
pub power_pattern : (b : ℕ) → leb (signless b) 4681608360918534586 ≡ is_whole (watts_of (of_bits binary64 b))
power_pattern b = let s = sized b in sym (ap is_whole s.is ∙ whole_within (minus_of b) s.size ∙ s.most)

module _ (b : ℕ) where
  milli_by : (s : Bool) → minus_of b ≡ s → is_whole (milli_of (of_bits binary64 b)) ≡ is_whole (not_below (within s (sized b).size))
  unfolding milli_of
  milli_by s e = ap (λ (w : Option ℤ). is_whole (not_below w)) ((sized b).is ∙ ap (λ (t : Bool). within t (sized b).size) e)

  pub plus_pattern : b < 9223372036854775808 → leb b 4681608360918534586 ≡ is_whole (milli_of (of_bits binary64 b))
  plus_pattern h =
      let v : signless b ≡ b = omega arith in
      sym (milli_by false (lt-leb 9223372036854775808 b h) ∙ plus_within (sized b).size ∙ (sized b).most ∙ ap (λ (k : ℕ). leb k 4681608360918534586) v)

  pub minus_pattern : 9223372036854775808 ≤ b → b < 2 ^ 64 → ltb b 13781122946144774652 ≡ is_whole (milli_of (of_bits binary64 b))
  minus_pattern h m =
      leb_same (suc b) 13781122946144774652 (signless b) 4557750909289998843 (λ l. omega arith) (λ l. omega arith)
      ∙ sym (milli_by true (le-leb 9223372036854775808 b h) ∙ minus_within (sized b).size ∙ (sized b).none)

-- three that are whole can be used, by the test of all three
pub usable_by : (a b c : Option ℤ) (t : Bool) → (is_whole a && is_whole b && is_whole c) ≡ t → cond t 0 6 ≡ usable_of a b c
usable_by a b c t e = ap (λ (s : Bool). cond s 0 6) (sym e) ∙ go a b c
  where
    go : (a b c : Option ℤ) → cond (is_whole a && is_whole b && is_whole c) 0 6 ≡ usable_of a b c
    go None b c = refl
    go (Some x) None c = refl
    go (Some x) (Some y) None = refl
    go (Some x) (Some y) (Some z) = refl
