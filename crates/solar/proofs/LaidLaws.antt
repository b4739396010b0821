-- A curve is known by its 129 bytes: two that are laid one behind the other can both be read back. Assumes nothing.
use mathlib.Core.Path.{◌≡◌, refl, sym, ap, ap₂, ◌∙◌}
use mathlib.Core.List.{List, [], ◌∷◌, ◌++◌}
use Prim.Native.Nat.{ℕ, zero, suc, ◌+◌, ◌*◌, ◌≤◌, ◌<◌, zero-le, suc-le-suc}
use native.Mathlib.Nat.{zero-add, le_trans, le_of_eq}
use native.Mathlib.Omega.{arith}
use lib.IntN.{ℤ}
use lib.ListN.{length, get_or, take, drop, length-append, length-drop, get_or-append}
use lib.Seq.{take_at, get_or-append-add}
use mir.Syntax.{w32}
use mir.Val.{to_z}
use Rattle.octets.proofs.ByteLaws.{be_same}
use Rattle.curve.specs.Curve.{Point, point}
use Rattle.curve.specs.Ranges.{points_of}
use Rattle.curve.specs.Layout.{curve_bytes, count_at, x_at, y_at, points_from, points_at}
use Rattle.curve.proofs.PointLaws.{points_count}

-- ---- the same bytes, the same points
module _ (s t : List ℕ) (p q : ℕ) (same : (i : ℕ) → i < curve_bytes → get_or s (p + i) 0 ≡ get_or t (q + i) 0) where
  at_place : (k i : ℕ) → k + i < curve_bytes → get_or s (p + k + i) 0 ≡ get_or t (q + k + i) 0
  at_place k i h =
      let a : p + k + i ≡ p + (k + i) = omega arith in
      let b : q + (k + i) ≡ q + k + i = omega arith in
      ap (λ (n : ℕ). get_or s n 0) a ∙ same (k + i) h ∙ ap (λ (n : ℕ). get_or t n 0) b

  count_same : count_at s p ≡ count_at t q
  unfolding count_at
  count_same = be_same 1 s t p q (λ i h. same i (omega arith))

  x_same : (i : ℕ) → i < 16 → x_at s p i ≡ x_at t q i
  unfolding x_at
  x_same i h = ap (to_z w32) (be_same 4 s t (p + 1 + 8 * i) (q + 1 + 8 * i) (λ j l. other j l))
    where
      other : (j : ℕ) → j < 4 → get_or s (p + 1 + 8 * i + j) 0 ≡ get_or t (q + 1 + 8 * i + j) 0
      other j l =
          let a : p + 1 + 8 * i + j ≡ p + (1 + 8 * i) + j = omega arith in
          let b : q + (1 + 8 * i) + j ≡ q + 1 + 8 * i + j = omega arith in
          ap (λ (n : ℕ). get_or s n 0) a ∙ at_place (1 + 8 * i) j (omega arith) ∙ ap (λ (n : ℕ). get_or t n 0) b

  y_same : (i : ℕ) → i < 16 → y_at s p i ≡ y_at t q i
  unfolding y_at
  y_same i h = ap (to_z w32) (be_same 4 s t (p + 5 + 8 * i) (q + 5 + 8 * i) (λ j l. other j l))
    where
      other : (j : ℕ) → j < 4 → get_or s (p + 5 + 8 * i + j) 0 ≡ get_or t (q + 5 + 8 * i + j) 0
      other j l =
          let a : p + 5 + 8 * i + j ≡ p + (5 + 8 * i) + j = omega arith in
          let b : q + (5 + 8 * i) + j ≡ q + 5 + 8 * i + j = omega arith in
          ap (λ (n : ℕ). get_or s n 0) a ∙ at_place (5 + 8 * i) j (omega arith) ∙ ap (λ (n : ℕ). get_or t n 0) b

  from_same : (n k : ℕ) → k + n ≤ 16 → points_from n k s p ≡ points_from n k t q
  unfolding points_from
  from_same zero k h = refl
  from_same (suc n) k h = ap₂ ◌∷◌ (ap₂ point (x_same k (omega arith)) (y_same k (omega arith))) (from_same n (suc k) (omega arith))

  pub points_same : count_at t q ≤ 16 → points_at s p ≡ points_at t q
  unfolding points_at
  points_same few = ap (λ (n : ℕ). points_from n 0 s p) count_same ∙ from_same (count_at t q) 0 (omega arith)

-- two lists give no more points than the first has numbers
points_upto : (xs ys : List ℤ) → length (points_of xs ys) ≤ length xs
unfolding points_of
points_upto [] ys = zero-le
points_upto (x ∷ xs) [] = zero-le
points_upto (x ∷ xs) (y ∷ ys) = suc-le-suc (points_upto xs ys)

count_few : (s : List ℕ) (xs ys : List ℤ) → points_at s 0 ≡ points_of xs ys → length xs ≤ 16 → count_at s 0 ≤ 16
count_few s xs ys e h =
    le_trans (le_of_eq (sym (points_count s 0) ∙ ap (λ (l : List Point). length l) e)) (le_trans (points_upto xs ys) h)

-- ---- two curves, one right behind the other
module _ (room first second : List ℕ) (long : length room ≡ 258) (lf : length first ≡ curve_bytes) (ls : length second ≡ curve_bytes) where
  -- after the first, and after both
  abbrev pub once : List ℕ
  once = first ++ drop 129 (drop 0 room)

  abbrev pub twice : List ℕ
  twice = take 129 once ++ (second ++ drop 129 (drop 129 once))

  rest : List ℕ
  rest = drop 129 (drop 129 once)

  twice_is : twice ≡ first ++ (second ++ rest)
  unfolding rest
  twice_is = ap (λ (l : List ℕ). l ++ (second ++ drop 129 (drop 129 once))) (take_at first (drop 129 (drop 0 room)) 129 lf)

  pub twice_long : length twice ≡ 258
  unfolding rest
  twice_long = ap (λ (l : List ℕ). length l) twice_is ∙ simp (length-append, length-drop) (omega arith)

  first_same : (i : ℕ) → i < curve_bytes → get_or twice (0 + i) 0 ≡ get_or first (0 + i) 0
  first_same i h = ap (λ (l : List ℕ). get_or l (0 + i) 0) twice_is ∙ get_or-append first (second ++ rest) 0 (0 + i) (omega arith)

  second_same : (i : ℕ) → i < curve_bytes → get_or twice (129 + i) 0 ≡ get_or second (0 + i) 0
  second_same i h =
      ap (λ (l : List ℕ). get_or l (129 + i) 0) twice_is
      ∙ ap (λ (n : ℕ). get_or (first ++ (second ++ rest)) (n + i) 0) (sym lf)
      ∙ get_or-append-add first (second ++ rest) i 0
      ∙ get_or-append second rest 0 i (omega arith)
      ∙ ap (λ (n : ℕ). get_or second n 0) (sym (zero-add i))

  pub first_back : (xs ys : List ℤ) → length xs ≤ 16 → points_at first 0 ≡ points_of xs ys → points_at twice 0 ≡ points_of xs ys
  first_back xs ys h e = points_same twice first 0 0 first_same (count_few first xs ys e h) ∙ e

  pub second_back : (xs ys : List ℤ) → length xs ≤ 16 → points_at second 0 ≡ points_of xs ys → points_at twice 129 ≡ points_of xs ys
  second_back xs ys h e = points_same twice second 129 0 second_same (count_few second xs ys e h) ∙ e
