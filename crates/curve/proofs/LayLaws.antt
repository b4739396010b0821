-- Two lists laid point by point: the bytes so far hold the count and the points passed. Assumes nothing.
use mathlib.Core.Path.{◌≡◌, refl, sym, ap, ap₂, ◌∙◌}
use mathlib.Core.List.{List, [], ◌∷◌}
use mathlib.Core.Logic.{inl}
use Prim.Native.Nat.{ℕ, suc, ◌+◌, ◌*◌, ◌^◌, ◌≤◌, ◌<◌, zero-le, suc-le-suc}
use native.Mathlib.Nat.{add-zero, zero-add, add-suc, suc-add, not-suc-le-zero, lt_of_le_of_lt}
use native.Mathlib.Omega.{arith}
use borrow.Author.Count.{below_more}
use lib.Dec.{lit<}
use lib.IntN.{ℤ, pos}
use lib.ListN.{length, get_or}
use lib.Signed.{mag}
use mir.Syntax.{w32}
use mir.Val.{to_z, of_z}
use mir.ValLaws.{of_z_fits}
use Rattle.whole.proofs.SignLaws.{read}
use Rattle.octets.specs.BigEndian.{be, bytes_of, laid}
use Rattle.octets.proofs.ByteLaws.{bytes_length}
use Rattle.octets.proofs.LaidLaws.{laid_length, read_whole, read_other}
use Rattle.curve.specs.Curve.{point}
use Rattle.curve.specs.Ranges.{points_of}
use Rattle.curve.specs.Layout.{curve_bytes, count_at, x_at, y_at, points_from, points_at}
use Rattle.curve.proofs.LineFits.{back32}

-- ---- points that are those of two lists
module _ (bytes : List ℕ) (place : ℕ) where
  from_lists : (xs ys : List ℤ) (k : ℕ) → length ys ≡ length xs
      → ((i : ℕ) → i < length xs → x_at bytes place (k + i) ≡ get_or xs i (pos 0))
      → ((i : ℕ) → i < length xs → y_at bytes place (k + i) ≡ get_or ys i (pos 0))
      → points_from (length xs) k bytes place ≡ points_of xs ys
  unfolding points_from points_of
  from_lists [] ys k e hx hy = refl
  from_lists (x ∷ xs) [] k e hx hy = let z : ◌≡◌ {A = ℕ} 0 (suc (length xs)) = e in absurd (omega arith)
  from_lists (x ∷ xs) (y ∷ ys) k e hx hy =
      let f : length ys ≡ length xs = omega arith in
      ap₂ ◌∷◌
      (ap₂ point (ap (x_at bytes place) (sym (add-zero k)) ∙ hx 0 (suc-le-suc zero-le)) (ap (y_at bytes place) (sym (add-zero k)) ∙ hy 0 (suc-le-suc zero-le)))
      (from_lists xs ys (suc k) f
      (λ i l. ap (x_at bytes place) (suc-add k i ∙ sym (add-suc k i)) ∙ hx (suc i) (suc-le-suc l))
      (λ i l. ap (y_at bytes place) (suc-add k i ∙ sym (add-suc k i)) ∙ hy (suc i) (suc-le-suc l)))

-- ---- one point laid

-- as the code lays it, from what it reads back
pub point_laid : (s t u : List ℕ) (i : ℕ) (x y : ℤ) → mag x < 2 ^ 31 → mag y < 2 ^ 31
    → t ≡ laid s (1 + 8 * i) (bytes_of 4 (of_z w32 (back32 x))) → u ≡ laid t (5 + 8 * i) (bytes_of 4 (of_z w32 (back32 y)))
    → u ≡ laid (laid s (1 + 8 * i) (bytes_of 4 (of_z w32 x))) (5 + 8 * i) (bytes_of 4 (of_z w32 y))
point_laid s t u i x y hx hy d e =
    e
    ∙ ap (λ (r : List ℕ). laid r (5 + 8 * i) (bytes_of 4 (of_z w32 (back32 y)))) d
    ∙ ap₂ (λ (p q : ℤ). laid (laid s (1 + 8 * i) (bytes_of 4 (of_z w32 p))) (5 + 8 * i) (bytes_of 4 (of_z w32 q))) (read w32 x hx) (read w32 y hy)

module _ (s : List ℕ) (i : ℕ) (x y : ℤ) (long : length s ≡ curve_bytes) (few : i < 16) where
  abbrev xs' : List ℕ
  xs' = bytes_of 4 (of_z w32 x)

  abbrev ys' : List ℕ
  ys' = bytes_of 4 (of_z w32 y)

  abbrev half : List ℕ
  half = laid s (1 + 8 * i) xs'

  abbrev pub with_point : List ℕ
  with_point = laid half (5 + 8 * i) ys'

  half_room : 1 + 8 * i + length xs' ≤ length s
  half_room = let e : length xs' ≡ 4 = bytes_length 4 (of_z w32 x) in omega arith

  pub half_long : length half ≡ curve_bytes
  half_long = laid_length s (1 + 8 * i) xs' half_room ∙ long

  point_room : 5 + 8 * i + length ys' ≤ length half
  point_room =
      let e : length ys' ≡ 4 = bytes_length 4 (of_z w32 y) in
      let h : length half ≡ 129 = half_long in
      omega arith

  pub point_long : length with_point ≡ curve_bytes
  point_long = laid_length half (5 + 8 * i) ys' point_room ∙ half_long

  left : 1 + 8 * i ≤ length s
  left = omega arith

  right : 5 + 8 * i ≤ length half
  right = let h : length half ≡ 129 = half_long in omega arith

  -- what stands before it is as it was
  before : (m from : ℕ) → from + m ≤ 1 + 8 * i → be m with_point from ≡ be m s from
  before m from l = read_other half (5 + 8 * i) right m ys' from (inl (omega arith)) ∙ read_other s (1 + 8 * i) left m xs' from (inl l)

  pub count_kept : count_at with_point 0 ≡ count_at s 0
  unfolding count_at
  count_kept = before 1 0 (omega arith)

  pub x_kept : (k : ℕ) → k < i → x_at with_point 0 k ≡ x_at s 0 k
  unfolding x_at
  x_kept k l = ap (to_z w32) (before 4 (0 + 1 + 8 * k) (omega arith))

  pub y_kept : (k : ℕ) → k < i → y_at with_point 0 k ≡ y_at s 0 k
  unfolding y_at
  y_kept k l = ap (to_z w32) (before 4 (0 + 5 + 8 * k) (omega arith))

  -- and it is read back
  pub x_laid : mag x < 2 ^ 31 → x_at with_point 0 i ≡ x
  unfolding x_at
  x_laid m =
      ap (to_z w32)
      (read_other half (5 + 8 * i) right 4 ys' (1 + 8 * i) (inl (omega arith))
      ∙ read_whole s (1 + 8 * i) left 4 (of_z w32 x) (of_z_fits w32 x (record { sfits = m })).fits)
      ∙ read w32 x m

  pub y_laid : mag y < 2 ^ 31 → y_at with_point 0 i ≡ y
  unfolding y_at
  y_laid m = ap (to_z w32) (read_whole half (5 + 8 * i) right 4 (of_z w32 y) (of_z_fits w32 y (record { sfits = m })).fits) ∙ read w32 y m

-- ---- the first i points laid
pub record Laying (xs ys : List ℤ) (room : List ℕ) (i : ℕ) : Type 0 where
  pub upto : i ≤ length xs
  pub long : length room ≡ curve_bytes
  pub count : count_at room 0 ≡ length xs
  pub xs_laid : (k : ℕ) → k < i → x_at room 0 k ≡ get_or xs k (pos 0)
  pub ys_laid : (k : ℕ) → k < i → y_at room 0 k ≡ get_or ys k (pos 0)

module _ (xs ys : List ℤ) (few : length xs ≤ 16) where
  -- the count alone
  pub laying_none : (s t : List ℕ) → length s ≡ curve_bytes → t ≡ laid s 0 (bytes_of 1 (length xs)) → Laying xs ys t 0
  unfolding count_at
  laying_none s t long e =
      let b : length (bytes_of 1 (length xs)) ≡ 1 = bytes_length 1 (length xs) in
      record {
        upto = zero-le;
        long = ap length e ∙ laid_length s 0 (bytes_of 1 (length xs)) (omega arith) ∙ long;
        count = ap (λ (r : List ℕ). be 1 r 0) e ∙ read_whole s 0 zero-le 1 (length xs) (lt_of_le_of_lt few (lit< tt));
        xs_laid = λ k l. absurd (not-suc-le-zero l);
        ys_laid = λ k l. absurd (not-suc-le-zero l);
      }

  -- one more
  pub laying_more : (s t : List ℕ) (i : ℕ) → Laying xs ys s i → i < length xs → mag (get_or xs i (pos 0)) < 2 ^ 31 → mag (get_or ys i (pos 0)) < 2 ^ 31
      → t ≡ laid (laid s (1 + 8 * i) (bytes_of 4 (of_z w32 (back32 (get_or xs i (pos 0)))))) (5 + 8 * i) (bytes_of 4 (of_z w32 (back32 (get_or ys i (pos 0)))))
      → Laying xs ys t (i + 1)
  laying_more s t i so l hx hy e =
      let x = get_or xs i (pos 0) in
      let y = get_or ys i (pos 0) in
      let m : i < 16 = omega arith in
      let f : t ≡ with_point s i x y so.long m =
      e ∙ ap₂ (λ (p q : ℤ). laid (laid s (1 + 8 * i) (bytes_of 4 (of_z w32 p))) (5 + 8 * i) (bytes_of 4 (of_z w32 q))) (read w32 x hx) (read w32 y hy) in
      record {
        upto = omega arith;
        long = ap length f ∙ point_long s i x y so.long m;
        count = ap (λ (r : List ℕ). count_at r 0) f ∙ count_kept s i x y so.long m ∙ so.count;
        xs_laid = below_more (λ (k : ℕ). x_at t 0 k ≡ get_or xs k (pos 0)) i
            (λ k n. ap (λ (r : List ℕ). x_at r 0 k) f ∙ x_kept s i x y so.long m k n ∙ so.xs_laid k n)
            (ap (λ (r : List ℕ). x_at r 0 i) f ∙ x_laid s i x y so.long m hx);
        ys_laid = below_more (λ (k : ℕ). y_at t 0 k ≡ get_or ys k (pos 0)) i
            (λ k n. ap (λ (r : List ℕ). y_at r 0 k) f ∙ y_kept s i x y so.long m k n ∙ so.ys_laid k n)
            (ap (λ (r : List ℕ). y_at r 0 i) f ∙ y_laid s i x y so.long m hy);
      }

  -- all of them
  pub laying_all : (s : List ℕ) (i : ℕ) → Laying xs ys s i → length xs ≤ i → length ys ≡ length xs → points_at s 0 ≡ points_of xs ys
  unfolding points_at
  laying_all s i so l e =
      ap (λ (n : ℕ). points_from n 0 s 0) so.count
      ∙ from_lists s 0 xs ys 0 e
      (λ k m. ap (x_at s 0) (zero-add k) ∙ so.xs_laid k (omega arith))
      (λ k m. ap (y_at s 0) (zero-add k) ∙ so.ys_laid k (omega arith))
