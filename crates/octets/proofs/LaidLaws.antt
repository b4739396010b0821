-- Bytes laid over a list: what is laid can be read back, nothing else changes, and two pieces that meet are one. Assumes nothing.
use mathlib.Core.Path.{◌≡◌, sym, ap, ◌∙◌}
use mathlib.Core.List.{List, [], ◌∷◌, ◌++◌, append_assoc}
use mathlib.Core.Logic.{◌⊎◌, inl, inr}
use Prim.Native.Nat.{ℕ, ◌+◌, ◌-◌, ◌%◌, ◌^◌, ◌≤◌, ◌<◌}
use native.Mathlib.Nat.{zero-add, add_assoc, mod-eq_of_lt}
use native.Mathlib.Numerals.{add-one}
use native.Mathlib.Omega.{arith}
use lib.ListN.{length, get_or, take, drop, set, length-append, length-take, length-drop, get_or-append}
use lib.Seq.{length-take-le, take_at, drop-append-add, drop-drop, get_or-append-add, get_or-take, get_or-drop, set_split, append_snoc}
use borrow.Rule.Slice.PartMut.{put_mid}
use Rattle.octets.proofs.ByteLaws.{be_same, be_bytes, bytes_length}
use Rattle.octets.specs.BigEndian.{be, bytes_of, laid}

-- laying bytes within a list keeps its length
pub laid_length : (s : List ℕ) (at : ℕ) (bs : List ℕ) → at + length bs ≤ length s → length (laid s at bs) ≡ length s
unfolding laid
laid_length s at bs h = simp (length-append, length-take, length-drop) (omega arith)

-- one byte laid is one element replaced
pub laid_set : (s : List ℕ) (at v : ℕ) → at < length s → set s at v ≡ laid s at (v ∷ [])
unfolding laid
laid_set s at v h = rw (append_snoc (take at s) v (drop (at + 1) s), add-one at) (set_split s at v h)

-- and that byte is the number of one byte
pub laid_one : (s : List ℕ) (at v : ℕ) → at < length s → v < 256 → set s at v ≡ laid s at (bytes_of 1 v)
unfolding bytes_of
laid_one s at v h l = rw (mod-eq_of_lt l) (laid_set s at v h)

-- bytes copied over a part of the list are laid there
pub copied_is : (s : List ℕ) (at n : ℕ) (now bs : List ℕ) → length bs ≡ n → now ≡ bs → put_mid at (at + n - at) s now ≡ laid s at bs
unfolding laid
copied_is s at n now bs l e =
    let k : at + n - at ≡ length bs = omega arith in
    rw (k, e, append_assoc (take at s) bs (drop (at + length bs) s), drop-drop (length bs) at s)

-- at a place of the list
module _ (s : List ℕ) (at : ℕ) (h : at ≤ length s) where
  -- the list up to the end of the bytes laid
  front_length : (bs : List ℕ) → length (take at s ++ bs) ≡ at + length bs
  front_length bs = rw (length-append, length-take-le at s h)

  -- what stands behind them is as it was
  behind : (a : List ℕ) (n : ℕ) → drop (at + length a + n) (take at s ++ a ++ drop (at + length a) s) ≡ drop (at + length a + n) s
  behind a n =
      let p = take at s ++ a in
      let q = drop (at + length a) s in
      ap (λ (k : ℕ). drop (k + n) (p ++ q)) (sym (front_length a)) ∙ drop-append-add p q n ∙ drop-drop n (at + length a) s

  -- bytes laid right behind others are laid with them
  pub laid_laid : (a b : List ℕ) → laid (laid s at a) (at + length a) b ≡ laid s at (a ++ b)
  unfolding laid
  laid_laid a b =
      rw (
        take_at (take at s ++ a) (drop (at + length a) s) (at + length a) (front_length a),
        behind a (length b),
        append_assoc (take at s) a b,
        length-append a b,
        add_assoc at (length a) (length b),
      )

  -- ---- the bytes of the list, with others laid over it
  -- before them
  laid_before : (bs : List ℕ) (i : ℕ) → i < at → get_or (laid s at bs) i 0 ≡ get_or s i 0
  unfolding laid
  laid_before bs i l =
      let p : length (take at s) ≡ at = length-take-le at s h in
      let q : length (take at s ++ bs) ≡ at + length bs = front_length bs in
      rw (get_or-append (take at s ++ bs) (drop (at + length bs) s) 0 i (omega arith), get_or-append (take at s) bs 0 i (omega arith), get_or-take at s i 0 l)

  -- among them
  laid_at : (bs : List ℕ) (i : ℕ) → i < length bs → get_or (laid s at bs) (at + i) 0 ≡ get_or bs i 0
  unfolding laid
  laid_at bs i l =
      let p : length (take at s) ≡ at = length-take-le at s h in
      let q : length (take at s ++ bs) ≡ at + length bs = front_length bs in
      get_or-append (take at s ++ bs) (drop (at + length bs) s) 0 (at + i) (omega arith)
      ∙ ap (λ (k : ℕ). get_or (take at s ++ bs) (k + i) 0) (sym p)
      ∙ get_or-append-add (take at s) bs i 0

  -- and after them
  laid_after : (bs : List ℕ) (i : ℕ) → at + length bs ≤ i → get_or (laid s at bs) i 0 ≡ get_or s i 0
  unfolding laid
  laid_after bs i l =
      let p = take at s ++ bs in
      let j = i - (at + length bs) in
      let q : length p ≡ at + length bs = front_length bs in
      let e : i ≡ length p + j = omega arith in
      let f : at + length bs + j ≡ i = omega arith in
      ap (λ (k : ℕ). get_or (p ++ drop (at + length bs) s) k 0) e
      ∙ get_or-append-add p (drop (at + length bs) s) j 0
      ∙ get_or-drop (at + length bs) s j 0
      ∙ ap (λ (k : ℕ). get_or s k 0) f

  -- ---- reading

  -- what was laid is read back, cut to its n bytes
  pub read_back : (n v : ℕ) → be n (laid s at (bytes_of n v)) at ≡ v % 256 ^ n
  read_back n v =
      let l : length (bytes_of n v) ≡ n = bytes_length n v in
      be_same n (laid s at (bytes_of n v)) (bytes_of n v) at 0 (λ i k. laid_at (bytes_of n v) i (omega arith) ∙ ap (λ (j : ℕ). get_or (bytes_of n v) j 0) (sym (zero-add i)))
      ∙ be_bytes n v

  -- so a number that n bytes hold comes back as it was
  pub read_whole : (n v : ℕ) → v < 256 ^ n → be n (laid s at (bytes_of n v)) at ≡ v
  read_whole n v l = read_back n v ∙ mod-eq_of_lt l

  -- a number that stands before or behind the bytes laid is as it was
  pub read_other : (m : ℕ) (bs : List ℕ) (from : ℕ) → (from + m ≤ at) ⊎ (at + length bs ≤ from) → be m (laid s at bs) from ≡ be m s from
  read_other m bs from (inl l) = be_same m (laid s at bs) s from from (λ i k. laid_before bs (from + i) (omega arith))
  read_other m bs from (inr l) = be_same m (laid s at bs) s from from (λ i k. laid_after bs (from + i) (omega arith))
