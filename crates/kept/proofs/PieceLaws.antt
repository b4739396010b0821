-- Bytes laid one by one from a place on, or in a part of a list, and a test of each byte of a part. Assumes nothing.
use Rattle.octets.proofs.LaidLaws.{laid_length, laid_set, laid_laid}
use mathlib.Core.Path.{◌≡◌, refl, sym, ap, ap₂, ◌∙◌}
use mathlib.Core.Bool.{Bool, ◌&&◌}
use mathlib.Core.List.{List, ◌++◌, append-nil, append_assoc, [], ◌∷◌}
use Prim.Native.Nat.{ℕ, zero, suc, ◌+◌, ◌-◌, ◌≤◌, ◌<◌}
use borrow.Rule.Slice.PartMut.{put_mid}
use Rattle.std.proofs.lemmas.List.{drop-drop}
use Rattle.std.specs.List.{list_all}
use Rattle.std.proofs.lemmas.List.Folds.{list_all_more}
use Rattle.std.proofs.Common.{length-drop}
use Rattle.whole.specs.Over.{all_of}
use native.Mathlib.Nat.{zero-add, add-zero, add-sub_of_le}
use native.Mathlib.Numerals.{add-one}
use native.Mathlib.Omega.{arith}
use lib.ListN.{length, get_or, take, drop, replicate, length-replicate, set}
use lib.Seq.{slice, get_or-drop, drop-length, take-suc, take-length, length-take-le, get_or-take}
use Rattle.octets.specs.BigEndian.{be, laid}
use Rattle.records.proofs.LayLaws.{behind, both, nothing}
use Rattle.kept.specs.Layout.{filled}

-- the first i of some bytes lie at a place
pub record Laying (s now : List ℕ) (at : ℕ) (bs : List ℕ) (i : ℕ) : Type 0 where
  pub upto : i ≤ length bs
  pub is : now ≡ laid s at (take i bs)

module _ (s : List ℕ) (at : ℕ) (bs : List ℕ) where
  pub laying_none : Laying s s at bs 0
  laying_none = record { upto = omega arith; is = nothing s at }

  module _ (h : at + length bs ≤ length s) (now : List ℕ) (i : ℕ) (w : Laying s now at bs i) where
    pub laying_length : length now ≡ length s
    laying_length =
        let l : length (take i bs) ≡ i = length-take-le i bs w.upto in
        let u : i ≤ length bs = w.upto in
        ap length w.is ∙ laid_length s at (take i bs) (omega arith)

    pub laying_more : i < length bs → (v : ℕ) → v ≡ get_or bs i 0 → Laying s (set now (at + i) v) at bs (i + 1)
    laying_more l v e =
        let m : length now ≡ length s = laying_length in
        let k : length (take i bs) ≡ i = length-take-le i bs w.upto in
        let one : set now (at + i) v ≡ laid now (at + i) (v ∷ []) = laid_set now (at + i) v (omega arith) in
        let more : take (i + 1) bs ≡ take i bs ++ (get_or bs i 0 ∷ []) = ap (λ (j : ℕ). take j bs) (add-one i) ∙ take-suc bs i 0 l in
        record {
          upto = omega arith;
          is = cc (one, w.is, k, e, more, laid_laid s at (omega arith) (take i bs) (v ∷ []));
        }

    pub laying_all : i ≡ length bs → now ≡ laid s at bs
    laying_all e = w.is ∙ ap (λ (t : List ℕ). laid s at t) (ap (λ (j : ℕ). take j bs) e ∙ take-length bs)

-- a byte of a part
pub slice_at : (from to : ℕ) (l : List ℕ) (i : ℕ) → from + i < to → get_or (slice from to l) i 0 ≡ get_or l (from + i) 0
slice_at from to l i h = get_or-drop from (take to l) i 0 ∙ get_or-take to l (from + i) 0 h

-- as many bytes as a part of a list has, put in its place
pub laid_part : (s : List ℕ) (at n : ℕ) (bs ys : List ℕ) → ys ≡ bs → length bs ≡ n → put_mid at n s ys ≡ laid s at bs
unfolding laid
laid_part s at n bs ys e l =
    ap₂ (λ (t u : List ℕ). take at s ++ (t ++ u)) e (drop-drop n at s ∙ ap (λ (k : ℕ). drop (at + k) s) (sym l)) ∙ sym (append_assoc (take at s) bs (drop (at + length bs) s))

-- a test of each byte of a part is that of its places one by one
pub part_passes : (ok : ℕ → Bool) (s : List ℕ) (from n : ℕ) → from + n ≤ length s → list_all ok (take n (drop from s)) ≡ all_of n (λ (k : ℕ). ok (get_or s (from + k) 0))
unfolding all_of
part_passes ok s from zero h = refl
part_passes ok s from (suc n) h =
    ap (λ (k : ℕ). list_all ok (take k (drop from s))) (sym (add-one n))
    ∙ list_all_more ok (drop from s) n 0 (omega (arith, length-drop from s))
    ∙ ap₂ ◌&&◌ (part_passes ok s from n (omega arith)) (ap ok (get_or-drop from s n 0))

-- the number in one byte
pub byte_at : (s : List ℕ) (at : ℕ) → get_or s at 0 ≡ be 1 s at
unfolding be
byte_at s at = sym (zero-add (get_or s (at + 0) 0) ∙ ap (λ (k : ℕ). get_or s k 0) (add-zero at))

-- bytes as long as the list, laid over all of it
pub laid_whole : (s bs : List ℕ) → length bs ≡ length s → laid s 0 bs ≡ bs
unfolding laid
laid_whole s bs e = ap (λ (k : ℕ). bs ++ drop k s) (zero-add (length bs) ∙ e) ∙ ap (λ (t : List ℕ). bs ++ t) (drop-length s) ∙ append-nil bs

-- a part is as long as its place
pub filled_long : (n : ℕ) (bs : List ℕ) → length bs ≤ n → length (filled n bs) ≡ n
unfolding filled
filled_long n bs h = both bs (replicate (n - length bs) 0) (length bs) (n - length bs) refl (length-replicate (n - length bs) 0) ∙ add-sub_of_le h

-- m bytes laid, and 0 laid behind them up to the end of a place of n, are the part laid whole
pub laid_filled : (s : List ℕ) (at : ℕ) → at ≤ length s → (n m k : ℕ) (bs : List ℕ) → length bs ≡ m → k ≡ n - m → (t u : List ℕ)
    → t ≡ laid s at bs → u ≡ laid t (at + m) (replicate k 0) → u ≡ laid s at (filled n bs)
unfolding filled
laid_filled s at h n m k bs l e t u p q =
    behind s at h bs (replicate (n - length bs) 0) m l t u p (q ∙ ap (λ (j : ℕ). laid t (at + m) (replicate j 0)) (e ∙ ap (λ (j : ℕ). n - j) (sym l)))
