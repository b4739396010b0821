-- Whole fields taken into a state's bytes: the site part grows by the fields before the steps, and all else is as the run leaves it. Assumes nothing.
use mathlib.Core.Path.{◌≡◌, refl, sym, ap, ap₂, ◌∙◌, subst}
use mathlib.Core.Bool.{Bool, true, false, cond}
use mathlib.Core.List.{List, [], ◌∷◌, ◌++◌, append_assoc, append-nil}
use Prim.Native.Nat.{ℕ, zero, suc, ◌+◌, ◌-◌, ◌≤◌, ◌<◌}
use native.Mathlib.Nat.{add-zero, add_assoc, le_trans, le_of_eq}
use native.Mathlib.Omega.{arith}
use lib.ListN.{length, take, drop, replicate, length-append, length-replicate, length-take, length-drop, take-append-drop}
use lib.Seq.{slice, length-take-le, take_at, drop_at, take-append-le, drop-append-le, take-append-add, drop-append-add, drop-drop, take-take}
use Rattle.octets.specs.BigEndian.{laid}
use Rattle.kept.specs.Layout.{site_place, site_most, state_size, filled}
use Rattle.kept.proofs.NumberLaws.{take_drop}

-- ---- a part that is filled up with 0, with bytes laid behind those that are there
module _ (n : ℕ) (a b : List ℕ) (room : length a + length b ≤ n) where
  zeros_drop : (k m : ℕ) → k ≤ m → drop {A = ℕ} k (replicate m 0) ≡ replicate (m - k) 0
  zeros_drop zero m h = ap (λ (j : ℕ). replicate j 0) (let z : m ≡ m - 0 = omega arith in z)
  zeros_drop (suc k) zero h = absurd (omega arith)
  zeros_drop (suc k) (suc m) h = zeros_drop k m (omega arith) ∙ ap (λ (j : ℕ). replicate j 0) (let z : m - k ≡ suc m - suc k = omega arith in z)

  pub filled_more : take (length a) (filled n a) ++ b ++ drop (length a + length b) (filled n a) ≡ filled n (a ++ b)
  unfolding filled
  filled_more =
      ap₂ (λ (x y : List ℕ). x ++ b ++ y) (take_at a (replicate (n - length a) 0) (length a) refl)
      (drop-append-add a (replicate (n - length a) 0) (length b)
      ∙ zeros_drop (length b) (n - length a) (omega arith)
      ∙ ap (λ (j : ℕ). replicate j 0) (let z : n - length a - length b ≡ n - length (a ++ b) = omega (arith, length-append a b) in z))

-- ---- bytes laid behind a place: what stands before it is as it was, and behind it they are laid in what stood there
module _ (s : List ℕ) (at k : ℕ) (b : List ℕ) (fits : at + k + length b ≤ length s) where
  short : at ≤ length (take (at + k) s)
  short = omega (arith, length-take-le (at + k) s (omega arith))

  pub front_stays : take at (laid s (at + k) b) ≡ take at s
  unfolding laid
  front_stays =
      take-append-le at (take (at + k) s ++ b) (drop (at + k + length b) s) (omega (arith, short, length-append (take (at + k) s) b))
      ∙ take-append-le at (take (at + k) s) b short
      ∙ take-take at (at + k) s (omega arith)

  pub behind_laid : drop at (laid s (at + k) b) ≡ take k (drop at s) ++ b ++ drop (k + length b) (drop at s)
  unfolding laid
  behind_laid =
      drop-append-le at (take (at + k) s ++ b) (drop (at + k + length b) s) (omega (arith, short, length-append (take (at + k) s) b))
      ∙ ap₂ ◌++◌ (drop-append-le at (take (at + k) s) b short ∙ ap (λ (x : List ℕ). x ++ b) cut)
      (sym (drop-drop (k + length b) at s ∙ ap (λ (j : ℕ). drop j s) (let z : at + (k + length b) ≡ at + k + length b = omega arith in z)))
    where
      cut : drop at (take (at + k) s) ≡ take k (drop at s)
      cut = sym (take_drop k at s)

-- ---- so the site part grows
module _ (s site more : List ℕ) (long : length s ≡ state_size) (part : drop site_place s ≡ filled site_most site) (room : length site + length more ≤ site_most) where
  pub grown_front : take site_place (laid s (site_place + length site) more) ≡ take site_place s
  grown_front = front_stays s site_place (length site) more (omega arith)

  pub grown_part : drop site_place (laid s (site_place + length site) more) ≡ filled site_most (site ++ more)
  grown_part =
      behind_laid s site_place (length site) more (omega arith)
      ∙ ap (λ (x : List ℕ). take (length site) x ++ more ++ drop (length site + length more) x) part
      ∙ filled_more site_most site more room
