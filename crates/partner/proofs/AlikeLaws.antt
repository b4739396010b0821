-- How many bytes two lists begin with that are the same, and whether two lists have the same bytes: as many bytes are the same as the count says, and the next, if
-- both have one, is not. Assumes nothing.
use mathlib.Core.Path.{◌≡◌, refl, sym, ap, ap₂, ◌∙◌, subst}
use mathlib.Core.Bool.{Bool, true, false, cond, ◌&&◌}
use mathlib.Core.List.{List, [], ◌∷◌}
use Prim.Native.Nat.{ℕ, zero, suc, ◌+◌, ◌-◌, ◌≤◌, ◌<◌, min}
use native.Mathlib.Nat.{zero-add}
use native.Mathlib.Numerals.{add-one}
use native.Mathlib.Omega.{arith}
use lib.Dec.{eqb}
use lib.ListN.{length, get_or, take, drop, length-take, length-drop}
use lib.Seq.{take_all, take-length, drop-cons, get_or-take, get_or-drop}
use borrow.Author.Tests.{eqb-true, eq-eqb, ne_eqb}
use Rattle.partner.specs.Verdict.{same}
use Rattle.partner.specs.Posts.{SameAt, alike_of}

-- ---- one byte of each, and the rest
alike_cons : (x y : ℕ) (xs ys : List ℕ) → x ≡ y → alike_of (x ∷ xs) (y ∷ ys) ≡ suc (alike_of xs ys)
unfolding alike_of
alike_cons x y xs ys e = ap (λ (b : Bool). cond b (suc (alike_of xs ys)) 0) (eq-eqb x y e)

alike_other : (x y : ℕ) (xs ys : List ℕ) → (x ≡ y → ⊥) → alike_of (x ∷ xs) (y ∷ ys) ≡ 0
unfolding alike_of
alike_other x y xs ys n = ap (λ (b : Bool). cond b (suc (alike_of xs ys)) 0) (ne_eqb x y n)

-- ---- what the count says
pub alike_most : (xs ys : List ℕ) → alike_of xs ys ≤ length xs
unfolding alike_of
alike_most [] ys = omega arith
alike_most (x ∷ xs) [] = omega arith
alike_most (x ∷ xs) (y ∷ ys) = go (eqb x y) (alike_most xs ys)
  where
    go : (b : Bool) → alike_of xs ys ≤ length xs → cond b (suc (alike_of xs ys)) 0 ≤ suc (length xs)
    go true h = omega arith
    go false h = omega arith

pub alike_few : (xs ys : List ℕ) → alike_of xs ys ≤ length ys
unfolding alike_of
alike_few [] ys = omega arith
alike_few (x ∷ xs) [] = omega arith
alike_few (x ∷ xs) (y ∷ ys) = go (eqb x y) (alike_few xs ys)
  where
    go : (b : Bool) → alike_of xs ys ≤ length ys → cond b (suc (alike_of xs ys)) 0 ≤ suc (length ys)
    go true h = omega arith
    go false h = omega arith

-- so many bytes are the same
alike_here : (xs ys : List ℕ) → take (alike_of xs ys) xs ≡ take (alike_of xs ys) ys
unfolding alike_of
alike_here [] ys = refl
alike_here (x ∷ xs) [] = refl
alike_here (x ∷ xs) (y ∷ ys) = go (eqb x y) refl (alike_here xs ys)
  where
    go : (b : Bool) → eqb x y ≡ b → take (alike_of xs ys) xs ≡ take (alike_of xs ys) ys → take (cond b (suc (alike_of xs ys)) 0) (x ∷ xs) ≡ take (cond b (suc (alike_of xs ys)) 0) (y ∷ ys)
    go true t r = ap₂ {C = List ℕ} (λ (z : ℕ) (zs : List ℕ). z ∷ zs) (eqb-true x y t) r
    go false t r = refl

pub alike_at : (xs ys : List ℕ) (d : ℕ) → alike_of xs ys ≡ d → take d xs ≡ take d ys
alike_at xs ys d e = subst (λ (n : ℕ). take n xs ≡ take n ys) e (alike_here xs ys)

pub alike_all : (xs ys : List ℕ) → alike_of xs ys ≡ length xs → take (length xs) ys ≡ xs
alike_all xs ys e = sym (alike_at xs ys (length xs) e) ∙ take-length xs

-- and the next is another, or lacks
pub alike_differs : (xs ys : List ℕ) → alike_of xs ys < length xs → (n : ℕ) → alike_of xs ys < n → take n xs ≡ take n ys → ⊥
alike_differs xs ys h zero l e = omega arith
alike_differs [] ys h (suc n) l e = omega arith
alike_differs (x ∷ xs) [] h (suc n) l e = let z : ◌≡◌ {A = ℕ} 0 1 = cc in omega arith
alike_differs (x ∷ xs) (y ∷ ys) h (suc n) l e =
    let s : alike_of (x ∷ xs) (y ∷ ys) ≡ suc (alike_of xs ys) = alike_cons x y xs ys (cc) in
    alike_differs xs ys (omega arith) n (omega arith) (cc)

-- ---- whether two lists have the same bytes
pub same_true : (xs ys : List ℕ) → same xs ys ≡ true → xs ≡ ys
unfolding same
same_true [] [] t = refl
same_true [] (y ∷ ys) t = cc
same_true (x ∷ xs) [] t = cc
same_true (x ∷ xs) (y ∷ ys) t = go (eqb x y) refl (same_true xs ys) t
  where
    go : (b : Bool) → eqb x y ≡ b → (same xs ys ≡ true → xs ≡ ys) → b && same xs ys ≡ true → x ∷ xs ≡ y ∷ ys
    go true e r s = ap₂ {C = List ℕ} (λ (z : ℕ) (zs : List ℕ). z ∷ zs) (eqb-true x y e) (r s)
    go false e r s = cc

same_self : (xs : List ℕ) → same xs xs ≡ true
unfolding same
same_self [] = refl
same_self (x ∷ xs) = ap (λ (b : Bool). b && same xs xs) (eq-eqb x x refl) ∙ same_self xs

pub same_is : (xs ys : List ℕ) → xs ≡ ys → same xs ys ≡ true
same_is xs ys e = subst (λ (l : List ℕ). same xs l ≡ true) e (same_self xs)

pub same_false : (xs ys : List ℕ) → same xs ys ≡ false → xs ≡ ys → ⊥
same_false xs ys f e = let t = same_is xs ys e in let z : ◌≡◌ {A = Bool} true false = cc in let y : ◌≡◌ {A = ℕ} 0 1 = cc in omega arith

pub same_not : (xs ys : List ℕ) → (xs ≡ ys → ⊥) → same xs ys ≡ false
same_not xs ys n = go (same xs ys) refl
  where
    go : (b : Bool) → same xs ys ≡ b → b ≡ false
    go true t = absurd (n (same_true xs ys t))
    go false t = refl

-- all of n bytes stand at the start of others, or fewer
module _ (xs ys : List ℕ) (n : ℕ) (l : length xs ≡ n) where
  pub alike_full : n ≤ alike_of xs ys → same xs (take n ys) ≡ true
  alike_full h =
      let e : alike_of xs ys ≡ length xs = omega (arith, alike_most xs ys) in
      same_is xs (take n ys) (sym (alike_all xs ys e) ∙ ap (λ (k : ℕ). take k ys) l)

  pub alike_less : alike_of xs ys < n → same xs (take n ys) ≡ false
  alike_less h = same_not xs (take n ys) (λ e. alike_differs xs ys (omega arith) n h (take_all n xs (omega arith) ∙ e))

-- ---- the first n bytes of ours beside theirs from a place on, with i of them held so far
module _ (ours : List ℕ) (n : ℕ) (theirs : List ℕ) (at : ℕ) where
  abbrev pub first : List ℕ
  first = take n ours

  abbrev pub beside : List ℕ
  beside = drop at theirs

  pub record SoFar (i : ℕ) : Type 0 where
    pub rest : alike_of first beside ≡ i + alike_of (drop i first) (drop i beside)

  pub sets_out : SoFar 0
  sets_out = record { rest = omega arith }

  module _ (i : ℕ) (s : SoFar i) where
    -- one of them is over
    pub comes_to : n ≤ length ours → min n (length theirs - at) ≤ i → i ≤ min n (length theirs - at) → i ≡ alike_of first beside
    comes_to h l m =
        let e = s.rest in
        let a = alike_most (drop i first) (drop i beside) in
        let b = alike_few (drop i first) (drop i beside) in
        let p = length-drop i first in
        let q = length-drop i beside in
        let u = length-take n ours in
        let v = length-drop at theirs in
        omega arith

    module _ (h : n ≤ length ours) (l : i < min n (length theirs - at)) where
      in_first : i < length first
      in_first = let e = length-take n ours in omega arith

      in_beside : i < length beside
      in_beside = let e = length-drop at theirs in omega arith

      cut : alike_of (drop i first) (drop i beside) ≡ alike_of (get_or ours i 0 ∷ drop (suc i) first) (get_or theirs (at + i) 0 ∷ drop (suc i) beside)
      cut = ap₂ alike_of (drop-cons first i 0 in_first) (drop-cons beside i 0 in_beside)
          ∙ ap₂ (λ (x y : ℕ). alike_of (x ∷ drop (suc i) first) (y ∷ drop (suc i) beside)) (get_or-take n ours i 0 (omega arith)) (get_or-drop at theirs i 0)

      -- the next is another
      pub stops : (get_or ours i 0 ≡ get_or theirs (at + i) 0 → ⊥) → i ≡ alike_of first beside
      stops un =
          let e = s.rest in
          let z : alike_of (drop i first) (drop i beside) ≡ 0 = cut ∙ alike_other (get_or ours i 0) (get_or theirs (at + i) 0) (drop (suc i) first) (drop (suc i) beside) un in
          omega arith

      -- the next is the same
      pub goes_on : get_or ours i 0 ≡ get_or theirs (at + i) 0 → SoFar (i + 1)
      goes_on is =
          let e = s.rest in
          let z : alike_of (drop i first) (drop i beside) ≡ suc (alike_of (drop (suc i) first) (drop (suc i) beside)) =
          cut ∙ alike_cons (get_or ours i 0) (get_or theirs (at + i) 0) (drop (suc i) first) (drop (suc i) beside) is in
          record { rest = rw (add-one i) (omega arith) }

-- ---- the first k of ours, where they are the same
pub goes_many : (ours : List ℕ) (n : ℕ) (theirs : List ℕ) (at k : ℕ) → n ≤ length ours → k ≤ min n (length theirs - at) → SameAt k ours 0 theirs at → SoFar ours n theirs at k
goes_many ours n theirs at zero h l s = sets_out ours n theirs at
goes_many ours n theirs at (suc k) h l s =
    let one : k + 1 ≡ suc k = omega arith in
    let next : get_or ours k 0 ≡ get_or theirs (at + k) 0 = ap (λ (x : ℕ). get_or ours x 0) (sym (zero-add k)) ∙ s k (omega arith) in
    subst (SoFar ours n theirs at) one (goes_on ours n theirs at k (goes_many ours n theirs at k h (omega arith) (λ j m. s j (omega arith))) h (omega arith) next)
