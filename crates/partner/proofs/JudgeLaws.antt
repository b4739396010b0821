-- The verdict over the fields of one step, whose sizes are known: where the partner has all its bytes, it is that of the fields behind them; where not, the field
-- is shown in which the first other byte lies, or that ends the partner's bytes. Assumes nothing.
use mathlib.Core.Path.{◌≡◌, refl, sym, ap, ap₂, ◌∙◌}
use mathlib.Core.Bool.{Bool, true, false, cond}
use mathlib.Core.List.{List, [], ◌∷◌, ◌++◌, append-nil, map}
use Prim.Native.Nat.{ℕ, zero, suc, ◌+◌, ◌-◌, ◌*◌, ◌/◌, ◌≤◌, ◌<◌}
use native.Mathlib.Nat.{add-zero, add_assoc, mul-zero, mul-suc, zero-mul, suc-mul, div-eq_of_lt, div-eq-sub-div, div-mul-le_self}
use native.Mathlib.Numerals.{add-one}
use native.Mathlib.Omega.{arith}
use lib.Dec.{ltb, eqb}
use lib.ListN.{length, take, drop, replicate, length-append, length-drop}
use lib.Seq.{take-take, drop-drop, drop-append_seam}
use borrow.Author.Tests.{ltb-true, ltb-false, le-ltb}
use Rattle.whole.proofs.Choice.{by_test}
use Rattle.partner.specs.declared.Verdict.{Verdict}
use Rattle.partner.specs.Verdict.{Field, asked_by, same, verdict_from}
use Rattle.partner.specs.Posts.{alike_of, field_start, field_size, wrong_at}
use Rattle.partner.proofs.AlikeLaws.{alike_at, alike_differs, same_is, same_not}
use Rattle.partner.proofs.PlacesLaws.{verdict_wrong, verdict_next}

-- ---- lists that begin alike: the first bytes are the same, up to the first other one
alike_take : (n : ℕ) (xs ys : List ℕ) → n ≤ alike_of xs ys → take n xs ≡ take n ys
alike_take n xs ys h = let d : ℕ = alike_of xs ys in sym (take-take n d xs h) ∙ ap (take n) (alike_at xs ys d refl) ∙ take-take n d ys h

-- behind them it goes on
alike_drop : (n : ℕ) (xs ys : List ℕ) → n ≤ alike_of xs ys → alike_of (drop n xs) (drop n ys) ≡ alike_of xs ys - n
unfolding alike_of
alike_drop zero xs ys h = omega arith
alike_drop (suc n) [] ys h = absurd (omega arith)
alike_drop (suc n) (x ∷ xs) [] h = absurd (omega arith)
alike_drop (suc n) (x ∷ xs) (y ∷ ys) h = go (eqb x y) h (alike_drop n xs ys)
  where
    go : (b : Bool) → suc n ≤ cond b (suc (alike_of xs ys)) 0 → (n ≤ alike_of xs ys → alike_of (drop n xs) (drop n ys) ≡ alike_of xs ys - n)
        → alike_of (drop n xs) (drop n ys) ≡ cond b (suc (alike_of xs ys)) 0 - suc n
    go true h more = more (omega arith) ∙ omega arith
    go false h more = absurd (omega arith)

-- and more than them are not the same
alike_other : (n : ℕ) (xs ys : List ℕ) → alike_of xs ys < n → n ≤ length xs → same (take n xs) (take n ys) ≡ false
alike_other n xs ys h l = same_not (take n xs) (take n ys) (alike_differs xs ys (omega arith) n h)

-- bytes behind the first other one do not matter
alike_front : (xs rest ys : List ℕ) → alike_of xs ys < length xs → alike_of (xs ++ rest) ys ≡ alike_of xs ys
unfolding alike_of
alike_front [] rest ys h = absurd (omega arith)
alike_front (x ∷ xs) rest [] h = refl
alike_front (x ∷ xs) rest (y ∷ ys) h = go (eqb x y) h (alike_front xs rest ys)
  where
    go : (b : Bool) → cond b (suc (alike_of xs ys)) 0 < suc (length xs) → (alike_of xs ys < length xs → alike_of (xs ++ rest) ys ≡ alike_of xs ys)
        → cond b (suc (alike_of (xs ++ rest) ys)) 0 ≡ cond b (suc (alike_of xs ys)) 0
    go true h more = ap suc (more (omega arith))
    go false h more = refl

alike_more : (xs rest ys : List ℕ) → alike_of xs ys ≤ alike_of (xs ++ rest) ys
unfolding alike_of
alike_more [] rest ys = omega arith
alike_more (x ∷ xs) rest [] = omega arith
alike_more (x ∷ xs) rest (y ∷ ys) = go (eqb x y) (alike_more xs rest ys)
  where
    go : (b : Bool) → alike_of xs ys ≤ alike_of (xs ++ rest) ys → cond b (suc (alike_of xs ys)) 0 ≤ cond b (suc (alike_of (xs ++ rest) ys)) 0
    go true m = omega arith
    go false m = omega arith

-- ---- the sizes of fields: all their bytes; the field in which byte d lies, where it begins and how many bytes it has
unfoldable pub sum_of : List ℕ → ℕ
sum_of [] = 0
sum_of (s ∷ ss) = s + sum_of ss

unfoldable pub start_in : List ℕ → ℕ → ℕ
start_in [] d = 0
start_in (s ∷ ss) d = cond (ltb d s) 0 (s + start_in ss (d - s))

unfoldable pub size_in : List ℕ → ℕ → ℕ
size_in [] d = 0
size_in (s ∷ ss) d = cond (ltb d s) s (size_in ss (d - s))

module _ (run : List ℕ) (place : ℕ) (fs : List Field) where
  abbrev asked : List ℕ → List Field
  asked sizes = map (asked_by place) sizes ++ fs

  -- one field more, which is right
  one_right : (s : ℕ) (ss ours theirs : List ℕ) (out : ℕ) → s ≤ alike_of ours theirs
      → verdict_from run (asked (s ∷ ss)) ours theirs out ≡ verdict_from run (asked ss) (drop s ours) (drop s theirs) (out + s)
  one_right s ss ours theirs out h = verdict_next run (asked_by place s) (asked ss) ours theirs out (same_is (take s ours) (take s theirs) (alike_take s ours theirs h))

  -- all of them right
  all_right : (sizes ours theirs : List ℕ) (out : ℕ) → sum_of sizes ≤ alike_of ours theirs
      → verdict_from run (asked sizes) ours theirs out ≡ verdict_from run fs (drop (sum_of sizes) ours) (drop (sum_of sizes) theirs) (out + sum_of sizes)
  unfolding sum_of
  all_right [] ours theirs out h = ap (verdict_from run fs ours theirs) (sym (add-zero out))
  all_right (s ∷ ss) ours theirs out h =
      let l : s ≤ alike_of ours theirs = omega arith in
      let d = alike_drop s ours theirs l in
      one_right s ss ours theirs out l
      ∙ all_right ss (drop s ours) (drop s theirs) (out + s) (omega arith)
      ∙ ap₂ (λ (a b : List ℕ). verdict_from run fs a b (out + s + sum_of ss)) (drop-drop (sum_of ss) s ours) (drop-drop (sum_of ss) s theirs)
      ∙ ap (verdict_from run fs (drop (s + sum_of ss) ours) (drop (s + sum_of ss) theirs)) (add_assoc out s (sum_of ss))

  -- one of them wrong
  module _ (result : List ℕ) where
    abbrev wrong_in : List ℕ → ℕ → ℕ → Verdict
    wrong_in sizes out d = wrong_at run place (length result) (out + start_in sizes d) (size_in sizes d)

    some_wrong : (sizes ours : List ℕ) (out : ℕ) → sum_of sizes ≤ length ours → alike_of ours (drop out result) < sum_of sizes
        → verdict_from run (asked sizes) ours (drop out result) out ≡ wrong_in sizes out (alike_of ours (drop out result))
    unfolding sum_of start_in size_in
    some_wrong [] ours out h l = absurd (omega arith)
    some_wrong (s ∷ ss) ours out h l = go (ltb d s) refl (some_wrong ss (drop s ours) (out + s))
      where
        theirs : List ℕ
        theirs = drop out result

        d : ℕ
        d = alike_of ours theirs

        go : (b : Bool) → ltb d s ≡ b
            → (sum_of ss ≤ length (drop s ours) → alike_of (drop s ours) (drop (out + s) result) < sum_of ss
            → verdict_from run (asked ss) (drop s ours) (drop (out + s) result) (out + s) ≡ wrong_in ss (out + s) (alike_of (drop s ours) (drop (out + s) result)))
            → verdict_from run (asked (s ∷ ss)) ours theirs out ≡ wrong_at run place (length result) (out + cond b 0 (s + start_in ss (d - s))) (cond b s (size_in ss (d - s)))
        go true e more =
            verdict_wrong run (asked_by place s) (asked ss) ours result out (alike_other s ours theirs (ltb-true d s e) (omega arith))
            ∙ ap (λ (n : ℕ). wrong_at run place (length result) n s) (sym (add-zero out))
        go false e more =
            let m : s ≤ d = ltb-false d s e in
            let then : alike_of (drop s ours) (drop (out + s) result) ≡ d - s = ap (alike_of (drop s ours)) (sym (drop-drop s out result)) ∙ alike_drop s ours theirs m in
            one_right s ss ours theirs out m
            ∙ ap (λ (bs : List ℕ). verdict_from run (asked ss) (drop s ours) bs (out + s)) (drop-drop s out result)
            ∙ more (simp length-drop (omega arith)) (omega arith)
            ∙ ap (wrong_in ss (out + s)) then
            ∙ ap (λ (n : ℕ). wrong_at run place (length result) n (size_in ss (d - s))) (add_assoc out s (start_in ss (d - s)))

-- ---- fields of the same size, and others behind them
once_more : (q s : ℕ) → (q + 1) * s ≡ q * s + s
once_more q s = ap (λ (n : ℕ). n * s) (add-one q) ∙ suc-mul q s

module _ (s : ℕ) (h : 0 < s) (more : List ℕ) where
  sum_equal : (n : ℕ) → sum_of (replicate n s ++ more) ≡ s * n + sum_of more
  unfolding sum_of
  sum_equal zero = let e = mul-zero s in omega arith
  sum_equal (suc n) = let e = mul-suc s n in let i = sum_equal n in omega arith

  -- behind one more of them
  one_within : (n d : ℕ) → s * suc n ≤ d → s ≤ d
  one_within n d l = let k = mul-suc s n in omega arith

  others_within : (n d : ℕ) → s * suc n ≤ d → s * n ≤ d - s
  others_within n d l = let k = mul-suc s n in omega arith

  left_over : (n d : ℕ) → s * suc n ≤ d → d - s - s * n ≡ d - s * suc n
  left_over n d l = let k = mul-suc s n in omega arith

  one_added : (n k : ℕ) → s + (s * n + k) ≡ s * suc n + k
  one_added n k = let e = mul-suc s n in omega arith

  start_within : (n d : ℕ) → d < s * n → start_in (replicate n s ++ more) d ≡ d / s * s
  unfolding start_in
  start_within zero d l = let e = mul-zero s in absurd (omega arith)
  start_within (suc n) d l = go (ltb d s) refl (start_within n (d - s))
    where
      go : (b : Bool) → ltb d s ≡ b → (d - s < s * n → start_in (replicate n s ++ more) (d - s) ≡ (d - s) / s * s) → cond b 0 (s + start_in (replicate n s ++ more) (d - s)) ≡ d / s * s
      go true e further = sym (ap (λ (q : ℕ). q * s) (div-eq_of_lt (ltb-true d s e)) ∙ zero-mul s)
      go false e further =
          let m = ltb-false d s e in
          let k = mul-suc s n in
          let q : d / s * s ≡ (d - s) / s * s + s = ap (λ (q : ℕ). q * s) (div-eq-sub-div h m) ∙ once_more ((d - s) / s) s in
          let f = further (omega arith) in
          omega arith

  start_behind : (n d : ℕ) → s * n ≤ d → start_in (replicate n s ++ more) d ≡ s * n + start_in more (d - s * n)
  unfolding start_in
  start_behind zero d l =
      let e : s * 0 ≡ 0 = mul-zero s in
      let f : d ≡ d - s * 0 = omega arith in
      let g : start_in more d ≡ start_in more (d - s * 0) = ap (start_in more) f in
      omega arith
  start_behind (suc n) d l =
      ap (λ (b : Bool). cond b 0 (s + start_in (replicate n s ++ more) (d - s))) (le-ltb d s (one_within n d l))
      ∙ ap (λ (k : ℕ). s + k) (start_behind n (d - s) (others_within n d l) ∙ ap (λ (k : ℕ). s * n + start_in more k) (left_over n d l))
      ∙ one_added n (start_in more (d - s * suc n))

  size_within : (n d : ℕ) → d < s * n → size_in (replicate n s ++ more) d ≡ s
  unfolding size_in
  size_within zero d l = let e = mul-zero s in absurd (omega arith)
  size_within (suc n) d l = go (ltb d s) refl (size_within n (d - s))
    where
      go : (b : Bool) → ltb d s ≡ b → (d - s < s * n → size_in (replicate n s ++ more) (d - s) ≡ s) → cond b s (size_in (replicate n s ++ more) (d - s)) ≡ s
      go true e further = refl
      go false e further = let m = ltb-false d s e in let k = mul-suc s n in further (omega arith)

  size_behind : (n d : ℕ) → s * n ≤ d → size_in (replicate n s ++ more) d ≡ size_in more (d - s * n)
  unfolding size_in
  size_behind zero d l = let e : s * 0 ≡ 0 = mul-zero s in let f : d ≡ d - s * 0 = omega arith in ap (size_in more) f
  size_behind (suc n) d l =
      ap (λ (b : Bool). cond b s (size_in (replicate n s ++ more) (d - s))) (le-ltb d s (one_within n d l))
      ∙ size_behind n (d - s) (others_within n d l)
      ∙ ap (size_in more) (left_over n d l)

-- ---- a step's fields: n of one size, then m of another
abbrev pub step_sizes : ℕ → ℕ → List ℕ
step_sizes n m = replicate n 40 ++ replicate m 29

pub step_sum : (n m : ℕ) → sum_of (step_sizes n m) ≡ 40 * n + 29 * m
unfolding sum_of
step_sum n m =
    let i = sum_equal 40 (omega arith) (replicate m 29) n in
    let j = ap sum_of (sym (append-nil (replicate m 29))) ∙ sum_equal 29 (omega arith) [] m in
    omega arith

module _ (n m d : ℕ) (h : d < 40 * n + 29 * m) where
  start_is : start_in (step_sizes n m) d ≡ field_start n d
  unfolding field_start
  start_is = go (ltb d (40 * n)) refl
    where
      go : (b : Bool) → ltb d (40 * n) ≡ b → start_in (step_sizes n m) d ≡ cond b (d / 40 * 40) (40 * n + (d - 40 * n) / 29 * 29)
      go true e = start_within 40 (omega arith) (replicate m 29) n d (ltb-true d (40 * n) e)
      go false e =
          let l = ltb-false d (40 * n) e in
          start_behind 40 (omega arith) (replicate m 29) n d l
          ∙ ap (λ (k : ℕ). 40 * n + k)
          (ap (λ (ss : List ℕ). start_in ss (d - 40 * n)) (sym (append-nil (replicate m 29))) ∙ start_within 29 (omega arith) [] m (d - 40 * n) (omega arith))

  size_is : size_in (step_sizes n m) d ≡ field_size n d
  unfolding field_size
  size_is = go (ltb d (40 * n)) refl
    where
      go : (b : Bool) → ltb d (40 * n) ≡ b → size_in (step_sizes n m) d ≡ cond b 40 29
      go true e = size_within 40 (omega arith) (replicate m 29) n d (ltb-true d (40 * n) e)
      go false e =
          let l = ltb-false d (40 * n) e in
          size_behind 40 (omega arith) (replicate m 29) n d l
          ∙ ap (λ (ss : List ℕ). size_in ss (d - 40 * n)) (sym (append-nil (replicate m 29)))
          ∙ size_within 29 (omega arith) [] m (d - 40 * n) (omega arith)

-- a field begins at no later byte than one that lies in it
pub start_most : (n d : ℕ) → field_start n d ≤ d
unfolding field_start
start_most n d =
    by_test (λ (k : ℕ). k ≤ d) (ltb d (40 * n)) (d / 40 * 40) (40 * n + (d - 40 * n) / 29 * 29) (λ t. div-mul-le_self d 40)
    (λ f. let l = ltb-false d (40 * n) f in let k = div-mul-le_self (d - 40 * n) 29 in omega arith)

-- ---- the records of a step, and what is left behind them
module _ (run : List ℕ) (place : ℕ) (fs : List Field) (R rest : List ℕ) (out : ℕ) where
  -- all of them are there
  pub step_right : (sizes theirs : List ℕ) → sum_of sizes ≡ length R → length R ≤ alike_of R theirs
      → verdict_from run (map (asked_by place) sizes ++ fs) (R ++ rest) theirs out ≡ verdict_from run fs rest (drop (length R) theirs) (out + length R)
  step_right sizes theirs long h =
      let l = alike_more R rest theirs in
      all_right run place fs sizes (R ++ rest) theirs out (omega arith)
      ∙ ap (λ (n : ℕ). verdict_from run fs (drop n (R ++ rest)) (drop n theirs) (out + n)) long
      ∙ ap (λ (ours : List ℕ). verdict_from run fs ours (drop (length R) theirs) (out + length R)) (drop-append_seam R rest)

  -- they are not: the wrong field is the one in which the first other byte lies
  pub step_wrong : (n m : ℕ) (result : List ℕ) → 40 * n + 29 * m ≡ length R → alike_of R (drop out result) < length R
      → let d = alike_of R (drop out result) in
      verdict_from run (map (asked_by place) (step_sizes n m) ++ fs) (R ++ rest) (drop out result) out ≡ wrong_at run place (length result) (out + field_start n d) (field_size n d)
  step_wrong n m result long h =
      let d : ℕ = alike_of R (drop out result) in
      let e = alike_front R rest (drop out result) h in
      let l = length-append R rest in
      let t = step_sum n m in
      some_wrong run place fs result (step_sizes n m) (R ++ rest) out (omega arith) (omega arith)
      ∙ ap (wrong_in run place fs result (step_sizes n m) out) e
      ∙ ap₂ (λ (b z : ℕ). wrong_at run place (length result) (out + b) z) (start_is n m d (omega arith)) (size_is n m d (omega arith))
