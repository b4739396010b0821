-- A list of which a part was lent and is back: the part is what it was left as, and the rest is as it was. Assumes nothing.
use mathlib.Core.Path.{◌≡◌, sym, ap, ◌∙◌}
use mathlib.Core.List.{List, ◌++◌, append-nil}
use Prim.Native.Nat.{ℕ, ◌+◌, ◌-◌, ◌≤◌}
use native.Mathlib.Omega.{arith}
use lib.ListN.{length, take, drop, length-append, length-drop, take-append-drop}
use lib.Seq.{take_at, drop_at, take_all, drop-length, length-take-le}

sub_none : (n : ℕ) → n - 0 ≡ n
sub_none n = omega arith

module _ {A : Type 0} where
  -- the first n, lent and left as ys
  pub first_lent : (n : ℕ) (xs : List A) → take (n - 0) xs ≡ take n xs
  first_lent n xs = ap (λ (k : ℕ). take k xs) (sub_none n)

  pub first_fits : (n : ℕ) (xs : List A) → length (take n xs) ≡ n → n ≤ length xs
  first_fits n xs e = let l : length (take n xs) + length (drop n xs) ≡ length xs = sym (length-append (take n xs) (drop n xs)) ∙ ap length (take-append-drop n xs) in omega arith

  pub first_long : (n : ℕ) (xs : List A) → n ≤ length xs → length (take (n - 0) xs) ≡ n
  first_long n xs h = ap length (first_lent n xs) ∙ length-take-le n xs h

  pub first_part : (n k : ℕ) (xs ys : List A) → length ys ≡ k → take k (ys ++ drop (n - 0) xs) ≡ ys
  first_part n k xs ys e = take_at ys (drop (n - 0) xs) k e

  pub first_rest : (n k : ℕ) (xs ys : List A) → length ys ≡ k → drop k (ys ++ drop (n - 0) xs) ≡ drop n xs
  first_rest n k xs ys e = drop_at ys (drop (n - 0) xs) k e ∙ ap (λ (i : ℕ). drop i xs) (sub_none n)

  -- all from n on, lent and left as ys
  pub last_lent : (n : ℕ) (xs : List A) → take (length xs - n) (drop n xs) ≡ drop n xs
  last_lent n xs = take_all (length xs - n) (drop n xs) (omega (arith, length-drop n xs))

  pub last_rest : (n : ℕ) (xs ys : List A) → n ≤ length xs → take n (take n xs ++ (ys ++ drop (length xs - n) (drop n xs))) ≡ take n xs
  last_rest n xs ys h = take_at (take n xs) (ys ++ drop (length xs - n) (drop n xs)) n (length-take-le n xs h)

  pub last_part : (n : ℕ) (xs ys : List A) → n ≤ length xs → drop n (take n xs ++ (ys ++ drop (length xs - n) (drop n xs))) ≡ ys
  last_part n xs ys h =
      drop_at (take n xs) (ys ++ drop (length xs - n) (drop n xs)) n (length-take-le n xs h)
      ∙ ap (λ (z : List A). ys ++ z) (ap (λ (k : ℕ). drop k (drop n xs)) (sym (length-drop n xs)) ∙ drop-length (drop n xs))
      ∙ append-nil ys

  -- the first n left as ys, and then all from n on, which are m
  both_long : (n m : ℕ) (xs ys : List A) → length ys ≡ n → length xs ≡ n + m → length (ys ++ drop (n - 0) xs) ≡ n + m
  both_long n m xs ys e l =
      let d : length (drop (n - 0) xs) ≡ length xs - (n - 0) = length-drop (n - 0) xs in
      length-append ys (drop (n - 0) xs) ∙ omega arith

  pub then_lent : (n m : ℕ) (xs ys : List A) → length ys ≡ n → length xs ≡ n + m → (let w = ys ++ drop (n - 0) xs in length (take (length w - n) (drop n w)) ≡ m)
  then_lent n m xs ys e l =
      let w = ys ++ drop (n - 0) xs in
      let b : length w ≡ n + m = both_long n m xs ys e l in
      ap length (last_lent n w) ∙ length-drop n w ∙ ap (λ (k : ℕ). k - n) b ∙ omega arith

  pub then_first : (n m : ℕ) (xs ys zs : List A) → length ys ≡ n → length xs ≡ n + m → (k : ℕ) → k ≡ n → (let w = ys ++ drop (n - 0) xs in take k (take n w ++ (zs ++ drop (length w - n) (drop n w))) ≡ ys)
  then_first n m xs ys zs e l k s =
      let w = ys ++ drop (n - 0) xs in
      let b : length w ≡ n + m = both_long n m xs ys e l in
      ap (λ (i : ℕ). take i (take n w ++ (zs ++ drop (length w - n) (drop n w)))) s ∙ last_rest n w zs (omega arith) ∙ first_part n n xs ys e

  pub then_last : (n m : ℕ) (xs ys zs : List A) → length ys ≡ n → length xs ≡ n + m → (k : ℕ) → k ≡ n → (let w = ys ++ drop (n - 0) xs in drop k (take n w ++ (zs ++ drop (length w - n) (drop n w))) ≡ zs)
  then_last n m xs ys zs e l k s =
      let w = ys ++ drop (n - 0) xs in
      let b : length w ≡ n + m = both_long n m xs ys e l in
      ap (λ (i : ℕ). drop i (take n w ++ (zs ++ drop (length w - n) (drop n w)))) s ∙ last_part n w zs (omega arith)
