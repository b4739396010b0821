-- Requests in code: what is read back, added and compared. Assumes nothing.
use mathlib.Core.Path.{◌≡◌, refl, sym, ap, ap₂, ◌∙◌, subst₂}
use mathlib.Core.Bool.{Bool, false, ◌||◌}
use mathlib.Core.List.{List}
use Prim.Native.Nat.{ℕ, ◌+◌, ◌*◌, ◌^◌, ◌≤◌, ◌<◌}
use native.Mathlib.Nat.{lt_of_le_of_lt, le_trans, add-le-add}
use native.Mathlib.Omega.{arith}
use lib.Dec.{lit<}
use lib.IntN.{ℤ, pos, nat_abs, ◌+ℤ◌}
use lib.ListN.{length, get_or}
use lib.Signed.{mag, lt_z}
use mir.Syntax.{w32, w64}
use mir.Val.{SFits}
use Rattle.whole.specs.Over.{sum_ofℤ, some_of}
use Rattle.whole.proofs.OverLaws.{sumℤ_next, some_next}
use Rattle.whole.proofs.SignLaws.{read, size_sum, size_fits, wide_is, wide_size, made_fits, made_is}
use Rattle.rules.specs.declared.Asked.{Asked}
use Rattle.members.specs.Ranges.{some_above, some_below}
use Rattle.members.specs.Sums.{sum_of_all}
use Rattle.members.specs.Posts.{WithRequest, AskedOf, SignsOf}
use Rattle.rules.proofs.RuleLaws.{back32, back64}

-- a sum so far, and a request
module _ (x r : ℤ) (hx : nat_abs x ≤ 1000000000000) (hr : mag r < 2 ^ 31) where
  sum_is : back64 x +ℤ back64 (back32 r) ≡ x +ℤ r
  sum_is = ap₂ ◌+ℤ◌ (read w64 x (size_fits w64 x (lt_of_le_of_lt hx (lit< tt))).sfits) (wide_is r hr)

  sum_size : nat_abs (x +ℤ r) < 2 ^ 63
  sum_size = lt_of_le_of_lt (le_trans (size_sum x r) (add-le-add hx (wide_size r hr))) (lit< tt)

  pub request_fits : SFits w64 (back64 x +ℤ back64 (back32 r))
  request_fits = made_fits w64 (x +ℤ r) (back64 x +ℤ back64 (back32 r)) sum_is sum_size

  pub request_added : back64 (back64 x +ℤ back64 (back32 r)) ≡ x +ℤ r
  request_added = made_is w64 (x +ℤ r) (back64 x +ℤ back64 (back32 r)) sum_is sum_size

pub with_is : (a : Asked) (r : ℤ) → nat_abs a.sum ≤ 1000000000000 → mag r < 2 ^ 31
    → WithRequest a r (record { sum = back64 (back64 a.sum +ℤ back64 (back32 r)); above = a.above || lt_z (pos 0) (back32 r); below = a.below || lt_z (back32 r) (pos 0) })
with_is a r ha hr = record {
  sum = request_added a.sum r ha hr;
  above = ap (λ (z : ℤ). a.above || lt_z (pos 0) z) (read w32 r hr);
  below = ap (λ (z : ℤ). a.below || lt_z z (pos 0)) (read w32 r hr);
}

-- the signs of the first i requests
pub record SignsSo (rs : List ℤ) (i : ℕ) (above below : Bool) : Type 0 where
  pub above_is : above ≡ some_of i (λ (k : ℕ). lt_z (pos 0) (get_or rs k (pos 0)))
  pub below_is : below ≡ some_of i (λ (k : ℕ). lt_z (get_or rs k (pos 0)) (pos 0))

pub no_signs : (rs : List ℤ) → SignsSo rs 0 false false
unfolding some_of
no_signs rs = record { above_is = refl; below_is = refl }

module _ (rs : List ℤ) (i : ℕ) (above below : Bool) (s : SignsSo rs i above below) where
  pub sign_more : (r : ℤ) → r ≡ get_or rs i (pos 0) → SignsSo rs (i + 1) (above || lt_z (pos 0) r) (below || lt_z r (pos 0))
  sign_more r e = record {
    above_is = ap₂ (λ (t : Bool) (z : ℤ). t || lt_z (pos 0) z) s.above_is e ∙ sym (some_next i (λ (k : ℕ). lt_z (pos 0) (get_or rs k (pos 0))));
    below_is = ap₂ (λ (t : Bool) (z : ℤ). t || lt_z z (pos 0)) s.below_is e ∙ sym (some_next i (λ (k : ℕ). lt_z (get_or rs k (pos 0)) (pos 0)));
  }

  pub all_signs : i ≡ length rs → SignsOf rs (record { sum = pos 0; above = above; below = below })
  unfolding some_above some_below
  all_signs e = record {
    sum = refl;
    above = s.above_is ∙ ap (λ (n : ℕ). some_of n (λ (k : ℕ). lt_z (pos 0) (get_or rs k (pos 0)))) e;
    below = s.below_is ∙ ap (λ (n : ℕ). some_of n (λ (k : ℕ). lt_z (get_or rs k (pos 0)) (pos 0))) e;
  }

-- what the first i requests ask, with a bound on its sum
pub record SoFar (rs : List ℤ) (i : ℕ) (a : Asked) : Type 0 where
  pub sum : a.sum ≡ sum_ofℤ i (λ (k : ℕ). get_or rs k (pos 0))
  pub signs : SignsSo rs i a.above a.below
  pub bounded : nat_abs a.sum ≤ i * 2147483648

pub none_yet_is : (rs : List ℤ) → SoFar rs 0 (record { sum = pos 0; above = false; below = false })
unfolding sum_ofℤ
none_yet_is rs = record { sum = refl; signs = no_signs rs; bounded = omega arith }

pub one_more : (rs : List ℤ) (i : ℕ) (a b : Asked) → SoFar rs i a → mag (get_or rs i (pos 0)) < 2 ^ 31 → WithRequest a (get_or rs i (pos 0)) b → SoFar rs (i + 1) b
one_more rs i a b s h w = record {
  sum = w.sum ∙ ap (λ (z : ℤ). z +ℤ get_or rs i (pos 0)) s.sum ∙ sym (sumℤ_next i (λ (k : ℕ). get_or rs k (pos 0)));
  signs = subst₂ (SignsSo rs (i + 1)) (sym w.above) (sym w.below) (sign_more rs i a.above a.below s.signs (get_or rs i (pos 0)) refl);
  bounded =
      let r = get_or rs i (pos 0) in
      let p : nat_abs (a.sum +ℤ r) ≤ nat_abs a.sum + nat_abs r = size_sum a.sum r in
      let q : nat_abs r ≤ 2147483648 = wide_size r h in
      let e : nat_abs b.sum ≡ nat_abs (a.sum +ℤ r) = ap nat_abs w.sum in
      let t : nat_abs a.sum ≤ i * 2147483648 = s.bounded in
      omega arith;
}

pub all_asked : (rs : List ℤ) (i : ℕ) (a : Asked) → i ≡ length rs → length rs ≤ 64 → SoFar rs i a → AskedOf rs a
unfolding sum_of_all
all_asked rs i a e h s =
    let signs = all_signs rs i a.above a.below s.signs e in record {
      sum = s.sum ∙ ap (λ (n : ℕ). sum_ofℤ n (λ (k : ℕ). get_or rs k (pos 0))) e;
      above = signs.above;
      below = signs.below;
      bounded = omega (arith, s.bounded);
    }
