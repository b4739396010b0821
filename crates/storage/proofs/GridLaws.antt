-- What a loss at the grid does to a balance and to an order: watts less l joules a second, with l a second more lost, balance as before; and less is no more
-- than before. Assumes nothing.
use mathlib.Core.Path.{◌≡◌, refl, sym, ap, ◌∙◌, subst, subst⁻¹}
use mathlib.Core.Bool.{Bool, true, false, cond}
use Prim.Native.Nat.{ℕ, zero, suc, ◌+◌, ◌-◌, ◌*◌, ◌≤◌, ◌<◌}
use native.Mathlib.Nat.{add-mul}
use native.Mathlib.Omega.{arith}
use lib.Dec.{ltb, leb→le, le→leb}
use lib.IntN.{ℤ, pos, negsuc, neg_ℤ, ◌-ℤ◌, +ℤ_idr, neg_ℤ-+ℤ}
use lib.Signed.{◌≤ℤ◌}
use borrow.Author.Tests.{ltb-true, ltb-false}
use Rattle.storage.specs.Relied.{Balanced}

-- seconds of two counts together
both : (a b n s : ℕ) → a + b ≡ n → n * s ≡ a * s + b * s
both a b n s e = ap (λ (m : ℕ). m * s) (sym e) ∙ add-mul a b s

module _ (s before after loss : ℕ) where
  abbrev Holds : ℤ → ℕ → Type 0
  Holds w l = Balanced s before w after (loss + l * s)

  by_order : (x l : ℕ) (b : Bool) → ltb x (suc l) ≡ b → before ≡ after + (x * s + loss) → Holds (cond b (negsuc (suc l - suc x)) (pos (x - suc l))) (suc l)
  by_order x l true t h =
      let k : x < suc l = ltb-true x (suc l) t in
      let e : suc l * s ≡ suc (suc l - suc x) * s + x * s = both (suc (suc l - suc x)) x (suc l) s (omega arith) in
      omega arith
  by_order x l false t h =
      let k : suc l ≤ x = ltb-false x (suc l) t in
      let e : x * s ≡ (x - suc l) * s + suc l * s = both (x - suc l) (suc l) x s (omega arith) in
      omega arith

  pub lower : (w : ℤ) (l : ℕ) → Balanced s before w after loss → Holds (w -ℤ pos l) l
  lower w zero h = subst⁻¹ (λ (z : ℤ). Balanced s before z after (loss + 0 * s)) (+ℤ_idr w) (subst (Balanced s before w after) none h)
    where
      none : loss ≡ loss + 0 * s
      none = omega arith
  lower (pos x) (suc l) h = by_order x l (ltb x (suc l)) refl h
  lower (negsuc x) (suc l) h =
      let e : suc (suc (x + l)) * s ≡ suc x * s + suc l * s = both (suc x) (suc l) (suc (suc (x + l))) s (omega arith) in
      omega arith

-- what is at most n is so with a loss taken from it
pub no_more_less : (w : ℤ) (l n : ℕ) → w ≤ℤ pos n → (w -ℤ pos l) ≤ℤ pos n
no_more_less w zero n h = subst⁻¹ (λ (z : ℤ). z ≤ℤ pos n) (+ℤ_idr w) h
no_more_less (pos x) (suc l) n h = go (ltb x (suc l))
  where
    go : (b : Bool) → cond b (negsuc (suc l - suc x)) (pos (x - suc l)) ≤ℤ pos n
    go true = record { le = tt }
    go false = let k : x ≤ n = leb→le x n h.le in record { le = le→leb (x - suc l) n (omega arith) }
no_more_less (negsuc x) (suc l) n h = record { le = tt }

-- a draw with a loss
pub draw_more : (d l : ℕ) → neg_ℤ (pos d) -ℤ pos l ≡ neg_ℤ (pos (d + l))
draw_more d l = sym (neg_ℤ-+ℤ (pos d) (pos l))
