-- Requests that differ: the code's test of bits is the definition's test of numbers, and requests none of which differ are the same. Assumes nothing.
use mathlib.Core.Path.{◌≡◌, refl, sym, ap, ◌∙◌}
use mathlib.Core.Bool.{Bool, true, false, not, ◌&&◌}
use mathlib.Core.List.{List}
use Prim.Native.Nat.{ℕ, ◌^◌, ◌<◌}
use native.Mathlib.Nat.{le_refl, le_antisymm}
use lib.Dec.{leb, eqb}
use lib.IntN.{ℤ, pos, negsuc}
use lib.ListN.{length, get_or}
use lib.Seq.{ext_get_or}
use lib.Signed.{mag, le_z}
use borrow.Author.Tests.{le-leb, leb-true, eqb-true, eqb-false, not-false}
use mir.Syntax.{Width}
use mir.Val.{hbits, to_z, of_z}
use Rattle.whole.proofs.Choice.{passed_failed}
use Rattle.whole.proofs.OverLaws.{and_parts, none_at}
use Rattle.whole.proofs.SignLaws.{read}
use Rattle.members.specs.Sums.{differ, changed_of}

pub same_same : (a : ℤ) → differ a a ≡ false
same_same (pos n) = simp (le-leb n n (le_refl n))
same_same (negsuc n) = simp (le-leb n n (le_refl n))

both_ways : (a b : ℤ) → (le_z a b && le_z b a) ≡ true → a ≡ b
both_ways (pos a) (pos b) e = let h = and_parts (leb a b) (leb b a) e in ap pos (le_antisymm (leb-true a b h.0) (leb-true b a h.1))
both_ways (pos a) (negsuc b) e = absurd (passed_failed e refl)
both_ways (negsuc a) (pos b) e = absurd (passed_failed e refl)
both_ways (negsuc a) (negsuc b) e = let h = and_parts (leb b a) (leb a b) e in ap negsuc (le_antisymm (leb-true a b h.1) (leb-true b a h.0))

apart : (a b : ℤ) → (a ≡ b → ⊥) → differ a b ≡ true
apart a b h = go (le_z a b && le_z b a) refl
  where
    go : (t : Bool) → (le_z a b && le_z b a) ≡ t → differ a b ≡ true
    go true e = absurd (h (both_ways a b e))
    go false e = ap not e

pub bits_differ : (w : Width) (a b : ℤ) → mag a < 2 ^ hbits w → mag b < 2 ^ hbits w → not (eqb (of_z w a) (of_z w b)) ≡ differ a b
bits_differ w a b ha hb = go (eqb (of_z w a) (of_z w b)) refl
  where
    go : (t : Bool) → eqb (of_z w a) (of_z w b) ≡ t → not (eqb (of_z w a) (of_z w b)) ≡ differ a b
    go true e =
        let same : a ≡ b = sym (read w a ha) ∙ ap (to_z w) (eqb-true (of_z w a) (of_z w b) e) ∙ read w b hb in
        ap not e ∙ sym (ap (differ a) (sym same) ∙ same_same a)
    go false e = ap not e ∙ sym (apart a b (λ p. eqb-false (of_z w a) (of_z w b) e (ap (of_z w) p)))

-- requests none of which differ
pub unchanged : (before after : List ℤ) → length after ≡ length before → changed_of before after ≡ false → before ≡ after
unfolding changed_of
unchanged before after e h =
    ext_get_or (pos 0) before after (sym e)
    (λ i l.
    both_ways (get_or before i (pos 0)) (get_or after i (pos 0))
    (not-false (le_z (get_or before i (pos 0)) (get_or after i (pos 0)) && le_z (get_or after i (pos 0)) (get_or before i (pos 0)))
    (none_at (length before) (λ (j : ℕ). differ (get_or before j (pos 0)) (get_or after j (pos 0))) h i l)))
