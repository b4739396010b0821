-- The tests of a whole state, as the code comes by them. Assumes nothing.
use mathlib.Core.Path.{◌≡◌, refl, sym, ap, ap₂, ◌∙◌}
use mathlib.Core.Bool.{Bool, true, false, not, cond, ◌&&◌, ◌||◌}
use mathlib.Core.List.{List}
use Prim.Native.Nat.{ℕ}
use lib.Dec.{leb, ltb, eqb}
use lib.ListN.{length}
use borrow.Author.Tests.{ltb-true, ltb-false, leb-true, lt-leb, le-leb, eq-eqb, ne_eqb}
use Rattle.whole.proofs.OverLaws.{and_parts}
use Rattle.stick.specs.declared.Reached.{Reached}
use Rattle.stick.specs.Check.{reach_of, start}
use Rattle.kept.specs.Layout.{state_size, tail_most, site_most, number_in, steps_kept, stage_in, site_bytes, tail_bytes, site_part, units_kept, roofs_kept}
use Rattle.kept.specs.Formed.{site_fits, stands_fit, rest_clear, mark_fits, going, stopped, well_formed}
use Rattle.kept.specs.Posts.{Sized}

-- at most is not above
not_above : (n m : ℕ) (b : Bool) → ltb m n ≡ b → leb n m ≡ not b
not_above n m true e = lt-leb n m (ltb-true m n e)
not_above n m false e = le-leb n m (ltb-false m n e)

none_above : (p q r : Bool) → (not p && not q && not r) ≡ not (p || q || r)
none_above true q r = refl
none_above false true r = refl
none_above false false r = refl

-- parts no longer than their places, and no more steps than a run can have
abbrev pub small : List ℕ → Bool
small s = leb (site_bytes s) site_most && leb (tail_bytes s) tail_most && leb (steps_kept s) 65535

module _ (s : List ℕ) (n t k : ℕ) (e : n ≡ site_bytes s) (f : t ≡ tail_bytes s) (g : k ≡ steps_kept s) where
  small_is : small s ≡ not (ltb site_most n || ltb tail_most t || ltb 65535 k)
  small_is =
      ap (λ (x : ℕ). leb x site_most && leb (tail_bytes s) tail_most && leb (steps_kept s) 65535) (sym e)
      ∙ ap (λ (x : ℕ). leb n site_most && leb x tail_most && leb (steps_kept s) 65535) (sym f)
      ∙ ap (λ (x : ℕ). leb n site_most && leb t tail_most && leb x 65535) (sym g)
      ∙ ap (λ (b : Bool). b && leb t tail_most && leb k 65535) (not_above n site_most (ltb site_most n) refl)
      ∙ ap (λ (b : Bool). not (ltb site_most n) && b && leb k 65535) (not_above t tail_most (ltb tail_most t) refl)
      ∙ ap (λ (b : Bool). not (ltb site_most n) && not (ltb tail_most t) && b) (not_above k 65535 (ltb 65535 k) refl)
      ∙ none_above (ltb site_most n) (ltb tail_most t) (ltb 65535 k)

  pub going_large : (ltb site_most n || ltb tail_most t || ltb 65535 k) ≡ true → false ≡ going s
  unfolding going
  going_large h =
      sym
      (ap
      (λ (b : Bool).
      b && site_fits (reach_of (length (site_part s)) start (site_part s) 0) (stage_in s) (steps_kept s) && mark_fits s && (stands_fit s && rest_clear s (units_kept s) (roofs_kept s)))
      (small_is ∙ ap not h))

  pub is_small : (ltb site_most n || ltb tail_most t || ltb 65535 k) ≡ false → small s ≡ true
  is_small h = small_is ∙ ap not h

pub sized_by_lem : (s : List ℕ) → length s ≡ state_size → small s ≡ true → Sized s
sized_by_lem s l h =
    let both = (and_parts (leb (site_bytes s) site_most && leb (tail_bytes s) tail_most) (leb (steps_kept s) 65535) h).0 in
    let parts = and_parts (leb (site_bytes s) site_most) (leb (tail_bytes s) tail_most) both in
    record { long = l; site_fits_is = leb-true (site_bytes s) site_most parts.0; tail_fits_is = leb-true (tail_bytes s) tail_most parts.1 }

-- the site part by what was read
pub fits_as_read : (s : List ℕ) (r : Reached) (stage steps : ℕ) (b : Bool) → r ≡ reach_of (length (site_part s)) start (site_part s) 0
    → stage ≡ stage_in s → steps ≡ steps_kept s → b ≡ site_fits r stage steps → b ≡ site_fits (reach_of (length (site_part s)) start (site_part s) 0) (stage_in s) (steps_kept s)
fits_as_read s r stage steps b e f g h =
    let far = reach_of (length (site_part s)) start (site_part s) 0 in
    h ∙ ap (λ (x : Reached). site_fits x stage steps) e ∙ ap (λ (x : ℕ). site_fits far x steps) f ∙ ap (site_fits far (stage_in s)) g

pub going_unfit : (s : List ℕ) → small s ≡ true → site_fits (reach_of (length (site_part s)) start (site_part s) 0) (stage_in s) (steps_kept s) ≡ false → false ≡ going s
unfolding going
going_unfit s h e = sym (ap₂ (λ (a b : Bool). a && b && mark_fits s && (stands_fit s && rest_clear s (units_kept s) (roofs_kept s))) h e)

pub going_on : (s : List ℕ) (m l : Bool) → small s ≡ true → site_fits (reach_of (length (site_part s)) start (site_part s) 0) (stage_in s) (steps_kept s) ≡ true → m ≡ mark_fits s
    → l ≡ (stands_fit s && rest_clear s (units_kept s) (roofs_kept s)) → (m && l) ≡ going s
unfolding going
going_on s m l h e f g = ap₂ ◌&&◌ f g ∙ sym (ap₂ (λ (a b : Bool). a && b && mark_fits s && (stands_fit s && rest_clear s (units_kept s) (roofs_kept s))) h e)

-- ---- a state
pub well_not : (s : List ℕ) → (length s ≡ state_size → ⊥) → false ≡ well_formed s
unfolding well_formed
well_not s h = sym (ap (λ (b : Bool). b && cond (eqb (number_in s) 0) (going s) (stopped s)) (ne_eqb (length s) state_size h))

pub well_going : (s : List ℕ) (b : Bool) → length s ≡ state_size → number_in s ≡ 0 → b ≡ going s → b ≡ well_formed s
unfolding well_formed
well_going s b l n e = e ∙ sym (ap₂ (λ (x y : Bool). x && cond y (going s) (stopped s)) (eq-eqb (length s) state_size l) (eq-eqb (number_in s) 0 n))

pub well_stopped : (s : List ℕ) (b : Bool) → length s ≡ state_size → (number_in s ≡ 0 → ⊥) → b ≡ stopped s → b ≡ well_formed s
unfolding well_formed
well_stopped s b l n e = e ∙ sym (ap₂ (λ (x y : Bool). x && cond y (going s) (stopped s)) (eq-eqb (length s) state_size l) (ne_eqb (number_in s) 0 n))
