-- The law of every curve whose points rise. From a point that is not right of x, x is either left of the next point, where the line's laws hold,
-- or the next point is not right of x either, and the rest of the points has the law. Assumes nothing.
use mathlib.Core.Path.{◌≡◌, refl, sym, ap, ◌∙◌, subst⁻¹}
use mathlib.Core.Bool.{Bool, cond}
use mathlib.Core.List.{List, [], ◌∷◌}
use mathlib.Core.Logic.{◌⊎◌, inl, inr}
use Prim.Native.Nat.{ℕ, zero, suc, ◌≤◌, ◌<◌, zero-le, suc-le-suc}
use native.Mathlib.Nat.{not-suc-le-zero, le_of_suc-le-suc}
use native.Mathlib.Omega.{arith}
use lib.IntN.{ℤ}
use lib.ListN.{length}
use lib.Signed.{◌≤ℤ◌, ◌<ℤ◌, ≤ℤ_refl}
use Rattle.curve.specs.Curve.{Point, point_of, line_at, curve_from, curve_at}
use Rattle.curve.specs.Laws.{Rising, CurveTheorem}
use Rattle.curve.proofs.OrderLaws.{lt_true, le_false, lt_or_le, lt_le, le_le, le_same}
use Rattle.curve.proofs.LineLaws.{line_left, line_between, line_mono}

-- ---- which part of a curve has its value

pub from_line : (p q : Point) (more : List Point) (x : ℤ) → x <ℤ q.x → curve_from p (q ∷ more) x ≡ line_at p q x
unfolding curve_from
from_line p q more x h = ap (λ (t : Bool). cond t (line_at p q x) (curve_from q more x)) (lt_true x q.x h)

pub from_next : (p q : Point) (more : List Point) (x : ℤ) → q.x ≤ℤ x → curve_from p (q ∷ more) x ≡ curve_from q more x
unfolding curve_from
from_next p q more x h = ap (λ (t : Bool). cond t (line_at p q x) (curve_from q more x)) (le_false x q.x h)

pub at_left : (p : Point) (more : List Point) (x : ℤ) → x <ℤ p.x → curve_at (p ∷ more) x ≡ p.y
unfolding curve_at
at_left p more x h = ap (λ (t : Bool). cond t p.y (curve_from p more x)) (lt_true x p.x h)

pub at_from : (p : Point) (more : List Point) (x : ℤ) → p.x ≤ℤ x → curve_at (p ∷ more) x ≡ curve_from p more x
unfolding curve_at
at_from p more x h = ap (λ (t : Bool). cond t p.y (curve_from p more x)) (le_false x p.x h)

-- ---- rising points

rest_rises : (p : Point) (more : List Point) → Rising (p ∷ more) → Rising more
rest_rises p more r i h = r (suc i) (suc-le-suc h)

next_right : (p q : Point) (more : List Point) → Rising (p ∷ q ∷ more) → p.x <ℤ q.x
next_right p q more r = r 0 (suc-le-suc (suc-le-suc zero-le))

-- the first is the leftmost
first_least : (p : Point) (more : List Point) → Rising (p ∷ more) → (i : ℕ) → i < length (p ∷ more) → p.x ≤ℤ (point_of (p ∷ more) i).x
first_least p more r zero h = ≤ℤ_refl p.x
first_least p [] r (suc i) h = absurd (not-suc-le-zero (le_of_suc-le-suc h))
first_least p (q ∷ more) r (suc i) h =
    le_le p.x q.x (point_of (q ∷ more) i).x (lt_le p.x q.x (next_right p q more r))
    (first_least q more (rest_rises p (q ∷ more) r) i (le_of_suc-le-suc h))

-- ---- at a point its own y

from_own : (p : Point) (more : List Point) → Rising (p ∷ more) → (i : ℕ) → i < length (p ∷ more)
    → curve_from p more (point_of (p ∷ more) i).x ≡ (point_of (p ∷ more) i).y
unfolding curve_from
from_own p [] r zero h = refl
from_own p [] r (suc i) h = absurd (not-suc-le-zero (le_of_suc-le-suc h))
from_own p (q ∷ more) r zero h = from_line p q more p.x (next_right p q more r) ∙ line_left p q
from_own p (q ∷ more) r (suc i) h =
    from_next p q more (point_of (q ∷ more) i).x (first_least q more (rest_rises p (q ∷ more) r) i (le_of_suc-le-suc h))
    ∙ from_own q more (rest_rises p (q ∷ more) r) i (le_of_suc-le-suc h)

from_first : (p : Point) (more : List Point) → Rising (p ∷ more) → curve_from p more p.x ≡ p.y
from_first p more r = from_own p more r 0 (suc-le-suc zero-le)

own : (points : List Point) → Rising points → (i : ℕ) → i < length points → curve_at points (point_of points i).x ≡ (point_of points i).y
own [] r i h = absurd (not-suc-le-zero h)
own (p ∷ more) r i h = at_from p more (point_of (p ∷ more) i).x (first_least p more r i h) ∙ from_own p more r i h

-- ---- between two points

-- within bounds
abbrev In : ℤ → ℤ → ℤ → Type 0
In low high z = (low ≤ℤ z) × (z ≤ℤ high)

module _ (low high : ℤ) where
  from_between : (p : Point) (more : List Point) → Rising (p ∷ more) → (i : ℕ) → suc i < length (p ∷ more) → (x : ℤ)
      → (point_of (p ∷ more) i).x ≤ℤ x → x ≤ℤ (point_of (p ∷ more) (suc i)).x
      → low ≤ℤ (point_of (p ∷ more) i).y → low ≤ℤ (point_of (p ∷ more) (suc i)).y → (point_of (p ∷ more) i).y ≤ℤ high → (point_of (p ∷ more) (suc i)).y ≤ℤ high
      → In low high (curve_from p more x)
  from_between p [] r i h x px xq lp lq ph qh = absurd (not-suc-le-zero (le_of_suc-le-suc h))
  from_between p (q ∷ more) r zero h x px xq lp lq ph qh = go (lt_or_le x q.x)
    where
      go : (x <ℤ q.x) ⊎ (q.x ≤ℤ x) → In low high (curve_from p (q ∷ more) x)
      go (inl l) = subst⁻¹ (In low high) (from_line p q more x l) (line_between p q x px l low high lp lq ph qh)
      go (inr l) =
          subst⁻¹ (In low high)
          (from_next p q more x l ∙ ap (curve_from q more) (le_same x q.x xq l) ∙ from_first q more (rest_rises p (q ∷ more) r))
          (lq, qh)
  from_between p (q ∷ more) r (suc i) h x px xq lp lq ph qh =
      let below : i < length (q ∷ more) = omega arith in
      subst⁻¹ (In low high)
      (from_next p q more x (le_le q.x (point_of (q ∷ more) i).x x (first_least q more (rest_rises p (q ∷ more) r) i below) px))
      (from_between q more (rest_rises p (q ∷ more) r) i (le_of_suc-le-suc h) x px xq lp lq ph qh)

  at_between : (points : List Point) → Rising points → (i : ℕ) → suc i < length points → (x : ℤ)
      → (point_of points i).x ≤ℤ x → x ≤ℤ (point_of points (suc i)).x
      → low ≤ℤ (point_of points i).y → low ≤ℤ (point_of points (suc i)).y → (point_of points i).y ≤ℤ high → (point_of points (suc i)).y ≤ℤ high
      → In low high (curve_at points x)
  at_between [] r i h x px xq lp lq ph qh = absurd (not-suc-le-zero h)
  at_between (p ∷ more) r i h x px xq lp lq ph qh =
      let below : i < length (p ∷ more) = omega arith in
      subst⁻¹ (In low high)
      (at_from p more x (le_le p.x (point_of (p ∷ more) i).x x (first_least p more r i below) px))
      (from_between p more r i h x px xq lp lq ph qh)

  -- ---- within the bounds of all y

  from_within : (p : Point) (more : List Point) → Rising (p ∷ more)
      → ((i : ℕ) → i < length (p ∷ more) → In low high (point_of (p ∷ more) i).y) → (x : ℤ) → p.x ≤ℤ x
      → In low high (curve_from p more x)
  unfolding curve_from
  from_within p [] r each x h = each 0 (suc-le-suc zero-le)
  from_within p (q ∷ more) r each x h =
      go (lt_or_le x q.x) (from_within q more (rest_rises p (q ∷ more) r) (λ i l. each (suc i) (suc-le-suc l)) x)
    where
      first : In low high p.y
      first = each 0 (suc-le-suc zero-le)

      second : In low high q.y
      second = each 1 (suc-le-suc (suc-le-suc zero-le))

      go : (x <ℤ q.x) ⊎ (q.x ≤ℤ x) → (q.x ≤ℤ x → In low high (curve_from q more x)) → In low high (curve_from p (q ∷ more) x)
      go (inl l) rest =
          subst⁻¹ (In low high) (from_line p q more x l) (line_between p q x h l low high first.0 second.0 first.1 second.1)
      go (inr l) rest = subst⁻¹ (In low high) (from_next p q more x l) (rest l)

  at_within : (points : List Point) → Rising points → 1 ≤ length points
      → ((i : ℕ) → i < length points → In low high (point_of points i).y) → (x : ℤ) → In low high (curve_at points x)
  at_within [] r some each x = absurd (not-suc-le-zero some)
  at_within (p ∷ more) r some each x = go (lt_or_le x p.x)
    where
      go : (x <ℤ p.x) ⊎ (p.x ≤ℤ x) → In low high (curve_at (p ∷ more) x)
      go (inl l) = subst⁻¹ (In low high) (at_left p more x l) (each 0 (suc-le-suc zero-le))
      go (inr l) = subst⁻¹ (In low high) (at_from p more x l) (from_within p more r each x l)

-- ---- a curve whose y never fall

abbrev Up : List Point → Type 0
Up points = (i : ℕ) → suc i < length points → (point_of points i).y ≤ℤ (point_of points (suc i)).y

-- from two equations to an order
by_both : {a b c d : ℤ} → a ≡ b → c ≡ d → b ≤ℤ d → a ≤ℤ c
by_both {a} {b} {c} {d} e f h = subst⁻¹ (λ (z : ℤ). z ≤ℤ c) e (subst⁻¹ (λ (z : ℤ). b ≤ℤ z) f h)

from_mono : (p : Point) (more : List Point) → Rising (p ∷ more) → Up (p ∷ more) → (x z : ℤ) → p.x ≤ℤ x → x ≤ℤ z
    → curve_from p more x ≤ℤ curve_from p more z
unfolding curve_from
from_mono p [] r up x z px xz = ≤ℤ_refl p.y
from_mono p (q ∷ more) r up x z px xz =
    go (lt_or_le x q.x) (lt_or_le z q.x) (from_mono q more (rest_rises p (q ∷ more) r) (λ i l. up (suc i) (suc-le-suc l)))
  where
    higher : p.y ≤ℤ q.y
    higher = up 0 (suc-le-suc (suc-le-suc zero-le))

    go : (x <ℤ q.x) ⊎ (q.x ≤ℤ x) → (z <ℤ q.x) ⊎ (q.x ≤ℤ z)
        → ((x z : ℤ) → q.x ≤ℤ x → x ≤ℤ z → curve_from q more x ≤ℤ curve_from q more z)
        → curve_from p (q ∷ more) x ≤ℤ curve_from p (q ∷ more) z
    go (inl l) (inl k) rest = by_both (from_line p q more x l) (from_line p q more z k) (line_mono p q higher x z px xz k)
    go (inl l) (inr k) rest =
        by_both (from_line p q more x l) (from_next p q more z k)
        (le_le (line_at p q x) q.y (curve_from q more z)
        (line_between p q x px l p.y q.y (≤ℤ_refl p.y) higher higher (≤ℤ_refl q.y)).1
        (by_both (sym (from_first q more (rest_rises p (q ∷ more) r))) refl (rest q.x z (≤ℤ_refl q.x) k)))
    go (inr l) k rest =
        by_both (from_next p q more x l) (from_next p q more z (le_le q.x x z l xz)) (rest x z l xz)

at_mono : (points : List Point) → Rising points → Up points → (x z : ℤ) → x ≤ℤ z → curve_at points x ≤ℤ curve_at points z
unfolding curve_at
at_mono [] r up x z xz = ≤ℤ_refl (curve_at [] x)
at_mono (p ∷ more) r up x z xz = go (lt_or_le x p.x) (lt_or_le z p.x)
  where
    go : (x <ℤ p.x) ⊎ (p.x ≤ℤ x) → (z <ℤ p.x) ⊎ (p.x ≤ℤ z) → curve_at (p ∷ more) x ≤ℤ curve_at (p ∷ more) z
    go (inl l) (inl k) = by_both (at_left p more x l) (at_left p more z k) (≤ℤ_refl p.y)
    go (inl l) (inr k) =
        by_both (at_left p more x l ∙ sym (from_first p more r)) (at_from p more z k) (from_mono p more r up p.x z (≤ℤ_refl p.x) k)
    go (inr l) k =
        by_both (at_from p more x l) (at_from p more z (le_le p.x x z l xz)) (from_mono p more r up x z l xz)

-- ---- the law

pub curve_law : CurveTheorem
curve_law points r =
    record {
      own_y = own points r;
      between = λ i h x px xq low high. at_between low high points r i h x px xq;
      never_falls = at_mono points r;
      within = λ some low high each x. at_within low high points r some each x;
    }
