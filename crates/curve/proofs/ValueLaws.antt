-- The value of a curve by the first point that is right of x: its own y where that is the first of all, the last y where there is none, and else
-- the line from the point before it. Assumes nothing.
use mathlib.Core.Path.{◌≡◌, refl, sym, ap, ap₂, ◌∙◌, subst, subst⁻¹}
use mathlib.Core.Bool.{Bool, true, false, cond}
use mathlib.Core.List.{List, [], ◌∷◌}
use Prim.Native.Nat.{ℕ, zero, suc, ◌-◌, ◌^◌, ◌≤◌, ◌<◌, zero-le, suc-le-suc}
use native.Mathlib.Nat.{not-suc-le-zero, le_of_suc-le-suc}
use native.Mathlib.Omega.{arith}
use lib.IntN.{ℤ}
use lib.ListN.{length}
use lib.Signed.{mag, lt_z}
use mir.Syntax.{w32, w64}
use Rattle.whole.proofs.SignLaws.{read, wide_is}
use Rattle.curve.specs.Curve.{Point, point, point_of, line_at, curve_from, curve_at}
use Rattle.curve.specs.Layout.{count_at, x_at, y_at, points_at}
use Rattle.curve.specs.Posts.{Usable}
use Rattle.curve.proofs.LineFits.{back32, back64, wide, Small, AllSmall, small_between}
use Rattle.curve.proofs.PointLaws.{point_at, points_count, points_point}

module _ (x : ℤ) where
  -- the first n points are not right of x
  abbrev pub Passed : List Point → ℕ → Type 0
  Passed points n = (k : ℕ) → k < n → lt_z x (point_of points k).x ≡ false

  from_last : (p : Point) (more : List Point) → Passed more (length more) → curve_from p more x ≡ (point_of (p ∷ more) (length more)).y
  unfolding curve_from
  from_last p [] h = refl
  from_last p (q ∷ more) h =
      ap (λ (t : Bool). cond t (line_at p q x) (curve_from q more x)) (h 0 (suc-le-suc zero-le))
      ∙ from_last q more (λ k l. h (suc k) (suc-le-suc l))

  from_between : (p : Point) (more : List Point) (i : ℕ) → i < length more → Passed more i → lt_z x (point_of more i).x ≡ true
      → curve_from p more x ≡ line_at (point_of (p ∷ more) i) (point_of more i) x
  unfolding curve_from
  from_between p [] i l h t = absurd (not-suc-le-zero l)
  from_between p (q ∷ more) zero l h t = ap (λ (t : Bool). cond t (line_at p q x) (curve_from q more x)) t
  from_between p (q ∷ more) (suc i) l h t =
      ap (λ (t : Bool). cond t (line_at p q x) (curve_from q more x)) (h 0 (suc-le-suc zero-le))
      ∙ from_between q more i (le_of_suc-le-suc l) (λ k l. h (suc k) (suc-le-suc l)) t

  -- left of all points
  pub curve_before : (points : List Point) → 0 < length points → lt_z x (point_of points 0).x ≡ true → curve_at points x ≡ (point_of points 0).y
  unfolding curve_at
  curve_before [] l t = absurd (not-suc-le-zero l)
  curve_before (p ∷ more) l t = ap (λ (t : Bool). cond t p.y (curve_from p more x)) t

  -- at the last point or right of it
  pub curve_after : (points : List Point) (i : ℕ) → length points ≡ suc i → Passed points (length points) → curve_at points x ≡ (point_of points i).y
  unfolding curve_at
  curve_after [] i e h = let z : ◌≡◌ {A = ℕ} 0 (suc i) = e in absurd (omega arith)
  curve_after (p ∷ more) i e h =
      let f : length more ≡ i = omega arith in
      ap (λ (t : Bool). cond t p.y (curve_from p more x)) (h 0 (suc-le-suc zero-le))
      ∙ from_last p more (λ k l. h (suc k) (suc-le-suc l))
      ∙ ap (λ (k : ℕ). (point_of (p ∷ more) k).y) f

  -- between two points
  pub curve_between : (points : List Point) (i : ℕ) → suc i < length points → Passed points (suc i) → lt_z x (point_of points (suc i)).x ≡ true
      → curve_at points x ≡ line_at (point_of points i) (point_of points (suc i)) x
  unfolding curve_at
  curve_between [] i l h t = absurd (not-suc-le-zero l)
  curve_between (p ∷ more) i l h t =
      ap (λ (t : Bool). cond t p.y (curve_from p more x)) (h 0 (suc-le-suc zero-le))
      ∙ from_between p more i (le_of_suc-le-suc l) (λ k l. h (suc k) (suc-le-suc l)) t

-- ---- the same of a curve that lies in bytes

-- the code's test of a point's x
pub test_read : (x r z : ℤ) → mag x < 2 ^ 63 → mag r < 2 ^ 31 → r ≡ z → lt_z (back64 x) (wide r) ≡ lt_z x z
test_read x r z hx hr e = ap₂ lt_z (read w64 x hx) (wide_is r hr ∙ e)

module _ (bytes : List ℕ) (place : ℕ) (x : ℤ) where
  abbrev pub NotRight : ℕ → Type 0
  NotRight n = (k : ℕ) → k < n → lt_z x (x_at bytes place k) ≡ false

  abbrev points : List Point
  points = points_at bytes place

  test_is : (i : ℕ) → i < count_at bytes place → lt_z x (point_of points i).x ≡ lt_z x (x_at bytes place i)
  test_is i l = ap (λ (p : Point). lt_z x p.x) (points_point bytes place i l)

  passed : (n : ℕ) → n ≤ count_at bytes place → NotRight n → Passed x points n
  passed n l h k m = test_is k (omega arith) ∙ h k m

  pub value_before : 1 ≤ count_at bytes place → lt_z x (x_at bytes place 0) ≡ true → y_at bytes place 0 ≡ curve_at points x
  value_before l t =
      let c : length points ≡ count_at bytes place = points_count bytes place in
      sym (curve_before x points (omega arith) (test_is 0 l ∙ t) ∙ ap (λ (p : Point). p.y) (points_point bytes place 0 l))

  pub value_after : (i : ℕ) → (i ≡ 0 → ⊥) → i ≡ count_at bytes place → NotRight i → y_at bytes place (i - 1) ≡ curve_at points x
  value_after i p e h =
      let c : length points ≡ count_at bytes place = points_count bytes place in
      let f : length points ≡ suc (i - 1) = omega arith in
      let l : i - 1 < count_at bytes place = omega arith in
      sym (curve_after x points (i - 1) f (passed (length points) (omega arith) (λ k m. h k (omega arith)))
      ∙ ap (λ (p : Point). p.y) (points_point bytes place (i - 1) l))

  pub value_between : (i : ℕ) → (i ≡ 0 → ⊥) → i < count_at bytes place → NotRight i → lt_z x (x_at bytes place i) ≡ true
      → line_at (point_at bytes place (i - 1)) (point_at bytes place i) x ≡ curve_at points x
  value_between i p l h t =
      let c : length points ≡ count_at bytes place = points_count bytes place in
      let e : suc (i - 1) ≡ i = omega arith in
      let m : i - 1 < count_at bytes place = omega arith in
      sym (curve_between x points (i - 1) (omega arith) (passed (suc (i - 1)) (omega arith) (λ k n. h k (omega arith)))
      (ap (λ (j : ℕ). lt_z x (point_of points j).x) e ∙ test_is i l ∙ t)
      ∙ ap₂ (λ (p q : Point). line_at p q x) (points_point bytes place (i - 1) m) (ap (point_of points) e ∙ points_point bytes place i l))

-- ---- the code's way to the value

-- of n points, point i is the first right of x
pub record Found (bytes : List ℕ) (place : ℕ) (x : ℤ) (n i : ℕ) : Type 0 where
  pub usable : Usable bytes place
  pub fits : mag x < 2 ^ 63
  pub count : n ≡ count_at bytes place
  pub within : i ≤ n
  pub before : (k : ℕ) → k < i → lt_z (back64 x) (x_at bytes place k) ≡ false
  pub found : i < n → lt_z (back64 x) (x_at bytes place i) ≡ true

module _ {bytes : List ℕ} {place : ℕ} {x : ℤ} {n i : ℕ} (f : Found bytes place x n i) where
  same : (k : ℕ) → lt_z x (x_at bytes place k) ≡ lt_z (back64 x) (x_at bytes place k)
  same k = ap (λ (z : ℤ). lt_z z (x_at bytes place k)) (sym (read w64 x f.fits))

  not_right : NotRight bytes place x i
  not_right k l = same k ∙ f.before k l

  right : i < n → lt_z x (x_at bytes place i) ≡ true
  right l = same i ∙ f.found l

  -- it is the first of all
  pub first_y : i ≡ 0 → (r : ℤ) → mag r < 2 ^ 31 → r ≡ y_at bytes place 0 → wide r ≡ curve_at (points_at bytes place) x
  first_y z r h e =
      let s : 1 ≤ count_at bytes place = f.usable.some in
      wide_is r h ∙ e
      ∙ value_before bytes place x s (subst (λ (k : ℕ). lt_z x (x_at bytes place k) ≡ true) z (right (omega arith)))

  -- there is none
  pub last_y : (i ≡ 0 → ⊥) → i ≡ n → (r : ℤ) → mag r < 2 ^ 31 → r ≡ y_at bytes place (i - 1) → wide r ≡ curve_at (points_at bytes place) x
  last_y p e r h er = wide_is r h ∙ er ∙ value_after bytes place x i p (e ∙ f.count) not_right

  -- there is one before it: the two points as they were read
  module _ (p : i ≡ 0 → ⊥) (q : i ≡ n → ⊥) (px py qx qy : ℤ) (hpx : mag px < 2 ^ 31) (hpy : mag py < 2 ^ 31) (hqx : mag qx < 2 ^ 31) (hqy : mag qy < 2 ^ 31)
      (epx : px ≡ x_at bytes place (i - 1)) (epy : py ≡ y_at bytes place (i - 1)) (eqx : qx ≡ x_at bytes place i) (eqy : qy ≡ y_at bytes place i) where
    here : i < count_at bytes place
    here = omega arith

    there : i - 1 < count_at bytes place
    there = omega arith

    -- x lies between them
    x_between : Small x
    x_between =
        small_between (x_at bytes place (i - 1)) x (x_at bytes place i) (f.usable.x_small (i - 1) there) (f.usable.x_small i here)
        (not_right (i - 1) (omega arith)) (right (omega arith))

    pub all_small : AllSmall (back32 px) (back32 py) (back32 qx) (back32 qy) (back64 x)
    all_small = (
      subst⁻¹ Small (read w32 px hpx ∙ epx) (f.usable.x_small (i - 1) there),
      (
        subst⁻¹ Small (read w32 py hpy ∙ epy) (f.usable.y_small (i - 1) there),
        (
          subst⁻¹ Small (read w32 qx hqx ∙ eqx) (f.usable.x_small i here),
          (subst⁻¹ Small (read w32 qy hqy ∙ eqy) (f.usable.y_small i here), subst⁻¹ Small (read w64 x f.fits) x_between),
        ),
      ),
    )

    pub line_value : (r : ℤ) → mag r < 2 ^ 63 → r ≡ line_at (point (back32 px) (back32 py)) (point (back32 qx) (back32 qy)) (back64 x)
        → back64 r ≡ curve_at (points_at bytes place) x
    line_value r hr er =
        read w64 r hr ∙ er
        ∙ ap₂ (λ (a b : Point). line_at a b (back64 x))
        (ap₂ point (read w32 px hpx ∙ epx) (read w32 py hpy ∙ epy))
        (ap₂ point (read w32 qx hqx ∙ eqx) (read w32 qy hqy ∙ eqy))
        ∙ ap (line_at (point_at bytes place (i - 1)) (point_at bytes place i)) (read w64 x f.fits)
        ∙ value_between bytes place x i p here not_right (right (omega arith))
