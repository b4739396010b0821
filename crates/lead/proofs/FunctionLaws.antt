-- What leads a step, by the function that lies in bytes: its curve can be read, and lies within the bounds of its y, -10,000 and 10,000. Assumes nothing.
use mathlib.Core.Path.{◌≡◌, refl, sym, ap, ap₂, ◌∙◌, subst, subst⁻¹}
use mathlib.Core.Bool.{Bool, true, false, not}
use mathlib.Core.List.{List}
use Prim.Native.Nat.{ℕ, ◌+◌, ◌^◌, ◌≤◌, ◌<◌}
use native.Mathlib.Nat.{le_trans, lt_trans, lt_of_le_of_lt}
use native.Mathlib.Omega.{arith}
use lib.Dec.{leb, eqb, lit≤, lit<}
use lib.IntN.{ℤ, pos, nat_abs}
use lib.ListN.{length}
use lib.Signed.{mag}
use mir.Syntax.{w32, w64}
use mir.Val.{SFits, to_z, of_z}
use mir.ValLaws.{to_z_pos}
use borrow.Author.Tests.{not-true, not-false}
use Rattle.whole.proofs.OverLaws.{and_parts}
use Rattle.whole.proofs.SignLaws.{read, made_fits, made_is}
use Rattle.octets.specs.BigEndian.{be}
use Rattle.curve.specs.Curve.{Point, point_of, curve_at}
use Rattle.curve.specs.Ranges.{points_in}
use Rattle.curve.specs.Layout.{count_at, points_at}
use Rattle.curve.specs.Posts.{Usable}
use Rattle.curve.proofs.OrderLaws.{size_up, size_within}
use Rattle.curve.proofs.PointLaws.{points_count, points_point}
use Rattle.curve.proofs.RangeLaws.{points_some, points_bounded, curve_bounded}
use Rattle.lead.specs.Lead.{Function, volt_var_bounds, function_in, lead, lead_of}
use Rattle.lead.specs.Posts.{function_here, leading_here, LeadingThere}
use Rattle.std.proofs.Common.{None, Option, Some}

-- ---- the curve of a function in its ranges has no value above 1 either way
pub curve_small : (f : Function) → function_in f ≡ true → (x : ℤ) → nat_abs (curve_at f.curve x) ≤ 10000
unfolding function_in
curve_small f t x =
    let b = curve_bounded volt_var_bounds f.curve (and_parts (leb f.base 1) (points_in volt_var_bounds f.curve) t).1 x in
    size_within 9999 (curve_at f.curve x) b.0 b.1

-- ---- the curve of a function that is there
module _ (bytes : List ℕ) (at : ℕ) (h : LeadingThere bytes true at) where
  abbrev points : List Point
  points = points_at bytes (at + 7)

  passed : points_in volt_var_bounds points ≡ true
  unfolding function_in function_here
  passed = (and_parts (leb (be 1 bytes (at + 3)) 1) (points_in volt_var_bounds points) (h.in_range refl)).1

  pub value_small : (x : ℤ) → nat_abs (curve_at points x) ≤ 10000
  unfolding function_here
  value_small x = curve_small (function_here bytes at) (h.in_range refl) x

  at_point : (i : ℕ) → i < count_at bytes (at + 7) → (nat_abs (point_of points i).x ≤ 20000) × (nat_abs (point_of points i).y ≤ 10000)
  at_point i l =
      let e : length points ≡ count_at bytes (at + 7) = points_count bytes (at + 7) in
      let b = points_bounded volt_var_bounds points passed i (omega arith) in
      (size_up 20000 (point_of points i).x b.0.0 b.0.1, size_within 9999 (point_of points i).y b.1.0 b.1.1)

  pub curve_usable : Usable bytes (at + 7)
  curve_usable =
      let e : length points ≡ count_at bytes (at + 7) = points_count bytes (at + 7) in
      let s : (2 ≤ length points) × (length points ≤ 16) = points_some volt_var_bounds points passed in
      record {
        there = h.within refl;
        some = omega arith;
        few = omega arith;
        x_small = λ i l. le_trans (subst (λ (p : Point). nat_abs p.x ≤ 20000) (points_point bytes (at + 7) i l) (at_point i l).0) (lit≤ tt);
        y_small = λ i l. le_trans (subst (λ (p : Point). nat_abs p.y ≤ 10000) (points_point bytes (at + 7) i l) (at_point i l).1) (lit≤ tt);
      }

  -- its value as the code has it, in 64 bits and then in 32
  module _ (x : ℕ) (hx : x < 2 ^ 16) (r : ℤ) (ok : mag r < 2 ^ 63) (e : r ≡ curve_at points (to_z w64 x)) where
    value_wide : to_z w64 (of_z w64 r) ≡ curve_at points (pos x)
    value_wide = read w64 r ok ∙ e ∙ ap (curve_at points) (to_z_pos w64 x (lt_trans hx (lit< tt)))

    value_room : nat_abs (curve_at points (pos x)) < 2 ^ 31
    value_room = lt_of_le_of_lt (value_small (pos x)) (lit< tt)

    pub value_fits : SFits w32 (to_z w64 (of_z w64 r))
    value_fits = made_fits w32 (curve_at points (pos x)) (to_z w64 (of_z w64 r)) value_wide value_room

    pub value_is : to_z w32 (of_z w32 (to_z w64 (of_z w64 r))) ≡ curve_at points (pos x)
    value_is = made_is w32 (curve_at points (pos x)) (to_z w64 (of_z w64 r)) value_wide value_room

    pub value_most : nat_abs (to_z w32 (of_z w32 (to_z w64 (of_z w64 r)))) ≤ 10000
    value_most = subst⁻¹ (λ (z : ℤ). nat_abs z ≤ 10000) value_is (value_small (pos x))

-- ---- what leads a step, by the tests that the code makes
module _ (bytes : List ℕ) (there : Bool) (at : ℕ) (v : Option ℕ) where
  pub unled_is : not there ≡ true → lead false false false (pos 0) ≡ lead_of (leading_here bytes there at) v
  unfolding lead_of
  unled_is t = sym (ap (λ (d : Bool). lead_of (leading_here bytes d at) v) (not-true there t))

  module _ (t : not there ≡ false) where
    pub there_is : LeadingThere bytes there at → LeadingThere bytes true at
    there_is h = subst (λ (d : Bool). LeadingThere bytes d at) (not-false there t) h

    -- the base as it was read
    module _ (b : ℕ) (e : b ≡ be 1 bytes (at + 3)) where
      pub unsaid_is : v ≡ None → lead true (eqb b 1) false (pos 0) ≡ lead_of (leading_here bytes there at) v
      unfolding lead_of function_here
      unsaid_is u =
          ap (λ (n : ℕ). lead true (eqb n 1) false (pos 0)) e
          ∙ sym (ap₂ (λ (d : Bool) (w : Option ℕ). lead_of (leading_here bytes d at) w) (not-false there t) u)

      pub said_is : (x : ℕ) → v ≡ Some x → (y : ℤ) → mag y < 2 ^ 31 → y ≡ curve_at (points_at bytes (at + 7)) (pos x)
          → lead true (eqb b 1) true (to_z w32 (of_z w32 y)) ≡ lead_of (leading_here bytes there at) v
      unfolding lead_of function_here
      said_is x u y h ey =
          ap₂ (λ (n : ℕ) (z : ℤ). lead true (eqb n 1) true z) e (read w32 y h ∙ ey)
          ∙ sym (ap₂ (λ (d : Bool) (w : Option ℕ). lead_of (leading_here bytes d at) w) (not-false there t) u)
