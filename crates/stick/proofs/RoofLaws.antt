-- What an accepted walk says of the inverters behind the settings: each stands with its two curves, all in their ranges, and the walk goes on behind them.
-- Assumes nothing.
use mathlib.Core.Path.{◌≡◌, refl, sym, ap, ap₂, ◌∙◌, subst, subst⁻¹}
use mathlib.Core.Bool.{Bool, true, false, not, cond}
use mathlib.Core.List.{List, ◌∷◌}
use Prim.Native.Nat.{ℕ, zero, suc, ◌+◌, ◌-◌, ◌*◌, ◌≤◌, ◌<◌}
use native.Mathlib.Omega.{arith}
use lib.Dec.{eqb}
use lib.ListN.{length}
use borrow.Author.Tests.{leb-true, eqb-true, eqb-false, eq-eqb, ne_eqb}
use Rattle.whole.proofs.OverLaws.{and_parts}
use Rattle.curve.specs.Layout.{curve_in}
use Rattle.solar.specs.Roof.{inverter_in, warm_bounds, efficiency_bounds}
use Rattle.site.specs.Site.{none_yet}
use Rattle.parts.specs.Header.{header, tag_at, past}
use Rattle.fields.specs.declared.State.{State}
use Rattle.fields.specs.Fields.{Flags, at_inverters, at_temperature, at_efficiency, only, another, kinds, size_in, size_of, head_of, stands_in, allowed, inverter_at, five_unless, value_of, too_many, refused_by, state_of, roof_after, state_after, taken_by}
use Rattle.stick.specs.Check.{field_at}
use Rattle.stick.specs.Site.{having, steps_in}
use Rattle.stick.specs.Posts.{roof_bytes}
use Rattle.fields.proofs.FieldLaws.{warm_alone, efficiency_alone}
use Rattle.stick.proofs.WalkLaws.{whole, OnTheWay, way_alike}
use Rattle.stick.proofs.PlaceLaws.{from, Passed, picked, left_out, closes_none}
use Rattle.stick.proofs.SaidLaws.{accepted_test, every, bytes_follow, One, one, Waited, waited}

-- ---- a roof that stands at a place: its three fields, and their values in their ranges
pub record RoofThere (file : List ℕ) (at : ℕ) : Type 0 where
  pub inverter_field_is : Passed file 6 at (at + 22)
  pub warm_field : Passed file 7 (at + 22) (at + 154)
  pub efficiency_field : Passed file 7 (at + 154) (at + roof_bytes)
  pub first : past file at ≡ at + 22
  pub second : past file (at + 22) ≡ at + 154
  pub third : past file (at + 154) ≡ at + roof_bytes
  pub inverter_in_is : inverter_in (inverter_at file (at + header)) ≡ true
  pub warm_in : curve_in warm_bounds file (at + 25) ≡ true
  pub efficiency_in : curve_in efficiency_bounds file (at + 157) ≡ true
  pub bytes : at + roof_bytes ≤ length file

module _ (file : List ℕ) (ok : (whole file).number ≡ 0) (edition units : ℕ) (known : Flags) where
  record RoofSaid (left at : ℕ) : Type 0 where
    pub there : RoofThere file at
    pub some : 1 ≤ left
    pub rest : OnTheWay file (state_of at_inverters edition units (left - 1) 0 known) (at + roof_bytes)

  six_alone : (left at : ℕ) → tag_at file at ≡ 6 → allowed (state_of at_inverters edition units left 0 known) (tag_at file at) ≡ true → 1 ≤ left
  unfolding allowed kinds stands_in
  six_alone left at e z = leb-true 1 left (sym (ap (λ (t : ℕ). allowed (state_of at_inverters edition units left 0 known) t) e) ∙ z)

  roof_said : (left at : ℕ) → tag_at file at ≡ 6 → OnTheWay file (state_of at_inverters edition units left 0 known) at → RoofSaid left at
  unfolding size_of value_of state_after roof_after
  roof_said left at e w =
      let st : State = state_of at_inverters edition units left 0 known in
      let v : Waited file ok 6 st at (at + 22) = waited file ok 6 st at (at + 22) refl (λ z. e) (omega arith) w in
      let o : One file ok st at = one file ok st at w refl in
      let c : Waited file ok 7 (state_of at_temperature edition units (left - 1) 0 known) (at + 22) (at + 154) =
      waited file ok 7 (state_of at_temperature edition units (left - 1) 0 known) (at + 22) (at + 154) refl (warm_alone edition units (left - 1) 0 known (tag_at file (at + 22))) (omega arith) v.rest in
      let d : Waited file ok 7 (state_of at_efficiency edition units (left - 1) 0 known) (at + 154) (at + roof_bytes) =
      waited file ok 7 (state_of at_efficiency edition units (left - 1) 0 known) (at + 154) (at + roof_bytes) refl (efficiency_alone edition units (left - 1) 0 known (tag_at file (at + 154))) (omega arith) c.rest in
      let p₁ : at + 22 + 3 ≡ at + 25 = omega arith in
      let p₂ : at + 154 + 3 ≡ at + 157 = omega arith in
      record {
        there = record {
          inverter_field_is = v.passed;
          warm_field = c.passed;
          efficiency_field = d.passed;
          first = v.behind;
          second = c.behind;
          third = d.behind;
          inverter_in_is = accepted_test (inverter_in (inverter_at file (at + header))) v.value;
          warm_in = subst (λ (p : ℕ). curve_in warm_bounds file p ≡ true) p₁ (accepted_test (curve_in warm_bounds file (at + 22 + header)) c.value);
          efficiency_in = subst (λ (p : ℕ). curve_in efficiency_bounds file p ≡ true) p₂ (accepted_test (curve_in efficiency_bounds file (at + 154 + header)) d.value);
          bytes = d.rest.upto;
        };
        some = six_alone left at e o.allows;
        rest = d.rest;
      }

  -- ---- so many of them from a place on, and then no other
  pub record RoofsSaid (left at many next : ℕ) : Type 0 where
    pub few : many ≤ left
    pub there : (i : ℕ) → i < many → RoofThere file (at + roof_bytes * i)
    pub picked_all : having 6 file (from file at) ≡ every roof_bytes many at (having 6 file (from file next))
    pub no_others : (t : ℕ) → (6 ≡ t → ⊥) → (7 ≡ t → ⊥) → having t file (from file at) ≡ having t file (from file next)
    pub no_steps_is : steps_in file none_yet (from file at) ≡ steps_in file none_yet (from file next)
    pub other : tag_at file next ≡ 6 → ⊥
    pub bytes : next < length file
    pub remaining : ℕ
    pub rest : OnTheWay file (state_of at_inverters edition units remaining 0 known) next

  none_said : (left at : ℕ) → (tag_at file at ≡ 6 → ⊥) → OnTheWay file (state_of at_inverters edition units left 0 known) at → RoofsSaid left at 0 at
  none_said left at n w = record {
    few = omega arith;
    there = λ i l. absurd (omega arith);
    picked_all = refl;
    no_others = λ t a b. refl;
    no_steps_is = refl;
    other = n;
    bytes = bytes_follow file ok (state_of at_inverters edition units left 0 known) at w refl;
    remaining = left;
    rest = w;
  }

  more_said : (left at many next : ℕ) → RoofSaid left at → RoofsSaid (left - 1) (at + roof_bytes) many next → RoofsSaid left at (suc many) next
  more_said left at many next r s =
      let t : RoofThere file at = r.there in
      record {
        few = omega (arith, r.some, s.few);
        there = each;
        picked_all =
            picked file t.inverter_field_is
            ∙ ap (λ (ats : List ℕ). at ∷ ats)
            (left_out file t.warm_field 6 (λ e. omega arith) ∙ left_out file t.efficiency_field 6 (λ e. omega arith) ∙ s.picked_all);
        no_others = λ u a b. left_out file t.inverter_field_is u a ∙ left_out file t.warm_field u b ∙ left_out file t.efficiency_field u b ∙ s.no_others u a b;
        no_steps_is =
            closes_none file t.inverter_field_is none_yet refl refl refl
            ∙ closes_none file t.warm_field none_yet refl refl refl
            ∙ closes_none file t.efficiency_field none_yet refl refl refl
            ∙ s.no_steps_is;
        other = s.other;
        bytes = s.bytes;
        remaining = s.remaining;
        rest = s.rest;
      }
    where
      each : (i : ℕ) → i < suc many → RoofThere file (at + roof_bytes * i)
      each zero l = let e : at + roof_bytes * 0 ≡ at = omega arith in subst⁻¹ (RoofThere file) e r.there
      each (suc i) l =
          let e : at + roof_bytes * suc i ≡ at + roof_bytes + roof_bytes * i = omega arith in
          subst⁻¹ (RoofThere file) e (s.there i (omega arith))

  -- all of them
  pub record Roofs (left at : ℕ) : Type 0 where
    pub many : ℕ
    pub next : ℕ
    pub is : at + roof_bytes * many ≡ next
    pub said : RoofsSaid left at many next

  pub roofs_said : (k left at : ℕ) → length file ≤ at + k → OnTheWay file (state_of at_inverters edition units left 0 known) at → Roofs left at
  roofs_said zero left at h w = let l = bytes_follow file ok (state_of at_inverters edition units left 0 known) at w refl in absurd (omega arith)
  roofs_said (suc k) left at h w = go (eqb (tag_at file at) 6) refl (λ on. roofs_said k (left - 1) (at + roof_bytes) (omega arith) on)
    where
      go : (b : Bool) → eqb (tag_at file at) 6 ≡ b
          → (OnTheWay file (state_of at_inverters edition units (left - 1) 0 known) (at + roof_bytes) → Roofs (left - 1) (at + roof_bytes)) → Roofs left at
      go true e more =
          let r : RoofSaid left at = roof_said left at (eqb-true (tag_at file at) 6 e) w in
          let m : Roofs (left - 1) (at + roof_bytes) = more r.rest in
          record { many = suc m.many; next = m.next; is = omega (arith, m.is); said = more_said left at m.many m.next r m.said }
      go false e more = record { many = 0; next = at; is = omega arith; said = none_said left at (eqb-false (tag_at file at) 6 e) w }
