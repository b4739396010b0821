-- What an accepted walk says behind the inverters: a function stands there with its curve, both in their ranges, and behind them a step is waited for, whose
-- voltage may come; or another field stands there, which is taken as at the stage of the steps. Assumes nothing.
use mathlib.Core.Path.{◌≡◌, refl, sym, ap, ◌∙◌, subst}
use mathlib.Core.Bool.{Bool, true, false, cond}
use mathlib.Core.List.{List, [], ◌∷◌}
use Prim.Native.Nat.{ℕ, ◌+◌, ◌≤◌, ◌<◌}
use native.Mathlib.Omega.{arith}
use lib.Dec.{eqb}
use lib.ListN.{length}
use borrow.Author.Tests.{eqb-true, eqb-false, ne_eqb}
use Rattle.whole.proofs.Choice.{passed_failed}
use Rattle.octets.specs.BigEndian.{be}
use Rattle.curve.specs.Layout.{curve_in}
use Rattle.lead.specs.Lead.{volt_var_bounds}
use Rattle.site.specs.Site.{none_yet}
use Rattle.parts.specs.Header.{header, tag_at, past}
use Rattle.fields.specs.declared.State.{State}
use Rattle.fields.specs.Fields.{Flags, flags, at_steps, at_inverters, at_volt_var, at_led, kinds, size_in, size_of, head_of, stands_in, allowed, base_in, value_of, refused_by, state_of, roof_after, state_after, taken_by}
use Rattle.stick.specs.Check.{field_at}
use Rattle.stick.specs.Site.{having, steps_in}
use Rattle.stick.specs.Posts.{function_bytes}
use Rattle.fields.proofs.FieldLaws.{volt_var_alone}
use Rattle.stick.proofs.WalkLaws.{whole, OnTheWay, way_alike}
use Rattle.stick.proofs.PlaceLaws.{from, Passed, picked, left_out, closes_none}
use Rattle.stick.proofs.SaidLaws.{accepted_test, Waited, waited}
use Rattle.std.proofs.Common.{Err, Result}

-- ---- a stage where a step may begin is that of the steps: where neither inverter nor function stands, and behind the function
module _ (edition units left steps : ℕ) (known : Flags) (file : List ℕ) where
  abbrev pub roofing : State
  roofing = state_of at_inverters edition units left steps known

  abbrev pub stepping : State
  stepping = state_of at_steps edition units left steps known

  abbrev pub leading : State
  leading = state_of at_led edition units left steps known

  -- a curve may stand at none of them
  pub taken_alike : (tag : ℕ) → (tag ≡ 6 → ⊥) → (tag ≡ 11 → ⊥) → (v : ℕ) → taken_by roofing tag file v ≡ taken_by stepping tag file v
  unfolding taken_by refused_by allowed kinds stands_in value_of state_after roof_after
  taken_alike tag n m v = go (eqb tag 7) refl
    where
      go : (b : Bool) → eqb tag 7 ≡ b → taken_by roofing tag file v ≡ taken_by stepping tag file v
      go true e = let seven : tag ≡ 7 = eqb-true tag 7 e in ap (λ (t : ℕ). taken_by roofing t file v) seven ∙ sym (ap (λ (t : ℕ). taken_by stepping t file v) seven)
      go false e = simp (ne_eqb tag 6 n, ne_eqb tag 11 m, e)

  pub led_taken_alike : (tag v : ℕ) → taken_by leading tag file v ≡ taken_by stepping tag file v
  unfolding taken_by refused_by allowed kinds stands_in value_of state_after roof_after
  led_taken_alike tag v = go (eqb tag 7) refl
    where
      go : (b : Bool) → eqb tag 7 ≡ b → taken_by leading tag file v ≡ taken_by stepping tag file v
      go true e = let seven : tag ≡ 7 = eqb-true tag 7 e in ap (λ (t : ℕ). taken_by leading t file v) seven ∙ sym (ap (λ (t : ℕ). taken_by stepping t file v) seven)
      go false e = simp e

  pub field_alike : (at : ℕ) → (tag_at file at ≡ 6 → ⊥) → (tag_at file at ≡ 11 → ⊥) → field_at roofing file at ≡ field_at stepping file at
  unfolding field_at head_of size_of kinds size_in
  field_alike at n m = ap (λ (t : Result State ℕ). cond (eqb (head_of stepping file at) 0) t (Err (head_of stepping file at))) (taken_alike (tag_at file at) n m (at + header))

  pub led_alike : (at : ℕ) → field_at leading file at ≡ field_at stepping file at
  unfolding field_at head_of size_of kinds size_in
  led_alike at = ap (λ (t : Result State ℕ). cond (eqb (head_of stepping file at) 0) t (Err (head_of stepping file at))) (led_taken_alike (tag_at file at) (at + header))

-- ---- a function that stands at a place: its two fields, and their values in their ranges
pub record FunctionThere (file : List ℕ) (at : ℕ) : Type 0 where
  pub function_field : Passed file 11 at (at + 4)
  pub curve_field_is : Passed file 7 (at + 4) (at + function_bytes)
  pub first : past file at ≡ at + 4
  pub base_in_is : base_in (be 1 file (at + header)) ≡ true
  pub curve_in_is : curve_in volt_var_bounds file (at + 7) ≡ true
  pub bytes : at + function_bytes ≤ length file

module _ (file : List ℕ) (ok : (whole file).number ≡ 0) (edition units left : ℕ) (current : Bool) where
  pub record FunctionSaid (there : Bool) (at next : ℕ) : Type 0 where
    pub stands : there ≡ true → FunctionThere file at
    pub picked_all : having 11 file (from file at) ≡ cond there (at ∷ having 11 file (from file next)) (having 11 file (from file next))
    pub no_others : (t : ℕ) → (11 ≡ t → ⊥) → (7 ≡ t → ⊥) → having t file (from file at) ≡ having t file (from file next)
    pub no_steps_is : steps_in file none_yet (from file at) ≡ steps_in file none_yet (from file next)
    pub rest : OnTheWay file (state_of at_steps edition units left 0 (flags current there)) next

  pub function_said : (at next : ℕ) → (tag_at file at ≡ 6 → ⊥) → at + cond (eqb (tag_at file at) 11) function_bytes 0 ≡ next
      → OnTheWay file (state_of at_inverters edition units left 0 (flags current false)) at → FunctionSaid (eqb (tag_at file at) 11) at next
  unfolding size_of value_of state_after roof_after
  function_said at next n e w = go (eqb (tag_at file at) 11) refl e
    where
      there : tag_at file at ≡ 11 → at + function_bytes ≡ next → FunctionSaid true at next
      there t e =
          let st : State = state_of at_inverters edition units left 0 (flags current false) in
          let v : Waited file ok 11 st at (at + 4) = waited file ok 11 st at (at + 4) refl (λ z. t) (omega arith) w in
          let curving : State = state_of at_volt_var edition units left 0 (flags current true) in
          let c : Waited file ok 7 curving (at + 4) (at + function_bytes) =
          waited file ok 7 curving (at + 4) (at + function_bytes) refl (volt_var_alone edition units left 0 (flags current true) (tag_at file (at + 4))) (omega arith) v.rest in
          let p : at + 4 + 3 ≡ at + 7 = omega arith in
          subst (FunctionSaid true at) e (record {
            stands = λ z. record {
              function_field = v.passed;
              curve_field_is = c.passed;
              first = v.behind;
              base_in_is = accepted_test (base_in (be 1 file (at + header))) v.value;
              curve_in_is = subst (λ (p : ℕ). curve_in volt_var_bounds file p ≡ true) p (accepted_test (curve_in volt_var_bounds file (at + 4 + header)) c.value);
              bytes = c.rest.upto;
            };
            picked_all = picked file v.passed ∙ ap (λ (ats : List ℕ). at ∷ ats) (left_out file c.passed 11 (λ e. omega arith));
            no_others = λ u a b. left_out file v.passed u a ∙ left_out file c.passed u b;
            no_steps_is = closes_none file v.passed none_yet refl refl refl ∙ closes_none file c.passed none_yet refl refl refl;
            rest =
                way_alike file (leading edition units left 0 (flags current true) file) (stepping edition units left 0 (flags current true) file) (at + function_bytes) refl refl refl
                (led_alike edition units left 0 (flags current true) file (at + function_bytes)) c.rest;
          })

      go : (b : Bool) → eqb (tag_at file at) 11 ≡ b → at + cond b function_bytes 0 ≡ next → FunctionSaid b at next
      go true t e = there (eqb-true (tag_at file at) 11 t) e
      go false t e =
          let same : at ≡ next = omega (arith, e) in
          subst (FunctionSaid false at) same (record {
            stands = λ z. absurd (passed_failed z refl);
            picked_all = refl;
            no_others = λ u a b. refl;
            no_steps_is = refl;
            rest =
                way_alike file (roofing edition units left 0 (flags current false) file) (stepping edition units left 0 (flags current false) file) at refl refl refl
                (field_alike edition units left 0 (flags current false) file at n (eqb-false (tag_at file at) 11 t)) w;
          })
