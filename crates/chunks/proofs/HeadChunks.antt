-- Where the fields before the steps end, where a list of bytes that ends between two fields is followed by another; and how far that can be: the fields
-- before the steps have at most `head_most` bytes. Assumes nothing.
use mathlib.Core.Path.{◌≡◌, refl, sym, ap, ap₂, ◌∙◌, subst, subst⁻¹}
use mathlib.Core.Bool.{Bool, true, false, not, cond, ◌||◌}
use mathlib.Core.List.{List, ◌++◌}
use mathlib.Core.Logic.{◌⊎◌, inl, inr}
use Prim.Native.Nat.{ℕ, zero, suc, ◌+◌, ◌-◌, ◌*◌, ◌≤◌, ◌<◌}
use native.Mathlib.Omega.{arith}
use lib.Dec.{leb, eqb, lit≤}
use lib.ListN.{length, length-append}
use borrow.Author.Tests.{le-leb, lt-leb, leb-true, leb-false, eqb-true, eqb-false}
use Rattle.whole.proofs.Choice.{by_test, passed_failed}
use Rattle.whole.proofs.OverLaws.{and_parts}
use Rattle.octets.specs.BigEndian.{be}
use Rattle.rules.specs.Rules.{by_current}
use Rattle.parts.specs.Header.{header, tag_at, length_at, past}
use Rattle.fields.specs.declared.State.{State}
use Rattle.fields.specs.Fields.{at_fleet, at_units, at_settings, at_inverters, at_temperature, at_efficiency, at_connections, at_volt_var, at_led, kinds, size_in, size_of, stands_in, allowed, is_reading, fleet_in, value_of, Flags, flags, flags_of, state_of, gone_to, curve_next, led_from, roof_after, state_after}
use Rattle.fields.proofs.FieldLaws.{NoTag, by_tag, stands_nowhere, fleet_alone, units_alone, settings_alone, warm_alone, efficiency_alone, volt_var_alone, led_or_end}
use Rattle.stick.specs.Check.{field_at, reach_of, start}
use Rattle.stick.specs.Site.{of_steps, head_from}
use Rattle.stick.proofs.StepLaws.{of_steps_lem}
use Rattle.stick.proofs.WalkLaws.{Headed, field_cases}
use Rattle.stick.proofs.SaidLaws.{free_parts, accepted_test}
use Rattle.chunks.specs.Sizes.{largest_field, head_most}
use Rattle.chunks.proofs.FieldChunks.{Few, tag_shift, past_shift}
use Rattle.chunks.proofs.ReachChunks.{fleet_counts, over_shift, Went, there, passing, far, far_gone, far_all}
use Rattle.chunks.proofs.PlaceChunks.{Whole, whole_end, whole_field, at_end_lem, there_tag, there_past}
use Rattle.std.proofs.Common.{Ok}

-- ---- one field after another, with fields enough allowed
module _ (file : List ℕ) where
  abbrev head_by : Bool → Bool → ℕ → ℕ → ℕ
  head_by over steps at more = cond over at (cond steps at more)

  pub head_from_over : (k at : ℕ) → length file ≤ at → head_from k file at ≡ at
  unfolding head_from
  head_from_over zero at h = refl
  head_from_over (suc k) at h = ap (λ (b : Bool). head_by b (of_steps (tag_at file at)) at (head_from k file (past file at))) (le-leb (length file) at h)

  pub head_from_fuel : (j k at : ℕ) → length file ≤ at + j → length file ≤ at + k → head_from j file at ≡ head_from k file at
  unfolding head_from
  head_from_fuel zero k at h l = sym (head_from_over k at (omega arith))
  head_from_fuel (suc j) zero at h l = head_from_over (suc j) at (omega arith)
  head_from_fuel (suc j) (suc k) at h l =
      ap (head_by (leb (length file) at) (of_steps (tag_at file at)) at) (head_from_fuel j k (past file at) (omega arith) (omega arith))

  abbrev pub head_end : ℕ → ℕ
  head_end at = head_from (length file) file at

  next : (k at : ℕ) → length file ≤ at + k → at < length file → head_from k file at ≡ cond (of_steps (tag_at file at)) at (head_end (past file at))
  unfolding head_from
  next zero at h l = absurd (omega arith)
  next (suc k) at h l =
      ap₂ (λ (b : Bool) (n : ℕ). head_by b (of_steps (tag_at file at)) at n) (lt-leb (length file) at l) (head_from_fuel k (length file) (past file at) (omega arith) (omega arith))

  pub head_from_field : (at : ℕ) → at < length file → head_end at ≡ cond (of_steps (tag_at file at)) at (head_end (past file at))
  head_from_field at l = next (length file) at (omega arith) l

-- ---- behind other bytes, and before others
module _ (a b : List ℕ) where
  pub head_from_shift : (k i : ℕ) → head_from k (a ++ b) (length a + i) ≡ length a + head_from k b i
  unfolding head_from
  head_from_shift zero i = refl
  head_from_shift (suc k) i =
      let over = over_shift a b i in
      let tag = tag_shift a b i in
      let more = ap (head_from k (a ++ b)) (past_shift a b i) ∙ head_from_shift k (past b i) in
      let e : head_by (a ++ b) (leb (length (a ++ b)) (length a + i)) (of_steps (tag_at (a ++ b) (length a + i))) (length a + i) (head_from k (a ++ b) (past (a ++ b) (length a + i)))
      ≡ head_by (a ++ b) (leb (length b) i) (of_steps (tag_at b i)) (length a + i) (length a + head_from k b (past b i)) =
      λ j. head_by (a ++ b) (over j) (of_steps (tag j)) (length a + i) (more j) in
      e ∙ go (leb (length b) i) (of_steps (tag_at b i)) (head_from k b (past b i))
    where
      go : (over steps : Bool) (more : ℕ) → head_by (a ++ b) over steps (length a + i) (length a + more) ≡ length a + head_by b over steps i more
      go true steps more = refl
      go false true more = refl
      go false false more = refl

  -- where a head ends, by where that of the first list ends
  pub record HeadAppend (i h : ℕ) : Type 0 where
    pub from : i ≤ h
    pub upto : h ≤ length a
    pub within : h < length a → head_end (a ++ b) i ≡ h
    pub on : length a ≤ h → head_end (a ++ b) i ≡ length a + head_end b 0

  pub head_from_append : {i : ℕ} → Whole a i → HeadAppend i (head_end a i)
  head_from_append {i} (whole_end e) =
      let o : head_end a i ≡ i = head_from_over a (length a) i (omega arith) in
      record {
        from = omega arith;
        upto = omega arith;
        within = λ l. absurd (omega arith);
        on = λ l.
            at_end_lem a b (head_end (a ++ b)) i e ∙ head_from_shift (length (a ++ b)) 0
            ∙ ap (λ (n : ℕ). length a + n) (head_from_fuel b (length (a ++ b)) (length b) 0 (omega (arith, length-append a b)) (omega arith));
      }
  head_from_append {i} (whole_field f w) = subst⁻¹ (HeadAppend i) (head_from_field a i below) (go (of_steps (tag_at a i)) refl (head_from_append w))
    where
      below : i < length a
      below = let l = f.all in omega arith

      both : head_end (a ++ b) i ≡ cond (of_steps (tag_at a i)) i (head_end (a ++ b) (past a i))
      both =
          head_from_field (a ++ b) i (let l = below in omega (arith, length-append a b))
          ∙ ap₂ (λ (t n : ℕ). cond (of_steps t) i (head_end (a ++ b) n)) (there_tag a b f) (there_past a b f)

      go : (s : Bool) → of_steps (tag_at a i) ≡ s → HeadAppend (past a i) (head_end a (past a i)) → HeadAppend i (cond s i (head_end a (past a i)))
      go true e more =
          let l = below in
          record {
            from = omega arith;
            upto = omega arith;
            within = λ h. both ∙ ap (λ (t : Bool). cond t i (head_end (a ++ b) (past a i))) e;
            on = λ h. absurd (omega arith);
          }
      go false e more =
          let same = both ∙ ap (λ (t : Bool). cond t i (head_end (a ++ b) (past a i))) e in
          let m = more.from in
          record { from = omega arith; upto = more.upto; within = λ h. same ∙ more.within h; on = λ h. same ∙ more.on h }

-- ---- where a field before the steps stands at most, by the stage and by what is still to come
pub data Placed : State → ℕ → Type 0 where
  fleet : {st : State} {i : ℕ} → st.stage ≡ at_fleet → i ≡ 0 → Placed st i
  units : {st : State} {i : ℕ} → st.stage ≡ at_units → Few st → 1 ≤ st.left → i + 60 * st.left ≤ 3849 → Placed st i
  settings : {st : State} {i : ℕ} → st.stage ≡ at_settings → Few st → i ≤ 3849 → Placed st i
  connections : {st : State} {i : ℕ} → st.stage ≡ at_connections → Few st → i + 286 * st.left + largest_field + 136 ≤ head_most → Placed st i
  inverters : {st : State} {i : ℕ} → st.stage ≡ at_inverters → i + 286 * st.left + 136 ≤ head_most → Placed st i
  warm : {st : State} {i : ℕ} → st.stage ≡ at_temperature → i + 286 * st.left + 400 ≤ head_most → Placed st i
  efficiency : {st : State} {i : ℕ} → st.stage ≡ at_efficiency → i + 286 * st.left + 268 ≤ head_most → Placed st i
  volt_var : {st : State} {i : ℕ} → st.stage ≡ at_volt_var → i + 132 ≤ head_most → Placed st i
  led : {st : State} {i : ℕ} → st.stage ≡ at_led → i ≤ head_most → Placed st i

placed_most : {st : State} {i : ℕ} → Placed st i → i ≤ head_most
placed_most (fleet e z) = omega arith
placed_most (units e few l h) = omega arith
placed_most (settings e few h) = omega arith
placed_most (connections e few h) = omega arith
placed_most (inverters e h) = omega arith
placed_most (warm e h) = omega arith
placed_most (efficiency e h) = omega arith
placed_most (volt_var e h) = omega arith
placed_most (led e h) = h

-- a tag that no step has and that the table does not name, before 7F, stands nowhere
no_other_tag : (st : State) (tag : ℕ) → NoTag tag → allowed st tag ≡ true → of_steps tag ≡ false → ⊥
no_other_tag st tag n a o = go (eqb tag 127) refl
  where
    go : (b : Bool) → eqb tag 127 ≡ b → ⊥
    go true e = passed_failed (ap of_steps (eqb-true tag 127 e)) o
    go false e = passed_failed a (sym (stands_nowhere st tag n (eqb-false tag 127 e)))

-- an inverter's tag, and one may still come, or the function's
abbrev Roofing : ℕ → ℕ → Type 0
Roofing left tag = ((tag ≡ 6) × (1 ≤ left)) ⊎ (tag ≡ 11)

-- at the stage of the inverters a tag that no step has is one of these; at that of the connections it is theirs, or so too
module _ (edition count left steps : ℕ) (said : Flags) (tag : ℕ) where
  inverter_or_function : allowed (state_of at_inverters edition count left steps said) tag ≡ true → of_steps tag ≡ false → Roofing left tag
  unfolding allowed kinds stands_in
  inverter_or_function =
      by_tag (λ (t : ℕ). allowed (state_of at_inverters edition count left steps said) t ≡ true → of_steps t ≡ false → Roofing left t) tag
      (λ a o. absurd (passed_failed a refl)) (λ a o. absurd (passed_failed a refl)) (λ a o. absurd (passed_failed a refl))
      (λ a o. absurd (passed_failed refl o)) (λ a o. absurd (passed_failed refl o))
      (λ a o. inl (refl, leb-true 1 left a))
      (λ a o. absurd (passed_failed a refl)) (λ a o. absurd (passed_failed refl o)) (λ a o. absurd (passed_failed refl o)) (λ a o. absurd (passed_failed a refl))
      (λ a o. inr refl) (λ a o. absurd (passed_failed refl o))
      (λ n a o. absurd (no_other_tag (state_of at_inverters edition count left steps said) tag n a o))

  connections_or_other : allowed (state_of at_connections edition count left steps said) tag ≡ true → of_steps tag ≡ false → (tag ≡ 10) ⊎ Roofing left tag
  unfolding allowed kinds stands_in
  connections_or_other =
      by_tag (λ (t : ℕ). allowed (state_of at_connections edition count left steps said) t ≡ true → of_steps t ≡ false → (t ≡ 10) ⊎ Roofing left t) tag
      (λ a o. absurd (passed_failed a refl)) (λ a o. absurd (passed_failed a refl)) (λ a o. absurd (passed_failed a refl))
      (λ a o. absurd (passed_failed refl o)) (λ a o. absurd (passed_failed refl o))
      (λ a o. inr (inl (refl, leb-true 1 left (and_parts (not said.current) (leb 1 left) a).1)))
      (λ a o. absurd (passed_failed a refl)) (λ a o. absurd (passed_failed refl o)) (λ a o. absurd (passed_failed refl o)) (λ a o. inl refl)
      (λ a o. inr (inr refl)) (λ a o. absurd (passed_failed refl o))
      (λ n a o. absurd (no_other_tag (state_of at_connections edition count left steps said) tag n a o))

module _ (file : List ℕ) (st : State) (i : ℕ) where
  -- one field more
  module _ (hd : Headed st file i) (allows : allowed st (tag_at file i) ≡ true) (value : value_of st (tag_at file i) file (i + header) ≡ 0) (other : of_steps (tag_at file i) ≡ false) where
    at_stage : (n : ℕ) → st.stage ≡ n → allowed (state_of n st.edition st.units st.left st.steps (flags_of st)) (tag_at file i) ≡ true
    at_stage n e = ap (λ (n : ℕ). allowed (state_of n st.edition st.units st.left st.steps (flags_of st)) (tag_at file i)) (sym e) ∙ allows

    at_tag : (k : ℕ) → tag_at file i ≡ k → (length_at file i ≡ size_of st k → value_of st k file (i + header) ≡ 0 → Placed (state_after st k file (i + header)) (past file i))
        → Placed (state_after st (tag_at file i) file (i + header)) (past file i)
    at_tag k e f =
        subst⁻¹ (λ (t : ℕ). Placed (state_after st t file (i + header)) (past file i)) e
        (f (hd.size ∙ ap (size_of st) e) (subst (λ (t : ℕ). value_of st t file (i + header) ≡ 0) e value))

    unit_most : cond (leb 2 st.edition) 57 49 ≤ 57
    unit_most = by_test (λ (n : ℕ). n ≤ 57) (leb 2 st.edition) 57 49 (λ t. lit≤ tt) (λ t. lit≤ tt)

    after_unit : Few st → (b : Bool) → leb st.left 1 ≡ b → past file i + 60 * (st.left - 1) ≤ 3849
        → Placed (cond b (gone_to st at_settings 0 st.steps) (gone_to st at_units (st.left - 1) st.steps)) (past file i)
    after_unit few true e h = settings {st = gone_to st at_settings 0 st.steps} {i = past file i} refl few (omega arith)
    after_unit few false e h = let l : 1 < st.left = leb-false st.left 1 e in units {st = gone_to st at_units (st.left - 1) st.steps} refl few (omega arith) h

    roof_or_function : i + 286 * st.left + 136 ≤ head_most → Roofing st.left (tag_at file i) → Placed (state_after st (tag_at file i) file (i + header)) (past file i)
    unfolding size_of kinds size_in state_after roof_after
    roof_or_function h (inl six) =
        let some = six.1 in at_tag 6 six.0 (λ size v. warm {st = gone_to st at_temperature (st.left - 1) st.steps} {i = past file i} refl (omega arith))
    roof_or_function h (inr eleven) = at_tag 11 eleven (λ size v. volt_var {st = led_from st} {i = past file i} refl (omega arith))

    pub placed_next : Placed st i → Placed (state_after st (tag_at file i) file (i + header)) (past file i)
    unfolding size_of kinds size_in value_of state_after roof_after
    placed_next (fleet e z) =
        at_tag 1 (fleet_alone st.edition st.units st.left st.steps (flags_of st) (tag_at file i) (at_stage at_fleet e))
        (λ size v.
        let n = be 1 file (i + header + 1) in
        let c : (1 ≤ n) × (n ≤ 64) = fleet_counts file (i + header) (accepted_test (fleet_in file (i + header)) v) in
        let some = c.0 in
        let few = c.1 in
        units {st = state_of at_units (be 1 file (i + header)) n n st.steps (flags_of st)} {i = past file i} refl few some (omega arith))
    placed_next (units e few l h) =
        at_tag 2 (units_alone st.edition st.units st.left st.steps (flags_of st) (tag_at file i) (at_stage at_units e))
        (λ size v. let m = unit_most in after_unit few (leb st.left 1) refl (omega arith))
    placed_next (settings e few h) =
        at_tag 3 (settings_alone st.edition st.units st.left st.steps (flags_of st) (tag_at file i) (at_stage at_settings e))
        (λ size v. connections {st = state_of at_connections st.edition st.units 64 st.steps (flags (by_current (be 1 file (i + header))) st.led)} {i = past file i} refl few (omega arith))
    placed_next (connections e few h) =
        go (connections_or_other st.edition st.units st.left st.steps (flags_of st) (tag_at file i) (at_stage at_connections e) other)
      where
        go : (tag_at file i ≡ 10) ⊎ Roofing st.left (tag_at file i) → Placed (state_after st (tag_at file i) file (i + header)) (past file i)
        go (inl ten) = at_tag 10 ten (λ size v. inverters {st = gone_to st at_inverters st.left st.steps} {i = past file i} refl (omega arith))
        go (inr r) = roof_or_function (omega arith) r
    placed_next (inverters e h) =
        roof_or_function h (inverter_or_function st.edition st.units st.left st.steps (flags_of st) (tag_at file i) (at_stage at_inverters e) other)
    placed_next (warm e h) =
        at_tag 7 (warm_alone st.edition st.units st.left st.steps (flags_of st) (tag_at file i) (at_stage at_temperature e))
        (λ size v. efficiency {st = state_after st 7 file (i + header)} {i = past file i} (ap curve_next e) (omega arith))
    placed_next (efficiency e h) =
        at_tag 7 (efficiency_alone st.edition st.units st.left st.steps (flags_of st) (tag_at file i) (at_stage at_efficiency e))
        (λ size v. inverters {st = state_after st 7 file (i + header)} {i = past file i} (ap curve_next e) (omega arith))
    placed_next (volt_var e h) =
        at_tag 7 (volt_var_alone st.edition st.units st.left st.steps (flags_of st) (tag_at file i) (at_stage at_volt_var e))
        (λ size v. led {st = state_after st 7 file (i + header)} {i = past file i} (ap curve_next e) (omega arith))
    placed_next (led e h) =
        absurd (passed_failed (of_steps_lem (tag_at file i) (led_or_end st.edition st.units st.left st.steps (flags_of st) (tag_at file i) (at_stage at_led e))) other)

-- ---- an accepted field before the steps, from such a place to the next
pub record FieldTaken (file : List ℕ) (st m : State) (i : ℕ) : Type 0 where
  pub head : Headed st file i
  pub allows : allowed st (tag_at file i) ≡ true
  pub value : value_of st (tag_at file i) file (i + header) ≡ 0
  pub is : state_after st (tag_at file i) file (i + header) ≡ m

module _ (file : List ℕ) (st m : State) (i : ℕ) (upto : i ≤ length file) (f : field_at st file i ≡ Ok m) where
  pub accepted_field : FieldTaken file st m i
  accepted_field =
      field_cases st file i upto
      (λ n z c. let q : ◌≡◌ {A = ℕ} 0 1 = cc in absurd (omega arith))
      (λ hd z c. let parts = free_parts st (tag_at file i) file (i + header) z in record { head = hd; allows = parts.0; value = parts.1; is = cc })

  pub placed_on : of_steps (tag_at file i) ≡ false → Placed st i → Placed m (past file i)
  placed_on o p =
      let a = accepted_field in
      subst (λ (s : State). Placed s (past file i)) a.is (placed_next file st i a.head a.allows a.value o p)

-- ---- so far the fields go, or the head ends there
went_short : (file : List ℕ) {s : State} {j : ℕ} {st : State} {i : ℕ} → Went file s j st i → Placed st i → (head_end file i ≤ head_most) ⊎ (j ≤ head_most)
went_short file (there e f) p = let m = placed_most p in inr (omega arith)
went_short file {s} {j} {st} {i} (passing m l e f w more) p = go (of_steps (tag_at file i)) refl (went_short file more)
  where
    go : (b : Bool) → of_steps (tag_at file i) ≡ b → (Placed m (past file i) → (head_end file (past file i) ≤ head_most) ⊎ (j ≤ head_most)) → (head_end file i ≤ head_most) ⊎ (j ≤ head_most)
    go true o further =
        let here : head_end file i ≡ i = head_from_field file i l ∙ ap (λ (b : Bool). cond b i (head_end file (past file i))) o in
        let most = placed_most p in
        inl (omega arith)
    go false o further =
        let on : head_end file i ≡ head_end file (past file i) = head_from_field file i l ∙ ap (λ (b : Bool). cond b i (head_end file (past file i))) o in
        subst⁻¹ (λ (n : ℕ). (n ≤ head_most) ⊎ (j ≤ head_most)) on (further (placed_on file st m i (omega arith) f o p))

-- of the bytes that the fields go over from the start on, the head has at most 9 + 60 * 64 + 15 + 195 + 286 * 64 + 136
pub head_most_lem : (s : List ℕ) → head_from (length s) s 0 ≤ (reach_of (length s) start s 0).at → head_from (length s) s 0 ≤ head_most
head_most_lem s h = go (went_short s (far_gone s start 0 (omega arith)).went (fleet refl refl))
  where
    go : (head_from (length s) s 0 ≤ head_most) ⊎ ((reach_of (length s) start s 0).at ≤ head_most) → head_from (length s) s 0 ≤ head_most
    go (inl l) = l
    go (inr l) = omega arith

pub head_short : (s : List ℕ) → (reach_of (length s) start s 0).number ≡ 0 → head_from (length s) s 0 ≡ length s → length s ≤ head_most
head_short s z h =
    let first : 0 ≤ length s = omega arith in
    let e : (far s start 0 first).at ≡ length s = far_all s start 0 first z in
    let m : head_from (length s) s 0 ≤ head_most = head_most_lem s (omega arith) in
    omega arith
