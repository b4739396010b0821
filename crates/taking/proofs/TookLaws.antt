-- A field that is taken, by its tag: the stage at which it stands, how long it is, and the state behind it. Assumes nothing.
use mathlib.Core.Path.{◌≡◌, refl, sym, ap, ◌∙◌, subst, subst⁻¹}
use mathlib.Core.Bool.{Bool, true, false, not, cond, ◌&&◌, ◌||◌}
use mathlib.Core.List.{List}
use Prim.Native.Nat.{ℕ, ◌+◌, ◌-◌, ◌≤◌, ◌<◌}
use native.Mathlib.Omega.{arith}
use lib.Dec.{leb, eqb}
use lib.ListN.{length}
use borrow.Author.Tests.{leb-true, eqb-true, eqb-false}
use Rattle.whole.proofs.Choice.{passed_failed}
use Rattle.whole.proofs.OverLaws.{and_parts}
use Rattle.octets.specs.BigEndian.{be}
use Rattle.rules.specs.Rules.{by_current}
use Rattle.lead.specs.Lead.{voltage_in}
use Rattle.parts.specs.Header.{header, tag_at, length_at, past}
use Rattle.fields.specs.declared.State.{State}
use Rattle.fields.specs.Fields.{at_end, at_fleet, at_units, at_settings, at_steps, at_inverters, at_temperature, at_efficiency, at_reading, at_connections, at_volt_var, at_voltage, at_led, opens, begins, charged, closes, kinds, size_in, size_of, stands_in, allowed, fleet_in, is_reading, too_many, value_of, flags, flags_of, state_of, gone_to, led_from, roof_after, state_after}
use Rattle.fields.proofs.FieldLaws.{NoTag, by_tag, fewer, step_counts, stands_nowhere}
use Rattle.fields.proofs.TakenLaws.{not_many}
use Rattle.stick.specs.Check.{field_at}
use Rattle.stick.proofs.WalkLaws.{field_cases}
use Rattle.stick.proofs.SaidLaws.{free_parts, accepted_test}
use Rattle.std.proofs.Common.{Ok}

-- ---- the stages where an inverter may stand, where a step may begin, where a voltage may stand, and where a step may be closed
module _ (P : ℕ → Bool → Type 0) (st : State) where
  pub by_opens : opens st ≡ true → ((c : Bool) → P at_inverters c) → P at_connections false → P st.stage st.current
  by_opens o five nine = go (eqb st.stage 5) (eqb st.stage 9) st.current refl refl o
    where
      go : (x y c : Bool) → eqb st.stage 5 ≡ x → eqb st.stage 9 ≡ y → (x || (y && not c)) ≡ true → P st.stage c
      go true y c ex ey o = subst⁻¹ (λ (n : ℕ). P n c) (eqb-true st.stage 5 ex) (five c)
      go false true true ex ey o = absurd (passed_failed o refl)
      go false true false ex ey o = subst⁻¹ (λ (n : ℕ). P n false) (eqb-true st.stage 9 ey) nine
      go false false c ex ey o = absurd (passed_failed o refl)

  pub by_begins : begins st ≡ true → ((c : Bool) → P at_steps c) → ((c : Bool) → P at_inverters c) → P at_connections false → ((c : Bool) → P at_led c) → P st.stage st.current
  by_begins b four five nine twelve = go (eqb st.stage 4) (opens st) (eqb st.stage 12) refl refl refl b
    where
      go : (x y z : Bool) → eqb st.stage 4 ≡ x → opens st ≡ y → eqb st.stage 12 ≡ z → (x || y || z) ≡ true → P st.stage st.current
      go true y z ex ey ez b = subst⁻¹ (λ (n : ℕ). P n st.current) (eqb-true st.stage 4 ex) (four st.current)
      go false true z ex ey ez b = by_opens ey five nine
      go false false true ex ey ez b = subst⁻¹ (λ (n : ℕ). P n st.current) (eqb-true st.stage 12 ez) (twelve st.current)
      go false false false ex ey ez b = absurd (passed_failed b refl)

  pub by_charged : charged st ≡ true → ((c : Bool) → P at_steps c) → ((c : Bool) → P at_inverters c) → P at_connections false → ((c : Bool) → P at_led c) → ((c : Bool) → P at_reading c)
      → P st.stage st.current
  by_charged c four five nine twelve eight = go (begins st) (eqb st.stage 8) refl refl (and_parts (begins st || eqb st.stage 8) st.led c).0
    where
      go : (x y : Bool) → begins st ≡ x → eqb st.stage 8 ≡ y → (x || y) ≡ true → P st.stage st.current
      go true y ex ey c = by_begins ex four five nine twelve
      go false true ex ey c = subst⁻¹ (λ (n : ℕ). P n st.current) (eqb-true st.stage 8 ey) (eight st.current)
      go false false ex ey c = absurd (passed_failed c refl)

  pub by_closes : closes st ≡ true → ((c : Bool) → P at_steps c) → ((c : Bool) → P at_inverters c) → P at_connections false → ((c : Bool) → P at_led c) → ((c : Bool) → P at_reading c)
      → ((c : Bool) → P at_voltage c) → P st.stage st.current
  by_closes c four five nine twelve eight eleven = go (begins st) (eqb st.stage 8) (eqb st.stage 11) refl refl refl c
    where
      go : (x y z : Bool) → begins st ≡ x → eqb st.stage 8 ≡ y → eqb st.stage 11 ≡ z → (x || y || z) ≡ true → P st.stage st.current
      go true y z ex ey ez c = by_begins ex four five nine twelve
      go false true z ex ey ez c = subst⁻¹ (λ (n : ℕ). P n st.current) (eqb-true st.stage 8 ey) (eight st.current)
      go false false true ex ey ez c = subst⁻¹ (λ (n : ℕ). P n st.current) (eqb-true st.stage 11 ez) (eleven st.current)
      go false false false ex ey ez c = absurd (passed_failed c refl)

-- where a voltage may stand, a step may be closed
pub charged_closes : (st : State) → charged st ≡ true → closes st ≡ true
charged_closes st c =
    by_charged (λ (n : ℕ) (c : Bool). closes (state_of n 0 0 0 0 (flags c false)) ≡ true) st c (λ c. refl) (λ c. refl) refl (λ c. refl) (λ c. refl)

-- ---- a field that is taken
pub data Took (file : List ℕ) (st : State) (i : ℕ) (m : State) : Type 0 where
  fleet : tag_at file i ≡ 1 → st.stage ≡ at_fleet → past file i ≡ i + 9 → fleet_in file (i + header) ≡ true
      → m ≡ state_of at_units (be 1 file (i + header)) (be 1 file (i + header + 1)) (be 1 file (i + header + 1)) st.steps (flags_of st) → Took file st i m
  unit : tag_at file i ≡ 2 → st.stage ≡ at_units → m ≡ fewer st → Took file st i m
  settings : tag_at file i ≡ 3 → st.stage ≡ at_settings → m ≡ state_of at_connections st.edition st.units 64 st.steps (flags (by_current (be 1 file (i + header))) st.led)
      → Took file st i m
  connections : tag_at file i ≡ 10 → st.stage ≡ at_connections → m ≡ gone_to st at_inverters st.left st.steps → Took file st i m
  inverter : tag_at file i ≡ 6 → opens st ≡ true → 1 ≤ st.left → m ≡ gone_to st at_temperature (st.left - 1) st.steps → Took file st i m
  warm : tag_at file i ≡ 7 → st.stage ≡ at_temperature → m ≡ gone_to st at_efficiency st.left st.steps → Took file st i m
  efficiency : tag_at file i ≡ 7 → st.stage ≡ at_efficiency → m ≡ gone_to st at_inverters st.left st.steps → Took file st i m
  function : tag_at file i ≡ 11 → opens st ≡ true → m ≡ led_from st → Took file st i m
  volt_var : tag_at file i ≡ 7 → st.stage ≡ at_volt_var → m ≡ gone_to st at_led st.left st.steps → Took file st i m
  reading : is_reading (tag_at file i) ≡ true → closes st ≡ true → i + 3 ≤ past file i → past file i ≤ i + 27 → st.steps < 65535
      → m ≡ gone_to st at_steps st.left (st.steps + 1) → Took file st i m
  weather : tag_at file i ≡ 8 → begins st ≡ true → past file i ≡ i + 19 → m ≡ gone_to st at_reading st.left st.steps → Took file st i m
  voltage : tag_at file i ≡ 12 → charged st ≡ true → past file i ≡ i + 5 → voltage_in (be 2 file (i + header)) ≡ true → m ≡ gone_to st at_voltage st.left st.steps
      → Took file st i m
  end : tag_at file i ≡ 127 → begins st ≡ true → past file i ≡ i + 7 → m ≡ gone_to st at_end st.left st.steps → Took file st i m

module _ (file : List ℕ) (st : State) (i : ℕ) (m : State) where
  -- a curve, by the stage
  curve : tag_at file i ≡ 7 → (a b c : Bool) → eqb st.stage at_temperature ≡ a → eqb st.stage at_efficiency ≡ b → eqb st.stage at_volt_var ≡ c → (a || b || c) ≡ true
      → m ≡ gone_to st (cond a at_efficiency (cond b at_inverters at_led)) st.left st.steps → Took file st i m
  curve t true b c ea eb ec o is = warm t (eqb-true st.stage 6 ea) is
  curve t false true c ea eb ec o is = efficiency t (eqb-true st.stage 7 eb) is
  curve t false false true ea eb ec o is = volt_var t (eqb-true st.stage 10 ec) is
  curve t false false false ea eb ec o is = absurd (passed_failed o refl)

  -- an inverter
  another_one : tag_at file i ≡ 6 → (opens st && leb 1 st.left) ≡ true → m ≡ gone_to st at_temperature (st.left - 1) st.steps → Took file st i m
  another_one t a is =
      let both = and_parts (opens st) (leb 1 st.left) a in
      inverter t both.0 (leb-true 1 st.left both.1) is

  by_its_tag : (tag : ℕ) → tag_at file i ≡ tag → allowed st tag ≡ true → value_of st tag file (i + header) ≡ 0 → too_many st tag ≡ false → length_at file i ≡ size_of st tag
      → m ≡ state_after st tag file (i + header) → Took file st i m
  unfolding allowed kinds stands_in size_of size_in value_of state_after roof_after
  by_its_tag tag =
      by_tag (λ (tag : ℕ). tag_at file i ≡ tag → allowed st tag ≡ true → value_of st tag file (i + header) ≡ 0 → too_many st tag ≡ false → length_at file i ≡ size_of st tag
      → m ≡ state_after st tag file (i + header) → Took file st i m) tag
      (λ t a v n l is. fleet t (eqb-true st.stage 1 a) (omega arith) (accepted_test (fleet_in file (i + header)) v) is)
      (λ t a v n l is. unit t (eqb-true st.stage 2 a) is)
      (λ t a v n l is. settings t (eqb-true st.stage 3 a) is)
      (λ t a v n l is. reading (ap is_reading t) a (omega arith) (omega arith) (step_counts st 4 refl n) is)
      (λ t a v n l is. reading (ap is_reading t) a (omega arith) (omega arith) (step_counts st 5 refl n) is)
      (λ t a v n l is. another_one t a is)
      (λ t a v n l is. curve t (eqb st.stage 6) (eqb st.stage 7) (eqb st.stage 10) refl refl refl a is)
      (λ t a v n l is. weather t a (omega arith) is)
      (λ t a v n l is. reading (ap is_reading t) a (omega arith) (omega arith) (step_counts st 9 refl n) is)
      (λ t a v n l is. connections t (eqb-true st.stage 9 a) is)
      (λ t a v n l is. function t a is)
      (λ t a v n l is. voltage t a (omega arith) (accepted_test (voltage_in (be 2 file (i + header))) v) is)
      (λ none t a v n l is. last (eqb tag 127) refl none t a l is)
    where
      last : (b : Bool) → eqb tag 127 ≡ b → NoTag tag → tag_at file i ≡ tag → allowed st tag ≡ true → length_at file i ≡ size_of st tag
          → m ≡ state_after st tag file (i + header) → Took file st i m
      last true e none t a l is =
          let e127 : tag ≡ 127 = eqb-true tag 127 e in
          let four : length_at file i ≡ 4 = l ∙ ap (size_of st) e127 in
          end (t ∙ e127) (subst (λ (k : ℕ). allowed st k ≡ true) e127 a) (omega arith) (is ∙ ap (λ (k : ℕ). state_after st k file (i + header)) e127)
      last false e none t a l is =
          absurd (passed_failed a (sym (stands_nowhere st tag none (eqb-false tag 127 e))))

  pub took : i ≤ length file → field_at st file i ≡ Ok m → Took file st i m
  took h f =
      field_cases st file i h
      (λ n z e. let q : ◌≡◌ {A = ℕ} 0 1 = cc in absurd (omega arith))
      (λ hd z e.
      let tag = tag_at file i in
      let parts = free_parts st tag file (i + header) z in
      let is : m ≡ state_after st tag file (i + header) = cc in
      by_its_tag tag refl parts.0 parts.1 (not_many st tag file (i + header) 0 (sym z) refl) hd.size is)
