-- The steps of an accepted file: from where a step or the end may come, each field is a weather, a voltage, a reading that closes a step, or the end, which tells how many
-- steps there were. Assumes nothing.
use mathlib.Core.Path.{◌≡◌, refl, sym, ap, ap₂, ◌∙◌, subst, subst⁻¹}
use mathlib.Core.Bool.{Bool, true, false, cond, ◌||◌}
use mathlib.Core.List.{List, [], ◌∷◌, ◌++◌, append_assoc, append-nil}
use mathlib.Core.Logic.{◌⊎◌, inl, inr}
use Prim.Native.Nat.{ℕ, suc, ◌+◌, ◌≤◌, ◌<◌, zero-le}
use native.Mathlib.Nat.{add-zero}
use native.Mathlib.Omega.{arith}
use lib.Dec.{eqb}
use lib.ListN.{length, drop}
use borrow.Author.Tests.{eqb-true}
use Rattle.whole.proofs.Choice.{passed_failed}
use Rattle.whole.proofs.OverLaws.{and_parts}
use Rattle.octets.specs.BigEndian.{be}
use Rattle.octets.proofs.ByteLaws.{be_below}
use Rattle.parts.specs.Header.{tag_at, past}
use Rattle.reading.specs.declared.Reading.TheVariants.{Power, Current}
use Rattle.reading.specs.Choice.{refusal_of}
use Rattle.solar.specs.Weather.{sky_of}
use Rattle.lead.specs.Lead.{Leading, unled, led, voltage_in}
use Rattle.fields.specs.declared.State.{State}
use Rattle.fields.specs.Fields.{at_steps, at_reading, at_voltage, at_led, kinds, size_in, size_of, stands_in, allowed, begins, only, is_reading, six_unless, weather_at, phases_at, value_of, flags_of, state_of, roof_after, state_after}
use Rattle.fields.proofs.FieldLaws.{voltage_alone, reading_or_voltage, weather_or_end, led_or_end, step_counts, after_reading}
use Rattle.stick.specs.Site.{of_steps}
use Rattle.stick.proofs.StepLaws.{no_other}
use Rattle.stick.proofs.SaidLaws.{accepted_test}
use Rattle.layouts.specs.Written.{WeatherSaid, no_weather, weather, ReadingSaid, missing, powers, currents, StepSaid}
use Rattle.layouts.specs.Layout.{joined, weather_field, voltage_field, reading_field, step_fields, end_field}
use Rattle.layouts.specs.Ranges.{Each, Bits, WeatherFits, VoltageFits, ReadingFits, StepFits}
use Rattle.layouts.proofs.LieLaws.{weather_lies, voltage_lies, phases_lie, missing_lies, end_lies}
use Rattle.layouts.proofs.WalkLaws.{leads}
use Rattle.layouts.proofs.ReadLaws.{First, Reads, ended, reads, lies_at, value_at, allows_at, at_end_lem}
use Rattle.std.proofs.Common.{None, Option, Some}
use Rattle.solar.specs.declared.Sun.{Sun}

-- one of three tags
one_of : (tag a b c : ℕ) → (eqb tag a || eqb tag b || eqb tag c) ≡ true → (tag ≡ a) ⊎ ((tag ≡ b) ⊎ (tag ≡ c))
one_of tag a b c o = go (eqb tag a) refl (eqb tag b) refl (eqb tag c) refl
  where
    go : (x : Bool) → eqb tag a ≡ x → (y : Bool) → eqb tag b ≡ y → (z : Bool) → eqb tag c ≡ z → (tag ≡ a) ⊎ ((tag ≡ b) ⊎ (tag ≡ c))
    go true e y f z g = inl (eqb-true tag a e)
    go false e true f z g = inr (inl (eqb-true tag b f))
    go false e false f true g = inr (inr (eqb-true tag c g))
    go false e false f false g = let none : (eqb tag a || eqb tag b || eqb tag c) ≡ false = simp (e, f, g) in absurd (passed_failed o none)

-- ---- which field comes, by what of a step has come
pub data Waits (st : State) (tag : ℕ) (w : WeatherSaid) (v : Option ℕ) : Type 0 where
  opened : of_steps tag ≡ true → w ≡ no_weather → v ≡ None → Waits st tag w v
  for_step : st.stage ≡ at_steps → w ≡ no_weather → v ≡ None → Waits st tag w v
  behind_function_lem : st.stage ≡ at_led → w ≡ no_weather → v ≡ None → Waits st tag w v
  behind_weather : st.stage ≡ at_reading → v ≡ None → Waits st tag w v
  behind_voltage : st.stage ≡ at_voltage → Waits st tag w v

data StepTag (tag : ℕ) (w : WeatherSaid) (v : Option ℕ) : Type 0 where
  is_reading_lem : is_reading tag ≡ true → StepTag tag w v
  is_weather : tag ≡ 8 → w ≡ no_weather → v ≡ None → StepTag tag w v
  is_voltage : tag ≡ 12 → v ≡ None → StepTag tag w v
  is_end : tag ≡ 127 → w ≡ no_weather → v ≡ None → StepTag tag w v

step_tag : (st : State) (tag : ℕ) (w : WeatherSaid) (v : Option ℕ) → allowed st tag ≡ true → Waits st tag w v → StepTag tag w v
step_tag st tag w v a waits = go (is_reading tag) refl waits
  where
    at_stage : (n : ℕ) → st.stage ≡ n → allowed (state_of n st.edition st.units st.left st.steps (flags_of st)) tag ≡ true
    at_stage n e = ap (λ (n : ℕ). allowed (state_of n st.edition st.units st.left st.steps (flags_of st)) tag) (sym e) ∙ a

    pick : w ≡ no_weather → v ≡ None → (tag ≡ 8) ⊎ ((tag ≡ 12) ⊎ (tag ≡ 127)) → StepTag tag w v
    pick x y (inl e) = is_weather e x y
    pick x y (inr (inl e)) = is_voltage e y
    pick x y (inr (inr e)) = is_end e x y

    go : (b : Bool) → is_reading tag ≡ b → Waits st tag w v → StepTag tag w v
    go true r p = is_reading_lem r
    go false r (opened o x y) = pick x y (one_of tag 8 12 127 (sym (ap (λ (b : Bool). b || eqb tag 8 || eqb tag 12 || eqb tag 127) r) ∙ o))
    go false r (for_step e x y) = pick x y (weather_or_end st.edition st.units st.left st.steps (flags_of st) tag (at_stage at_steps e) r)
    go false r (behind_function_lem e x y) = pick x y (led_or_end st.edition st.units st.left st.steps (flags_of st) tag (at_stage at_led e) r)
    go false r (behind_weather e y) = is_voltage (reading_or_voltage st.edition st.units st.left st.steps (flags_of st) tag (at_stage at_reading e) r) y
    go false r (behind_voltage e) = absurd (passed_failed (voltage_alone st.edition st.units st.left st.steps (flags_of st) tag (at_stage at_voltage e)) r)

-- ---- each field of a step, by what it has passed
module _ (c : Bool) {st : State} {b : List ℕ} (f : First st b) where
  record ReadingRead : Type 0 where
    reading : ReadingSaid
    fits : ReadingFits c reading
    laid : b ≡ reading_field reading ++ drop (past b 0) b

  bits : (at : ℕ) → Bits (be 8 b at)
  bits at = be_below 8 b at f.bytes

  by_watts_lem : (t : Bool) (n : ℕ) → cond t 5 n ≡ 0 → (t ≡ false) × (n ≡ 0)
  by_watts_lem true n z = absurd (omega arith)
  by_watts_lem false n z = (refl, z)

  by_amps : (t : Bool) (n : ℕ) → cond t n 5 ≡ 0 → (t ≡ true) × (n ≡ 0)
  by_amps true n z = (refl, z)
  by_amps false n z = absurd (omega arith)

  reading_read : st.current ≡ c → is_reading (tag_at b 0) ≡ true → ReadingRead
  unfolding reading_field size_of kinds size_in value_of phases_at
  reading_read same r = go (one_of (tag_at b 0) 4 5 9 r)
    where
      go : (tag_at b 0 ≡ 4) ⊎ ((tag_at b 0 ≡ 5) ⊎ (tag_at b 0 ≡ 9)) → ReadingRead
      go (inl e) =
          let v = by_watts_lem st.current (refusal_of (Power (phases_at b 3))) (value_at f 4 e) in
          record {
            reading = powers (be 8 b 3) (be 8 b 11) (be 8 b 19);
            fits = ((bits 3, (bits 11, bits 19)), (sym same ∙ v.0, v.1));
            laid = phases_lie b 4 (lies_at f 4 e);
          }
      go (inr (inl e)) = record { reading = missing; fits = zero-le; laid = missing_lies b (lies_at f 5 e) }
      go (inr (inr e)) =
          let v = by_amps st.current (refusal_of (Current (phases_at b 3))) (value_at f 9 e) in
          record {
            reading = currents (be 8 b 3) (be 8 b 11) (be 8 b 19);
            fits = ((bits 3, (bits 11, bits 19)), (sym same ∙ v.0, v.1));
            laid = phases_lie b 9 (lies_at f 9 e);
          }

  clear : (s : Option Sun) → six_unless s ≡ 0 → s ≡ None → ⊥
  clear (Some s) z e = let q : ◌≡◌ {A = ℕ} 0 1 = cc in omega arith
  clear None z e = omega arith

  weather_read : tag_at b 0 ≡ 8 → (WeatherFits (weather (be 8 b 3) (be 8 b 11))) × (b ≡ weather_field (weather (be 8 b 3) (be 8 b 11)) ++ drop (past b 0) b)
  unfolding weather_field size_of kinds size_in value_of weather_at
  weather_read e = (((bits 3, bits 11), clear (sky_of (weather_at b 3)) (value_at f 8 e)), weather_lies b (lies_at f 8 e))

  voltage_read : (l : Leading) → st.led ≡ leads l → tag_at b 0 ≡ 12 → (VoltageFits l (Some (be 2 b 3))) × (b ≡ voltage_field (Some (be 2 b 3)) ++ drop (past b 0) b)
  unfolding voltage_field size_of kinds size_in value_of allowed stands_in
  voltage_read l same e =
      (go l (sym same ∙ (and_parts (begins st || only at_reading st) st.led (allows_at f 12 e)).1), voltage_lies b (lies_at f 12 e))
    where
      go : (l : Leading) → leads l ≡ true → VoltageFits l (Some (be 2 b 3))
      go unled t = absurd (passed_failed t refl)
      go (led g) t = accepted_test (voltage_in (be 2 b 3)) (value_at f 12 e)

  end_read : tag_at b 0 ≡ 127 → b ≡ end_field st.steps ++ drop (past b 0) b
  unfolding size_of kinds size_in value_of
  end_read e = end_lies b (lies_at f 127 e) ∙ ap (λ (n : ℕ). end_field n ++ drop (past b 0) b) (told (eqb (be 4 b 3) st.steps) refl (value_at f 127 e))
    where
      told : (t : Bool) → eqb (be 4 b 3) st.steps ≡ t → ◌≡◌ {A = ℕ} (cond t 0 7) 0 → be 4 b 3 ≡ st.steps
      told true t z = eqb-true (be 4 b 3) st.steps t
      told false t z = absurd (omega arith)

-- one list behind the other, in two ways
rejoined : (w v r steps end : List ℕ) {b rest : List ℕ} → b ≡ r ++ rest → rest ≡ steps ++ end → w ++ (v ++ b) ≡ ((w ++ (v ++ r)) ++ steps) ++ end
rejoined w v r steps end {b} {rest} e f = rw (e, f) (simp append_assoc)

-- ---- the steps, with the weather and the voltage of one that has begun
module _ (c : Bool) (l : Leading) where
  pub record Amid (st : State) (b : List ℕ) (w : WeatherSaid) (v : Option ℕ) : Type 0 where
    pub current : st.current ≡ c
    pub led : st.led ≡ leads l
    pub few : st.steps ≤ 65535
    pub weather : WeatherFits w
    pub voltage : VoltageFits l v
    pub waits : Waits st (tag_at b 0) w v

  pub record StepsRead (n : ℕ) (w : WeatherSaid) (v : Option ℕ) (b : List ℕ) : Type 0 where
    pub steps : List StepSaid
    pub few : n + length steps ≤ 65535
    pub each : Each (StepFits c l) steps
    pub laid : weather_field w ++ (voltage_field v ++ b) ≡ joined step_fields steps ++ end_field (n + length steps)

  -- of a step that has begun what follows tells the same steps
  told_on : {n m : ℕ} {w x : WeatherSaid} {v y : Option ℕ} {b c : List ℕ} → m ≡ n → weather_field w ++ (voltage_field v ++ b) ≡ weather_field x ++ (voltage_field y ++ c)
      → StepsRead m x y c → StepsRead n w v b
  told_on {n} {m} same e s =
      let few = s.few in
      record { steps = s.steps; few = omega arith; each = s.each; laid = e ∙ s.laid ∙ ap (λ (n : ℕ). joined step_fields s.steps ++ end_field (n + length s.steps)) same }

  -- one field more
  module _ {st : State} {b : List ℕ} (f : First st b) {w : WeatherSaid} {v : Option ℕ} (a : Amid st b w v) where
    after : State
    after = state_after st (tag_at b 0) b 3

    rest : List ℕ
    rest = drop (past b 0) b

    reading_amid : is_reading (tag_at b 0) ≡ true → Amid after rest no_weather None × (after.steps ≡ suc st.steps)
    unfolding after
    reading_amid r =
        let tag = tag_at b 0 in
        let less : st.steps < 65535 = step_counts st tag r f.few in
        let next = after_reading st tag b 3 (no_other tag 1 r refl) (no_other tag 2 r refl) (no_other tag 3 r refl) r in
        subst (λ (s : State). Amid s rest no_weather None × (s.steps ≡ suc st.steps)) next
        (record { current = a.current; led = a.led; few = omega arith; weather = zero-le; voltage = zero-le; waits = for_step refl refl refl }, omega arith)

    reading_on : is_reading (tag_at b 0) ≡ true → StepsRead after.steps no_weather None rest → StepsRead st.steps w v b
    unfolding rest weather_field voltage_field step_fields joined
    reading_on r s =
        let one = reading_read c f a.current r in
        let counted : after.steps ≡ suc st.steps = (reading_amid r).1 in
        let step : StepSaid = record { weather = w; voltage = v; reading = one.reading } in
        let total : after.steps + length s.steps ≡ st.steps + suc (length s.steps) = omega arith in
        let few = s.few in
        record {
          steps = step ∷ s.steps;
          few = omega arith;
          each = (record { weather = a.weather; voltage = a.voltage; reading = one.fits }, s.each);
          laid =
              rejoined (weather_field w) (voltage_field v) (reading_field one.reading) (joined step_fields s.steps) (end_field (st.steps + suc (length s.steps)))
              one.laid (s.laid ∙ ap (λ (n : ℕ). joined step_fields s.steps ++ end_field n) total);
        }

    weather_amid : tag_at b 0 ≡ 8 → Amid after rest (weather (be 8 b 3) (be 8 b 11)) None × (after.steps ≡ st.steps)
    unfolding after rest state_after roof_after
    weather_amid e =
        subst⁻¹ (λ (t : ℕ). Amid (state_after st t b 3) rest (weather (be 8 b 3) (be 8 b 11)) None × ((state_after st t b 3).steps ≡ st.steps)) e
        (record { current = a.current; led = a.led; few = a.few; weather = (weather_read c f e).0; voltage = zero-le; waits = behind_weather refl refl }, refl)

    weather_on : tag_at b 0 ≡ 8 → w ≡ no_weather → v ≡ None → StepsRead after.steps (weather (be 8 b 3) (be 8 b 11)) None rest → StepsRead st.steps w v b
    unfolding rest weather_field voltage_field
    weather_on e x u s = told_on (weather_amid e).1 (ap₂ (λ (w : WeatherSaid) (v : Option ℕ). weather_field w ++ (voltage_field v ++ b)) x u ∙ (weather_read c f e).1) s

    voltage_amid : tag_at b 0 ≡ 12 → Amid after rest w (Some (be 2 b 3)) × (after.steps ≡ st.steps)
    unfolding after rest state_after roof_after
    voltage_amid e =
        subst⁻¹ (λ (t : ℕ). Amid (state_after st t b 3) rest w (Some (be 2 b 3)) × ((state_after st t b 3).steps ≡ st.steps)) e
        (record { current = a.current; led = a.led; few = a.few; weather = a.weather; voltage = (voltage_read c f l a.led e).0; waits = behind_voltage refl }, refl)

    voltage_on : tag_at b 0 ≡ 12 → v ≡ None → StepsRead after.steps w (Some (be 2 b 3)) rest → StepsRead st.steps w v b
    unfolding rest weather_field voltage_field
    voltage_on e u s =
        told_on (voltage_amid e).1 (ap (λ (v : Option ℕ). weather_field w ++ (voltage_field v ++ b)) u ∙ ap (λ (t : List ℕ). weather_field w ++ t) (voltage_read c f l a.led e).1) s

    end_on : tag_at b 0 ≡ 127 → w ≡ no_weather → v ≡ None → Reads after rest → StepsRead st.steps w v b
    unfolding after rest weather_field voltage_field joined state_after roof_after
    end_on e x u more =
        let none : drop (past b 0) b ≡ [] = at_end_lem more (subst⁻¹ (λ (t : ℕ). (state_after st t b 3).stage ≡ 0) e refl) in
        let few = a.few in
        record {
          steps = [];
          few = omega arith;
          each = zero-le;
          laid =
              ap₂ (λ (w : WeatherSaid) (v : Option ℕ). weather_field w ++ (voltage_field v ++ b)) x u
              ∙ end_read c f e ∙ ap (λ (t : List ℕ). end_field st.steps ++ t) none ∙ append-nil (end_field st.steps) ∙ ap end_field (sym (add-zero st.steps));
        }

    -- by its tag, with what follows
    steps_by_lem : Reads after rest → ((w : WeatherSaid) (v : Option ℕ) → Amid after rest w v → StepsRead after.steps w v rest) → StepTag (tag_at b 0) w v → StepsRead st.steps w v b
    steps_by_lem here more (is_reading_lem r) = reading_on r (more no_weather None (reading_amid r).0)
    steps_by_lem here more (is_weather e x u) = weather_on e x u (more (weather (be 8 b 3) (be 8 b 11)) None (weather_amid e).0)
    steps_by_lem here more (is_voltage e u) = voltage_on e u (more w (Some (be 2 b 3)) (voltage_amid e).0)
    steps_by_lem here more (is_end e x u) = end_on e x u here

  -- at no such place do the fields end
  waits_more : (st : State) (tag : ℕ) (w : WeatherSaid) (v : Option ℕ) → Waits st tag w v → st.stage ≡ 0 → of_steps tag ≡ false → ⊥
  waits_more st tag w v (opened o x y) z n = passed_failed o n
  waits_more st tag w v (for_step e x y) z n = omega arith
  waits_more st tag w v (behind_function_lem e x y) z n = omega arith
  waits_more st tag w v (behind_weather e y) z n = omega arith
  waits_more st tag w v (behind_voltage e) z n = omega arith

  pub read_steps : {st : State} {b : List ℕ} → Reads st b → (w : WeatherSaid) (v : Option ℕ) → Amid st b w v → StepsRead st.steps w v b
  unfolding after rest be
  read_steps {st} {b} (ended z n) w v a = absurd (waits_more st (tag_at b 0) w v a.waits z (ap (λ (s : List ℕ). of_steps (tag_at s 0)) n))
  read_steps {st} {b} (reads f more) w v a = steps_by_lem f a more (λ w v a. read_steps more w v a) (step_tag st (tag_at b 0) w v f.allows a.waits)
