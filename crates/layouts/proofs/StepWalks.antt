-- The steps and the end are taken where they are laid: a weather where a step begins, a voltage under a function, a reading by the mode, and an end that counts the steps. Assumes nothing.
use mathlib.Core.Path.{◌≡◌, refl, sym, ap, ap₂, ◌∙◌}
use mathlib.Core.Bool.{Bool, cond, ◌&&◌, ◌||◌}
use mathlib.Core.List.{List, [], ◌∷◌, ◌++◌}
use Prim.Native.Nat.{ℕ, suc, ◌+◌, ◌≤◌, ◌<◌}
use native.Mathlib.Omega.{arith}
use lib.ListN.{length}
use borrow.Author.Tests.{lt-leb, eq-eqb}
use Rattle.octets.specs.BigEndian.{be}
use Rattle.reading.specs.declared.Phases.{Phases}
use Rattle.reading.specs.declared.Reading.TheVariants.{Power, Current}
use Rattle.reading.specs.Choice.{refusal_of}
use Rattle.solar.specs.declared.Weather.{Weather}
use Rattle.solar.specs.Weather.{sky_of}
use Rattle.lead.specs.Lead.{Leading, unled, led, voltage_in}
use Rattle.fields.specs.declared.State.{State}
use Rattle.fields.specs.Fields.{at_end, at_steps, at_reading, at_voltage, begins, closes, only, kinds, size_in, size_of, stands_in, allowed, six_unless, five_unless, value_of, gone_to, roof_after, state_after}
use Rattle.layouts.specs.Written.{WeatherSaid, no_weather, weather, ReadingSaid, missing, powers, currents, StepSaid}
use Rattle.layouts.specs.Layout.{size, joined, weather_field, voltage_field, reading_field, step_fields, end_field}
use Rattle.layouts.specs.Ranges.{Each, WeatherFits, VoltageFits, ReadingFits, StepFits}
use Rattle.layouts.proofs.SayLaws.{weather_says, voltage_says, phases_say, end_says}
use Rattle.layouts.proofs.FitLaws.{voltage_fits, weather_laid, voltage_laid, missing_laid, powers_laid, currents_laid, end_laid}
use Rattle.layouts.proofs.WalkLaws.{Walks, walks_none, walks_append, walks_field, leads, Stands, stands_as, stands_gone}
use Rattle.std.proofs.Common.{None, Option, Some}
use Rattle.solar.specs.declared.Sun.{Sun}

-- where a voltage or a reading may stand
abbrev ready : State → Bool
ready st = begins st || only at_reading st

clear : (k : Option Sun) → (k ≡ None → ⊥) → six_unless k ≡ 0
clear (Some s) n = refl
clear None n = absurd (n refl)

weather_walks : (amps guided : Bool) (n : ℕ) (w : WeatherSaid) (st : State) → Stands begins amps guided n st → WeatherFits w
    → (m : State) × (Walks st (weather_field w) m × Stands ready amps guided n m)
unfolding weather_field kinds size_in size_of size stands_in allowed value_of roof_after state_after
weather_walks amps guided n no_weather st s f =
    (st, (walks_none, stands_as (ap (λ (b : Bool). b || only at_reading st) s.passes) s))
weather_walks amps guided n (weather i t) st s f =
    let m = gone_to st at_reading st.left st.steps in
    let value = ap (λ (w : Weather). six_unless (sky_of w)) (weather_says [] i t f.0.0 f.0.1) ∙ clear _ f.1 in
    (m, (walks_field st 8 _ (weather_laid i t) refl s.awake s.passes refl value m refl, stands_gone at_reading st.left refl refl s))

voltage_walks : (amps : Bool) (n : ℕ) (l : Leading) (v : Option ℕ) (st : State) → Stands ready amps (leads l) n st → VoltageFits l v
    → (m : State) × (Walks st (voltage_field v) m × Stands closes amps (leads l) n m)
unfolding voltage_field kinds size_in size_of size stands_in allowed value_of roof_after state_after
voltage_walks amps n l None st s f =
    (st, (walks_none, stands_as (ap (λ (b : Bool). b || only at_voltage st) s.passes) s))
voltage_walks amps n unled (Some x) st s f = absurd f
voltage_walks amps n (led g) (Some x) st s f =
    let m = gone_to st at_voltage st.left st.steps in
    let value = ap five_unless (ap voltage_in (voltage_says [] x (voltage_fits (led g) x f)) ∙ f) in
    (m, (walks_field st 12 _ (voltage_laid x) refl s.awake (ap₂ ◌&&◌ s.passes s.led) refl value m refl, stands_gone at_voltage st.left refl refl s))

reading_walks : (amps guided : Bool) (n : ℕ) (r : ReadingSaid) (st : State) → Stands closes amps guided n st → n < 65535 → ReadingFits amps r
    → Walks st (reading_field r) (gone_to st at_steps st.left (st.steps + 1))
unfolding reading_field kinds size_in size_of size stands_in allowed value_of state_after
reading_walks amps guided n missing st s few f =
    walks_field st 5 _ missing_laid refl s.awake s.passes (lt-leb 65535 st.steps (omega arith)) refl (gone_to st at_steps st.left (st.steps + 1)) refl
reading_walks amps guided n (powers a b c) st s few f =
    let said = ap (λ (p : Phases). refusal_of (Power p)) (phases_say [] 4 a b c f.0.0 f.0.1.0 f.0.1.1) in
    let value = ap₂ (λ (t : Bool) (k : ℕ). cond t 5 k) (s.current ∙ f.1.0) (said ∙ f.1.1) in
    walks_field st 4 _ (powers_laid a b c) refl s.awake s.passes (lt-leb 65535 st.steps (omega arith)) value (gone_to st at_steps st.left (st.steps + 1)) refl
reading_walks amps guided n (currents a b c) st s few f =
    let said = ap (λ (p : Phases). refusal_of (Current p)) (phases_say [] 9 a b c f.0.0 f.0.1.0 f.0.1.1) in
    let value = ap₂ (λ (t : Bool) (k : ℕ). cond t k 5) (s.current ∙ f.1.0) (said ∙ f.1.1) in
    walks_field st 9 _ (currents_laid a b c) refl s.awake s.passes (lt-leb 65535 st.steps (omega arith)) value (gone_to st at_steps st.left (st.steps + 1)) refl

-- ---- a step, and all of them
step_walks : (amps : Bool) (n : ℕ) (l : Leading) (x : StepSaid) (st : State) → Stands begins amps (leads l) n st → n < 65535 → StepFits amps l x
    → (m : State) × (Walks st (step_fields x) m × Stands begins amps (leads l) (n + 1) m)
unfolding step_fields
step_walks amps n l x st s few f =
    let (sky, (walks₁, ready)) = weather_walks amps (leads l) n x.weather st s f.weather in
    let (volts, (walks₂, closes)) = voltage_walks amps n l x.voltage sky ready f.voltage in
    let walks₃ = reading_walks amps (leads l) n x.reading volts closes few f.reading in (
      gone_to volts at_steps volts.left (volts.steps + 1),
      (
        walks_append walks₁ (walks_append walks₂ walks₃),
        record { passes = refl; awake = refl; current = closes.current; led = closes.led; steps = ap (λ (k : ℕ). k + 1) closes.steps },
      ),
    )

pub steps_walk : (amps : Bool) (n : ℕ) (l : Leading) (xs : List StepSaid) (st : State) → Stands begins amps (leads l) n st → n + length xs ≤ 65535 → Each (StepFits amps l) xs
    → (m : State) × (Walks st (joined step_fields xs) m × Stands begins amps (leads l) (n + length xs) m)
unfolding joined
steps_walk amps n l [] st s few f =
    let none : n ≡ n + 0 = omega arith in
    (st, (walks_none, record { passes = s.passes; awake = s.awake; current = s.current; led = s.led; steps = s.steps ∙ none }))
steps_walk amps n l (x ∷ xs) st s few f =
    let (one, (walks, stands)) = step_walks amps n l x st s (omega arith) f.0 in
    let (m, (more, ends)) = steps_walk amps (n + 1) l xs one stands (omega arith) f.1 in
    let count : n + 1 + length xs ≡ n + suc (length xs) = omega arith in
    (m, (walks_append walks more, record { passes = ends.passes; awake = ends.awake; current = ends.current; led = ends.led; steps = ends.steps ∙ count }))

-- ---- the end, which counts them
pub end_walks : (amps guided : Bool) (n : ℕ) (st : State) → Stands begins amps guided n st → n ≤ 65535 → Walks st (end_field n) (gone_to st at_end st.left st.steps)
unfolding end_field kinds size_in size_of size stands_in allowed value_of roof_after state_after
end_walks amps guided n st s few =
    let counts = eq-eqb (be 4 (end_field n ++ []) 3) st.steps (end_says [] n (omega arith) ∙ sym s.steps) in
    walks_field st 127 _ (end_laid n) refl s.awake s.passes refl (ap (λ (b : Bool). cond b 0 7) counts)
    (gone_to st at_end st.left st.steps) refl
