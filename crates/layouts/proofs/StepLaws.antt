-- The steps that are read of laid bytes: each step's fields are read as the step that was laid, and no other field is of a step. Assumes nothing.
use mathlib.Core.Path.{◌≡◌, refl, ap, ◌∙◌}
use mathlib.Core.Bool.{Bool, true, false, not, cond, ◌||◌}
use mathlib.Core.List.{List, [], ◌∷◌, ◌++◌, map, append_assoc}
use Prim.Native.Nat.{ℕ}
use lib.Dec.{eqb}
use Rattle.whole.proofs.Choice.{passed_failed}
use Rattle.reading.specs.declared.Reading.{Reading}
use Rattle.reading.specs.declared.Reading.TheVariants.{Power, Current}
use Rattle.solar.specs.declared.Sun.{Sun}
use Rattle.solar.specs.Weather.{sky_of, sun_or}
use Rattle.lead.specs.Lead.{Leading}
use Rattle.site.specs.declared.Step.{Step}
use Rattle.site.specs.declared.Due.{Due}
use Rattle.site.specs.Site.{due, none_yet, step_with}
use Rattle.fields.specs.Fields.{is_reading}
use Rattle.stick.specs.Site.{places_from, reading_at, sun_at, voltage_at, steps_in, steps_from}
use Rattle.layouts.specs.Written.{WeatherSaid, no_weather, weather, ReadingSaid, missing, powers, currents, StepSaid}
use Rattle.layouts.specs.Layout.{field, joined, weather_field, voltage_field, reading_field, step_fields}
use Rattle.layouts.specs.Ranges.{Each, WeatherFits, VoltageFits, ReadingFits, StepFits}
use Rattle.layouts.specs.Holds.{sun_said, reading_said, step_said}
use Rattle.layouts.proofs.SayLaws.{weather_says, voltage_says, phases_say}
use Rattle.layouts.proofs.FitLaws.{voltage_fits, weather_laid, voltage_laid, missing_laid, powers_laid, currents_laid}
use Rattle.layouts.proofs.FirstLaws.{reading_first, steps_by_first}
use Rattle.layouts.proofs.PassLaws.{step_flat, PassesFields}
use Rattle.std.proofs.Common.{None, Option, Some}

-- the steps of bytes, by what the step under way has
abbrev pub steps_by : List ℕ → Due → List Step
steps_by F d = steps_from F d 0

pub steps_none : (d : Due) → steps_by [] d ≡ []
unfolding steps_from places_from steps_in
steps_none d = refl

-- a field that no step has is passed
abbrev pub of_none : ℕ → Bool
of_none t = not (is_reading t || eqb t 0x08 || eqb t 0x0C)

pub passes_none : PassesFields steps_by of_none
passes_none t ns l o b = λ j d. (steps_by_first t ns l b d ∙ go d (is_reading t) (eqb t 0x08) (eqb t 0x0C) (reading_at (field t ns ++ b) 0) (sun_at (field t ns ++ b) 0) (voltage_at (field t ns ++ b) 0) o) j
  where
    go : (d : Due) (r w v : Bool) (x : Reading) (s : Sun) (y : Option ℕ) → not (r || w || v) ≡ true
        → let e = cond r none_yet (cond w (due s d.voltage) (cond v (due d.sun y) d)) in
        cond r (step_with x d ∷ steps_from b e 0) (steps_from b e 0) ≡ steps_from b d 0
    go d true w v x s y n = absurd (passed_failed n refl)
    go d false true v x s y n = absurd (passed_failed n refl)
    go d false false true x s y n = absurd (passed_failed n refl)
    go d false false false x s y n = refl

-- ---- a step's fields
module _ (b : List ℕ) where
  by_weather : (w : WeatherSaid) → WeatherFits w → steps_by (weather_field w ++ b) none_yet ≡ steps_by b (due (sun_said w) None)
  unfolding weather_field sun_at
  by_weather no_weather f = refl
  by_weather (weather i t) f =
      steps_by_first 0x08 _ (weather_laid i t) b none_yet ∙ ap (λ w. steps_from b (due (sun_or (sky_of w)) None) 0) (weather_says b i t f.0.0 f.0.1)

  by_voltage : (s : Sun) (l : Leading) (v : Option ℕ) → VoltageFits l v → steps_by (voltage_field v ++ b) (due s None) ≡ steps_by b (due s v)
  unfolding voltage_field voltage_at
  by_voltage s l None f = refl
  by_voltage s l (Some x) f = steps_by_first 0x0C _ (voltage_laid x) b (due s None) ∙ ap (λ (n : ℕ). steps_from b (due s (Some n)) 0) (voltage_says b x (voltage_fits l x f))

  by_reading : (current : Bool) (r : ReadingSaid) → ReadingFits current r → (d : Due) → steps_by (reading_field r ++ b) d ≡ step_with (reading_said r) d ∷ steps_by b none_yet
  unfolding reading_field
  by_reading current missing f d =
      steps_by_first 0x05 _ missing_laid b d ∙ ap (λ (x : Reading). step_with x d ∷ steps_by b none_yet) (reading_first 0x05 _ missing_laid b)
  by_reading current (powers x y z) f d =
      steps_by_first 0x04 _ (powers_laid x y z) b d
      ∙ ap (λ (x : Reading). step_with x d ∷ steps_by b none_yet) (reading_first 0x04 _ (powers_laid x y z) b ∙ ap Power (phases_say b 0x04 x y z f.0.0 f.0.1.0 f.0.1.1))
  by_reading current (currents x y z) f d =
      steps_by_first 0x09 _ (currents_laid x y z) b d
      ∙ ap (λ (x : Reading). step_with x d ∷ steps_by b none_yet) (reading_first 0x09 _ (currents_laid x y z) b ∙ ap Current (phases_say b 0x09 x y z f.0.0 f.0.1.0 f.0.1.1))

module _ (current : Bool) (l : Leading) where
  by_step : (s : StepSaid) → StepFits current l s → (b : List ℕ) → steps_by (step_fields s ++ b) none_yet ≡ step_said s ∷ steps_by b none_yet
  by_step s f b =
      let last = reading_field s.reading ++ b in
      ap (λ (F : List ℕ). steps_by F none_yet) (step_flat s b)
      ∙ by_weather (voltage_field s.voltage ++ last) s.weather f.weather
      ∙ by_voltage last (sun_said s.weather) l s.voltage f.voltage
      ∙ by_reading b current s.reading f.reading (due (sun_said s.weather) s.voltage)

  pub by_steps : (ss : List StepSaid) → Each (StepFits current l) ss → (b : List ℕ) → steps_by (joined step_fields ss ++ b) none_yet ≡ map step_said ss ++ steps_by b none_yet
  unfolding joined
  by_steps [] f b = refl
  by_steps (s ∷ ss) f b =
      ap (λ (F : List ℕ). steps_by F none_yet) (append_assoc (step_fields s) (joined step_fields ss) b)
      ∙ by_step s f.0 (joined step_fields ss ++ b)
      ∙ ap (λ (l : List Step). step_said s ∷ l) (by_steps ss f.1 b)
