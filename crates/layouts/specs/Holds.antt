-- The layouts as one theorem: every stick that fits is accepted as it is laid out, and every accepted file is a stick that fits, laid out. `laid-law` and `read-law` prove it.
use Rattle.std.specs.Prelude.{ℕ, ◌<◌, Bool, cond, List, [], ◌∷◌, map, ◌≡◌, length, get_or}
use Rattle.whole.specs.Over.{each}
use Rattle.unit.specs.declared.Unit.{Unit}
use Rattle.unit.specs.Ranges.{in_edition, link_of, linked}
use Rattle.reading.specs.declared.Reading.{Reading}
use Rattle.reading.specs.declared.Reading.TheVariants.{Missing, Power, Current}
use Rattle.solar.specs.declared.Sun.{Sun}
use Rattle.solar.specs.Weather.{dark, sky_of, sun_or}
use Rattle.site.specs.declared.Step.{Step}
use Rattle.site.specs.Site.{Site, Plant}
use Rattle.stick.specs.Check.{Answer, answer, check_of, Accepted}
use Rattle.stick.specs.Site.{plant_of, steps_of}
use Rattle.layouts.specs.Written.{Connection, WeatherSaid, no_weather, weather, ReadingSaid, missing, powers, currents, StepSaid, Stick}
use Rattle.layouts.specs.Layout.{laid_out}
use Rattle.layouts.specs.Ranges.{phases_of, sky_bits, Fits}

-- ---- what a stick comes to, as the run takes it: the site with its links, its roofs and its function; and the steps
abbrev pub link_at : List Connection → ℕ → ℕ
link_at [] i = 0
link_at (c ∷ cs) i = let d = get_or (c ∷ cs) i (record { phases = 0; volts = 0 }) in link_of d.phases d.volts

abbrev pub plant_said : Stick → Plant
plant_said s = record {
  site = record {
    head = s.head;
    units = each (λ (i : ℕ) (u : Unit). linked u (link_at s.connections i)) (map (in_edition s.head.edition) s.units);
  };
  roofs = s.roofs;
  leading = s.leading;
}

abbrev pub sun_said : WeatherSaid → Sun
sun_said no_weather = dark
sun_said (weather i t) = sun_or (sky_of (sky_bits i t))

abbrev pub reading_said : ReadingSaid → Reading
reading_said missing = Missing
reading_said (powers a b c) = Power (phases_of a b c)
reading_said (currents a b c) = Current (phases_of a b c)

abbrev pub step_said : StepSaid → Step
step_said s = record { reading = reading_said s.reading; sun = sun_said s.weather; voltage = s.voltage }

-- ---- no good file is refused, and what it says is read
pub record LaidLaw (s : Stick) : Type 0 where
  pub accepted : check_of (laid_out s) ≡ answer 0 (length (laid_out s)) (length s.steps)
  pub plant : plant_of (laid_out s) ≡ plant_said s
  pub steps : steps_of (laid_out s) ≡ map step_said s.steps
  -- no file says two things
  pub alone : (t : Stick) → Fits t → laid_out t ≡ laid_out s → t ≡ s

-- ---- every accepted file is one that is laid out
pub record ReadLaw (file : List ℕ) : Type 0 where
  pub stick : Stick
  pub fits : Fits stick
  pub laid : laid_out stick ≡ file

-- the theorems: of every stick that fits, and of every accepted file, whose numbers are bytes
abbrev pub LaidTheorem : Type 0
LaidTheorem = (s : Stick) → Fits s → LaidLaw s

abbrev pub ReadTheorem : Type 0
ReadTheorem = (file : List ℕ) → ((i : ℕ) → get_or file i 0 < 256) → Accepted file → ReadLaw file
