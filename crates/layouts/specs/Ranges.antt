-- What a run file may say: each value in its range, as docs/LAYOUTS.md has it.
use Rattle.std.specs.Prelude.{ℕ, ◌≤◌, ◌<◌, ◌^◌, Bool, true, false, List, [], ◌∷◌, ◌⊎◌, ◌≡◌, length, None, Option, Some}
use Rattle.std.specs.Float.{binary64}
use Rattle.std.specs.Float.Ieee.{of_bits}
use Rattle.whole.specs.Interval.{between}
use Rattle.unit.specs.declared.Unit.{Unit}
use Rattle.unit.specs.Ranges.{unit_in, in_edition, own_limits, edition_in, seconds_in, connection_in}
use Rattle.rules.specs.Ranges.{settings_in}
use Rattle.rules.specs.Rules.{by_current}
use Rattle.reading.specs.declared.Phases.{Phases}
use Rattle.reading.specs.declared.Reading.TheVariants.{Power, Current}
use Rattle.reading.specs.Choice.{refusal_of}
use Rattle.solar.specs.declared.Weather.{Weather}
use Rattle.solar.specs.Roof.{Roof, roof_in}
use Rattle.solar.specs.Weather.{sky_of}
use Rattle.lead.specs.Lead.{Leading, unled, led, voltage_in}
use Rattle.site.specs.Ranges.{Guided}
use Rattle.layouts.specs.Written.{Connection, WeatherSaid, no_weather, weather, ReadingSaid, missing, powers, currents, StepSaid, Stick}
use Rattle.layouts.specs.Layout.{laid_out}

-- of every one of a list
abbrev pub Each {ℓ} : {A : Type ℓ} → (A → Type 0) → List A → Type 0
Each P [] = 0 ≤ 0
Each P (x ∷ xs) = P x × Each P xs

-- a unit of an edition, with its idle loss as its DC loss: in its ranges, and with nothing that its field has no place for
pub record UnitFits (edition : ℕ) (u : Unit) : Type 0 where
  pub inside : unit_in (in_edition edition u) ≡ true
  pub loss : u.dc_loss ≤ 10000000
  pub grid : u.grid_loss ≡ 0
  pub link : u.link ≡ 0
  pub limits : own_limits edition ≡ false → (u.provide ≡ u.kva) × (u.absorb ≡ u.kva)

-- the connections: by current one for each unit, by watts that or none
abbrev pub Connected : Bool → ℕ → List Connection → Type 0
Connected current count cs =
    ((cs ≡ []) × (current ≡ false))
    ⊎ ((length cs ≡ count) × Each (λ (c : Connection). connection_in c.phases c.volts ≡ true) cs)

-- three doubles of 64 bits, and two
abbrev pub phases_of : ℕ → ℕ → ℕ → Phases
phases_of a b c = record { first = of_bits binary64 a; second = of_bits binary64 b; third = of_bits binary64 c }

abbrev pub sky_bits : ℕ → ℕ → Weather
sky_bits irradiance temperature = record { irradiance = of_bits binary64 irradiance; temperature = of_bits binary64 temperature }

abbrev pub Bits : ℕ → Type 0
Bits n = n < 2 ^ 64

-- a step: what converts, a voltage only under a function, powers by watts and currents by current
abbrev pub WeatherFits : WeatherSaid → Type 0
WeatherFits no_weather = 0 ≤ 0
WeatherFits (weather i t) = (Bits i × Bits t) × (sky_of (sky_bits i t) ≡ None → ⊥)

abbrev pub VoltageFits : Leading → Option ℕ → Type 0
VoltageFits l None = 0 ≤ 0
VoltageFits unled (Some x) = ⊥
VoltageFits (led f) (Some x) = voltage_in x ≡ true

abbrev pub ReadingFits : Bool → ReadingSaid → Type 0
ReadingFits current missing = 0 ≤ 0
ReadingFits current (powers a b c) = (Bits a × (Bits b × Bits c)) × ((current ≡ false) × (refusal_of (Power (phases_of a b c)) ≡ 0))
ReadingFits current (currents a b c) = (Bits a × (Bits b × Bits c)) × ((current ≡ true) × (refusal_of (Current (phases_of a b c)) ≡ 0))

pub record StepFits (current : Bool) (l : Leading) (s : StepSaid) : Type 0 where
  pub weather : WeatherFits s.weather
  pub voltage : VoltageFits l s.voltage
  pub reading : ReadingFits current s.reading

pub record Fits (s : Stick) : Type 0 where
  pub edition : edition_in s.head.edition ≡ true
  pub count : between 1 64 (length s.units) ≡ true
  pub seconds : seconds_in s.head.seconds ≡ true
  pub units : Each (UnitFits s.head.edition) s.units
  pub settings : settings_in s.head.settings ≡ true
  pub phase : s.head.phase ≤ 5
  pub connections : Connected (by_current s.head.settings.mode) (length s.units) s.connections
  pub roofs : length s.roofs ≤ 64
  pub roofs_in : Each (λ (r : Roof). roof_in r ≡ true) s.roofs
  pub leading : Guided s.leading
  pub steps : length s.steps ≤ 65535
  pub steps_in : Each (StepFits (by_current s.head.settings.mode) s.leading) s.steps
  pub size : length (laid_out s) ≤ 2097152
