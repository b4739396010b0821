-- What a run file says, in the order in which it says it: its values as people would write them down. A double stands by its 64 bits, as it lies in the file.
use Rattle.std.specs.Prelude.{ℕ, ◌*◌, List, [], Option}
use Rattle.unit.specs.declared.Unit.{Unit}
use Rattle.solar.specs.Roof.{Roof}
use Rattle.lead.specs.Lead.{Leading}
use Rattle.site.specs.declared.Head.{Head}

-- a unit's connection
pub record Connection : Type 0 where
  pub phases : ℕ
  pub volts : ℕ

-- the weather before a reading, or none: irradiance and temperature
pub data WeatherSaid : Type 0 where
  no_weather : WeatherSaid
  weather : ℕ → ℕ → WeatherSaid

-- a reading that is missing, three powers, or three currents
pub data ReadingSaid : Type 0 where
  missing : ReadingSaid
  powers : ℕ → ℕ → ℕ → ReadingSaid
  currents : ℕ → ℕ → ℕ → ReadingSaid

pub record StepSaid : Type 0 where
  pub weather : WeatherSaid
  pub voltage : Option ℕ
  pub reading : ReadingSaid

-- the whole of it. A unit's idle loss stands as its DC loss, wherever its edition puts it; the connections are none, or one for each unit
pub record Stick : Type 0 where
  pub head : Head
  pub units : List Unit
  pub connections : List Connection
  pub roofs : List Roof
  pub leading : Leading
  pub steps : List StepSaid
