-- What a run file says of the fleet, once its bytes are read: the definitions of the run take a site and its steps, and never see bytes or places.
use Rattle.std.specs.Prelude.{ℕ, List, [], map, pos, length, get_or, None, Option}
use Rattle.reading.specs.declared.Reading.{Reading}
use Rattle.unit.specs.declared.Unit.{Unit}
use Rattle.lead.specs.Lead.{Leading}
use Rattle.solar.specs.declared.Sun.{Sun}
use Rattle.solar.specs.Weather.{dark}
use Rattle.solar.specs.Roof.{Roof}
use Rattle.site.specs.declared.Head.{Head}
use Rattle.site.specs.declared.Step.{Step}
use Rattle.site.specs.declared.Due.{Due}

-- edition, seconds of a step, settings with the phase choice; and the units
pub record Site : Type 0 where
  pub head : Head
  pub units : List Unit

-- how many units there are, and unit i; past the last there is one of no values
abbrev pub count : Site → ℕ
count site = length site.units

abbrev pub no_unit : Unit
no_unit = record {
  rated = 0;
  reserve = 0;
  stored = 0;
  rating = 0;
  kva = 0;
  dc_loss = 0;
  var_request = pos 0;
  weight = 0;
  inverter = 0;
  charge = 0;
  discharge = 0;
  priority = 0;
  provide = 0;
  absorb = 0;
  grid_loss = 0;
  link = 0;
}

abbrev pub unit_of : Site → ℕ → Unit
unit_of site i = get_or site.units i no_unit

-- one value of every unit
abbrev pub column : (Unit → ℕ) → Site → List ℕ
column value site = map value site.units

-- beside a site are its roofs, inverters with their curves: roof i; past the last there is one of no values
abbrev pub no_roof : Roof
no_roof = record {
  inverter = record { array = 0; kva = 0; cut_in = 0; cut_out = 0; limit = 0; var_request = pos 0; priority = 0 };
  warm = [];
  efficiency = [];
}

abbrev pub roof_of : List Roof → ℕ → Roof
roof_of roofs i = get_or roofs i no_roof

-- a whole plant: the site, its roofs, and the function that leads its vars, or none
pub record Plant : Type 0 where
  pub site : Site
  pub roofs : List Roof
  pub leading : Leading

-- what a step under way has before its reading: a sun and a voltage, at first neither
abbrev pub due : Sun → Option ℕ → Due
due s v = record { sun = s; voltage = v }

abbrev pub none_yet : Due
none_yet = due dark None

-- a step with its reading
abbrev pub step_with : Reading → Due → Step
step_with r d = record { reading = r; sun = d.sun; voltage = d.voltage }
