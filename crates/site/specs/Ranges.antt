-- A site, roofs and a function in their ranges: what a run may count on.
use Rattle.std.specs.Prelude.{ℕ, ◌≤◌, ◌<◌, true, List, ◌≡◌, length}
use Rattle.rules.specs.Ranges.{settings_in}
use Rattle.solar.specs.Roof.{Roof, roof_in}
use Rattle.unit.specs.Ranges.{unit_in, seconds_in}
use Rattle.lead.specs.Lead.{Leading, unled, led, function_in}
use Rattle.site.specs.Site.{Site, count, unit_of, roof_of}

pub record Sited (site : Site) : Type 0 where
  pub some : 1 ≤ count site
  pub few : count site ≤ 64
  pub seconds : seconds_in site.head.seconds ≡ true
  pub settings : settings_in site.head.settings ≡ true
  pub phase : site.head.phase ≤ 5
  pub units : (i : ℕ) → i < count site → unit_in (unit_of site i) ≡ true
  pub links : (i : ℕ) → i < count site → (unit_of site i).link ≤ 120000

-- at most 64 roofs, each in its ranges
pub record Roofed (roofs : List Roof) : Type 0 where
  pub few : length roofs ≤ 64
  pub each : (i : ℕ) → i < length roofs → roof_in (roof_of roofs i) ≡ true

-- no function, or one in its ranges
abbrev pub Guided : Leading → Type 0
Guided unled = 0 ≤ 0
Guided (led f) = function_in f ≡ true
