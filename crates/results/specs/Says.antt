-- A result says its steps, units and inverters back (the layout of rules O1 to O5 read where its records stand), and two runs with different records have different
-- results. `result-law` and `same-law` prove it.
use Rattle.std.specs.Prelude.{ℕ, ◌+◌, ◌*◌, ◌<◌, Bool, cond, false, List, ◌≡◌, ℤ, pos, length, get_or, take}
use Rattle.std.specs.Float.{binary64}
use Rattle.std.specs.Float.Ieee.{of_bits}
use Rattle.std.specs.Int.{w32}
use Rattle.std.proofs.Common.{to_z}
use Rattle.octets.specs.BigEndian.{be}
use Rattle.reading.specs.declared.Reading.TheVariants.{Missing}
use Rattle.reading.specs.Kilowatts.{kw_of}
use Rattle.storage.specs.declared.Outcome.{Outcome}
use Rattle.solar.specs.declared.Given.{Given}
use Rattle.lead.specs.declared.Lead.{Lead}
use Rattle.site.specs.declared.Step.{Step}
use Rattle.site.specs.Site.{Plant, count, step_with, none_yet}
use Rattle.stick.specs.Check.{Accepted}
use Rattle.stick.specs.Site.{plant_of, steps_of}
use Rattle.fleet.specs.Step.{Stands, asked_by, given, step_bytes}
use Rattle.roofs.specs.Roofs.{lit}
use Rattle.stretch.specs.Stretch.{stands_first, stands_after, lead_in, all_bytes}
use Rattle.records.specs.Records.{record_bytes, roof_record_bytes, end_bytes}
use Rattle.season.specs.Run.{result_of}

-- ---- a record at a place
pub record UnitSays (result : List ℕ) (at step unit : ℕ) (request : ℤ) (o : Outcome) : Type 0 where
  pub tag_is : be 1 result at ≡ 0x11
  pub length_is : be 2 result (at + 1) ≡ 37
  pub step_is : be 4 result (at + 3) ≡ step
  pub unit_is : be 1 result (at + 7) ≡ unit
  pub request_is : to_z w32 (be 4 result (at + 8)) ≡ request
  pub power_is : of_bits binary64 (be 8 result (at + 12)) ≡ kw_of o.watts
  pub vars_is : to_z w32 (be 4 result (at + 20)) ≡ o.vars
  pub stored_is : be 8 result (at + 24) ≡ o.stored
  pub loss_is : be 8 result (at + 32) ≡ o.loss

pub record InverterSays (result : List ℕ) (at step inverter : ℕ) (g : Given) : Type 0 where
  pub tag_is : be 1 result at ≡ 0x12
  pub length_is : be 2 result (at + 1) ≡ 26
  pub step_is : be 4 result (at + 3) ≡ step
  pub inverter_is : be 1 result (at + 7) ≡ inverter
  pub on_is : be 1 result (at + 8) ≡ cond g.on 1 0
  pub power_is : of_bits binary64 (be 8 result (at + 9)) ≡ kw_of g.watts
  pub vars_is : to_z w32 (be 4 result (at + 17)) ≡ g.vars
  pub dc_is : be 8 result (at + 21) ≡ g.dc

pub record EndSays (result : List ℕ) (at steps : ℕ) : Type 0 where
  pub tag_is : be 1 result at ≡ 0x1F
  pub length_is : be 2 result (at + 1) ≡ 4
  pub steps_is : be 4 result (at + 3) ≡ steps
  pub last : at + end_bytes ≡ length result

-- ---- what a run comes to in step k: what stands before it, its step, what leads it; each unit's request and outcome, and what each inverter gives
module _ (p : Plant) (steps : List Step) (k : ℕ) where
  abbrev pub before : Stands
  before = stands_after p (stands_first p) (take k steps)

  abbrev pub step_at : Step
  step_at = get_or steps k (step_with Missing none_yet)

  abbrev pub lead_at : Lead
  lead_at = lead_in p step_at

  abbrev pub request_at : ℕ → ℤ
  request_at i = get_or (asked_by p.site before.units.stored before.units.requests step_at.reading) i (pos 0)

  abbrev pub outcome_at : ℕ → Outcome
  outcome_at i = given p.site lead_at i (get_or before.units.stored i 0) (request_at i) (get_or before.units.vars i (pos 0))

  abbrev pub given_at : ℕ → Given
  given_at i = lit p.roofs lead_at step_at.sun i (get_or before.on i false) (get_or before.vars i (pos 0))

-- ---- where the records of a result stand
abbrev pub unit_place : Plant → ℕ → ℕ → ℕ
unit_place p k i = all_bytes p * k + record_bytes * i

abbrev pub inverter_place : Plant → ℕ → ℕ → ℕ
inverter_place p k i = all_bytes p * k + step_bytes p.site + roof_record_bytes * i

-- of an accepted file: every record says what the run came to, and the end how many steps there were
pub record ResultLaw (file : List ℕ) : Type 0 where
  pub units : (k : ℕ) → k < length (steps_of file) → (i : ℕ) → i < count (plant_of file).site
      → UnitSays (result_of file) (unit_place (plant_of file) k i) k i (request_at (plant_of file) (steps_of file) k i) (outcome_at (plant_of file) (steps_of file) k i)
  pub inverters : (k : ℕ) → k < length (steps_of file) → (i : ℕ) → i < length (plant_of file).roofs
      → InverterSays (result_of file) (inverter_place (plant_of file) k i) k i (given_at (plant_of file) (steps_of file) k i)
  pub ends : EndSays (result_of file) (all_bytes (plant_of file) * length (steps_of file)) (length (steps_of file))

-- ---- two records that say the same; a power as it is written, in kW
pub record AlikeUnit (request : ℤ) (o : Outcome) (request' : ℤ) (o' : Outcome) : Type 0 where
  pub same_request : request ≡ request'
  pub same_power : kw_of o.watts ≡ kw_of o'.watts
  pub same_vars : o.vars ≡ o'.vars
  pub same_stored : o.stored ≡ o'.stored
  pub same_loss : o.loss ≡ o'.loss

pub record AlikeInverter (g g' : Given) : Type 0 where
  pub same_on : g.on ≡ g'.on
  pub same_power : kw_of g.watts ≡ kw_of g'.watts
  pub same_vars : g.vars ≡ g'.vars
  pub same_dc : g.dc ≡ g'.dc

-- of two accepted files with one result: as many steps and, where there is one, as many units and inverters; and every record says the same
pub record SameLaw (file other : List ℕ) : Type 0 where
  pub steps : length (steps_of file) ≡ length (steps_of other)
  pub counts : 0 < length (steps_of file) → (count (plant_of file).site ≡ count (plant_of other).site) × (length (plant_of file).roofs ≡ length (plant_of other).roofs)
  pub units : (k : ℕ) → k < length (steps_of file) → (i : ℕ) → i < count (plant_of file).site
      → AlikeUnit (request_at (plant_of file) (steps_of file) k i) (outcome_at (plant_of file) (steps_of file) k i)
      (request_at (plant_of other) (steps_of other) k i) (outcome_at (plant_of other) (steps_of other) k i)
  pub inverters : (k : ℕ) → k < length (steps_of file) → (i : ℕ) → i < length (plant_of file).roofs
      → AlikeInverter (given_at (plant_of file) (steps_of file) k i) (given_at (plant_of other) (steps_of other) k i)

-- the theorems: of every accepted file, and of every two whose results are the same
abbrev pub ResultTheorem : Type 0
ResultTheorem = (file : List ℕ) → Accepted file → ResultLaw file

abbrev pub SameTheorem : Type 0
SameTheorem = (file other : List ℕ) → Accepted file → Accepted other → result_of file ≡ result_of other → SameLaw file other
