-- What is kept of a run between two of its chunks (rule E1): nothing else of the bytes that have come is needed to go on.
use Rattle.std.specs.Prelude.{ℕ, Bool, ◌||◌, List, [], eqb}
use Rattle.site.specs.declared.Due.{Due}
use Rattle.site.specs.Site.{none_yet}
use Rattle.fields.specs.declared.State.{State}
use Rattle.fields.specs.Fields.{at_end, at_steps, at_reading, at_voltage}
use Rattle.stick.specs.Check.{start}
use Rattle.fleet.specs.Step.{Stands, standing}

-- the bytes taken, the tail among them; the state between two fields; the site part; what the step under way has so far; what stands, once the steps have
-- begun; and the tail, the beginning of a field
pub record Kept : Type 0 where
  pub place : ℕ
  pub state : State
  pub site : List ℕ
  pub due : Due
  pub stands : Stands
  pub tail : List ℕ

-- the steps have begun: a field of a step or the end field has come
abbrev pub begun_at : ℕ → Bool
begun_at stage = eqb stage at_end || eqb stage at_steps || eqb stage at_reading || eqb stage at_voltage

abbrev pub begun : State → Bool
begun st = begun_at st.stage

-- nothing stands yet
abbrev pub no_standing : Stands
no_standing = record { units = standing [] [] []; on = []; vars = [] }

-- before any byte
abbrev pub at_start : Kept
at_start = record { place = 0; state = start; site = []; due = none_yet; stands = no_standing; tail = [] }
