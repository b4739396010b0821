-- What a file says, asked of any bytes (rules C8 to C12, C18 and C31): of an accepted file its number of units and of inverters, its seconds, its head, a unit, a unit's
-- connection, and the study over its fleet; of any other file nothing, or the check's refusal. What is refused of an accepted file has place 0 and steps 0 (rule C3).
use Rattle.std.specs.Prelude.{ℕ, cond, ◌&&◌, List, map, leb, ltb, eqb, ℤ, length, Err, Ok, Result}
use Rattle.whole.specs.Call.{Call, refusal}
use Rattle.unit.specs.declared.Unit.{Unit}
use Rattle.members.specs.Ranges.{Fleet, fleet_for}
use Rattle.settling.specs.declared.Trial.{Trial}
use Rattle.settling.specs.Answers.{study_answer, study_leaves}
use Rattle.site.specs.declared.Head.{Head}
use Rattle.site.specs.Site.{count, unit_of}
use Rattle.stick.specs.Check.{check_of, refusal_by}
use Rattle.octets.specs.BigEndian.{be}
use Rattle.fields.specs.Fields.{phases_in, volts_in}
use Rattle.stick.specs.Site.{places_of, having, value_of_first, connections_of, site_of, roofs_of}
use Rattle.ask.specs.declared.Connection.{Connection}
use Rattle.whole.specs.declared.Refusal.{Refusal}
use Rattle.settling.specs.declared.Studied.{Studied}

-- a number of an accepted file, 0 of any other
abbrev pub or_zero : List ℕ → ℕ → ℕ
or_zero file n = cond (eqb (check_of file).number 0) n 0

unfoldable pub units_said : List ℕ → ℕ
unfolding check_of site_of
units_said file = or_zero file (count (site_of file))

unfoldable pub inverters_said : List ℕ → ℕ
unfolding check_of roofs_of
inverters_said file = or_zero file (length (roofs_of file))

unfoldable pub seconds_said : List ℕ → ℕ
unfolding check_of site_of
seconds_said file = or_zero file (site_of file).head.seconds

-- the head, or the check's refusal
unfoldable pub head_answer : List ℕ → Result Head Refusal
unfolding check_of site_of
head_answer file =
    let said = Ok (site_of file).head in
    cond (eqb (check_of file).number 0) said (Err (refusal_by (check_of file)))

-- a unit, or the check's refusal, or 10 for a number outside the fleet
unfoldable pub unit_answer : List ℕ → ℕ → Result Unit Refusal
unfolding check_of site_of
unit_answer file i =
    let said = Ok (unit_of (site_of file) i) in
    cond (eqb (check_of file).number 0) (cond (ltb i (count (site_of file))) said (Err (refusal 10))) (Err (refusal_by (check_of file)))

-- a unit's connection, or the check's refusal, or 10 for a number outside the fleet or where the file has no connections
unfoldable pub connection_of : List ℕ → ℕ → Connection
unfolding places_of having be
connection_of file i = record { phases = phases_in file (value_of_first 0x0A file) i; volts = volts_in file (value_of_first 0x0A file) i }

unfoldable pub connection_answer : List ℕ → ℕ → Result Connection Refusal
unfolding check_of site_of connections_of connection_of
connection_answer file i =
    let said = Ok (connection_of file i) in
    cond (eqb (check_of file).number 0)
    (cond (ltb i (count (site_of file)) && leb 1 (length (connections_of file))) said (Err (refusal 10)))
    (Err (refusal_by (check_of file)))

-- ---- the study over a file's fleet, with what its units hold, and its settings: the check's refusal, then as a study without a file
abbrev pub fleet_said : List ℕ → Fleet
fleet_said file = fleet_for (site_of file).units (map (λ (u : Unit). u.stored) (site_of file).units)

abbrev pub trial_said : List ℕ → ℤ → ℕ → Trial
trial_said file load budget = record { settings = (site_of file).head.settings; load = load; budget = budget }

unfoldable pub file_study : List ℕ → ℤ → ℕ → List ℤ → Result Studied Refusal
unfolding check_of site_of study_answer
file_study file load budget rs =
    let studied = study_answer (trial_said file load budget) (fleet_said file) rs in
    cond (eqb (check_of file).number 0) studied (Err (refusal_by (check_of file)))

unfoldable pub file_study_leaves : List ℕ → ℤ → ℕ → List ℤ → List ℤ
unfolding check_of site_of study_leaves
file_study_leaves file load budget rs =
    let left = study_leaves (trial_said file load budget) (fleet_said file) rs in
    cond (eqb (check_of file).number 0) left rs
