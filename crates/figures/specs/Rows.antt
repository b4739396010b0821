-- How an answer becomes a row of numbers: the refusal's number (0 where there is none), its place and its steps, and then the values. A kW figure stands by
-- its bit pattern.
use Rattle.std.specs.Prelude.{List, [], ◌∷◌, ◌++◌, map, ℕ, ℤ, pos, Bool, false, cond, replicate, Err, Ok, Result}
use Rattle.std.specs.Float.{binary64}
use Rattle.std.specs.Float.Ieee.{of_bits}
use Rattle.whole.specs.Call.{Call}
use Rattle.octets.specs.BigEndian.{bytes_of}
use Rattle.unit.specs.declared.Unit.{Unit}
use Rattle.reading.specs.Conversion.{watts_of, watts_call}
use Rattle.reading.specs.Choice.{measure_of}
use Rattle.rules.specs.declared.Settings.{Settings}
use Rattle.controller.specs.declared.Passed.{Passed}
use Rattle.members.specs.Ranges.{Fleet, fleet_linked, links_of}
use Rattle.controller.specs.Answers.{pass_answer, pass_leaves, current_answer, current_leaves}
use Rattle.settling.specs.declared.Trial.{Trial}
use Rattle.settling.specs.declared.Studied.{Studied}
use Rattle.settling.specs.Answers.{study_answer, study_leaves}
use Rattle.storage.specs.declared.Outcome.{Outcome}
use Rattle.storage.specs.Step.{stepped_of}
use Rattle.stick.specs.Check.{Answer, field_at, taken_call, check_of}
use Rattle.fields.specs.declared.State.{State}
use Rattle.fields.specs.Fields.{flags, at_steps, state_of}
use Rattle.season.specs.Answers.{run_answer, run_leaves}
use Rattle.whole.specs.declared.Refusal.{Refusal}

-- for each row the answer that the definitions of the crates below give, and the one that is stated
pub record Row : Type 0 where
  pub given : List ℤ
  pub stated : List ℤ

abbrev pub row : List ℤ → List ℤ → Row
row g s = record { given = g; stated = s }

-- ---- what is stated: values, or a refusal with its place and steps; and one of a call without a file
abbrev pub values : List ℤ → List ℤ
values vs = pos 0 ∷ pos 0 ∷ pos 0 ∷ vs

abbrev pub refused_at : ℕ → ℕ → ℕ → List ℤ
refused_at n place steps = pos n ∷ pos place ∷ pos steps ∷ []

abbrev pub refused : ℕ → List ℤ
refused n = refused_at n 0 0

-- ---- what is given: a call's answer
abbrev pub said : {A : Type 0} → (A → List ℤ) → Call A → List ℤ
said of (Ok a) = values (of a)
said of (Err r) = refused_at r.number r.place r.steps

abbrev pub one : ℤ → List ℤ
one z = z ∷ []

abbrev pub flag : Bool → ℤ
flag b = pos (cond b 1 0)

-- the conversion of a kW double
unfoldable pub kilowatts : ℕ → List ℤ
unfolding watts_of of_bits
kilowatts bits = said one (watts_call (watts_of (of_bits binary64 bits)))

-- the measure of three kW doubles by each of these phase choices
unfoldable pub measures : List ℕ → ℕ → ℕ → ℕ → List ℤ
unfolding measure_of of_bits
measures [] a b c = []
measures (phase ∷ phases) a b c =
    said one (measure_of (record { first = of_bits binary64 a; second = of_bits binary64 b; third = of_bits binary64 c }) phase) ++ measures phases a b c

-- a pass: need, 1 where a request changed, and then what the requests are; one by current, of units with these phases and volts
abbrev pub passed : Result Passed Refusal → List ℤ → List ℤ
passed a rs = said (λ (p : Passed). p.need ∷ flag p.changed ∷ []) a ++ rs

unfoldable pub pass : Settings → ℤ → Fleet → List ℤ → List ℤ
unfolding pass_answer pass_leaves
pass s m f rs = passed (pass_answer s m f rs) (pass_leaves s m f rs)

unfoldable pub pass_current : Settings → ℤ → Fleet → List ℕ → List ℕ → List ℤ → List ℤ
unfolding current_answer current_leaves links_of
pass_current s m f phases volts rs =
    let g = fleet_linked f.rated f.reserve f.stored f.rating f.weight (links_of phases volts) in
    passed (current_answer s m g phases volts rs) (current_leaves s m g phases volts rs)

-- a study: 1 where it settled, the changing passes, and then what the requests are
unfoldable pub study : Trial → Fleet → List ℤ → List ℤ
unfolding study_answer study_leaves
study q f rs = said (λ (r : Studied). flag r.settled ∷ pos r.passes ∷ []) (study_answer q f rs) ++ study_leaves q f rs

-- a step: watts, vars, the store after it and the loss
unfoldable pub step : Unit → ℕ → ℤ → List ℤ
unfolding stepped_of
step u seconds request = said (λ (o : Outcome). o.watts ∷ o.vars ∷ pos o.stored ∷ pos o.loss ∷ []) (stepped_of u seconds request)

-- the first field of these bytes, where a step is waited for and so many are accepted: the steps then
unfoldable pub field : ℕ → List ℕ → List ℤ
unfolding field_at
field steps file = said (λ (s : State). pos s.steps ∷ []) (taken_call 0 steps (field_at (state_of at_steps 1 1 0 steps (flags false false)) file 0))

-- the check of a file; and a run into a room of n bytes, all 255: the answer, and what the room then holds
abbrev pub answered : Answer → List ℤ
answered a = refused_at a.number a.place a.steps

unfoldable pub check : List ℕ → List ℤ
unfolding check_of
check file = answered (check_of file)

unfoldable pub run : List ℕ → ℕ → List ℤ
unfolding run_answer run_leaves
run file n = answered (run_answer file n) ++ map pos (run_leaves file (replicate n 255))

-- bytes, which stand as one number
unfoldable pub bytes : ℕ → ℕ → List ℤ
unfolding bytes_of
bytes n v = map pos (bytes_of n v)

-- ---- fleets, settings and units by their values
abbrev pub set : ℕ → ℤ → ℕ → ℕ → Settings
set mode target band factor = record { mode = mode; target = target; band = band; factor = factor }

-- kva, idle loss, var request, inverter, charge, discharge and priority of a unit with 1 MJ rated, a reserve of 1,000 J, R of 1,000 W and weight 1
abbrev pub unit : ℕ → ℕ → ℕ → ℤ → ℕ → ℕ → ℕ → ℕ → Unit
unit stored kva idle vars inverter charge discharge priority = record {
  rated = 1000000;
  reserve = 1000;
  stored = stored;
  rating = 1000;
  kva = kva;
  dc_loss = idle;
  var_request = vars;
  weight = 1;
  inverter = inverter;
  charge = charge;
  discharge = discharge;
  priority = priority;
  provide = kva;
  absorb = kva;
  grid_loss = 0;
  link = 0;
}

-- with var limits of its own
abbrev pub limited : Unit → ℕ → ℕ → Unit
limited u provide absorb = record {
  rated = u.rated;
  reserve = u.reserve;
  stored = u.stored;
  rating = u.rating;
  kva = u.kva;
  dc_loss = u.dc_loss;
  var_request = u.var_request;
  weight = u.weight;
  inverter = u.inverter;
  charge = u.charge;
  discharge = u.discharge;
  priority = u.priority;
  provide = provide;
  absorb = absorb;
  grid_loss = u.grid_loss;
  link = u.link;
}
