-- What a C caller sees of a call (rules C1 to C33): the number that is returned, and each lent number afterwards, which is what the call gives or, on a
-- refusal, what it held.
use Rattle.std.specs.Prelude.{ℕ, Bool, cond, List, ◌≡◌, Float, ℤ, Result}
use Rattle.std.specs.Borrow.{Bor, MutBor}
use denote.Triple.Both.{Both}
use Rattle.whole.specs.Call.{Call, number_of, held_after}
use Rattle.unit.specs.declared.Unit.{Unit}
use Rattle.rules.specs.declared.Settings.{Settings}
use Rattle.controller.specs.declared.Passed.{Passed}
use Rattle.members.specs.Ranges.{Fleet, fleet_of, fleet_linked, links_of}
use Rattle.settling.specs.declared.Trial.{Trial}
use Rattle.settling.specs.declared.Studied.{Studied}
use Rattle.solar.specs.declared.Inverter.{Inverter}
use Rattle.solar.specs.declared.Weather.{Weather}
use Rattle.solar.specs.declared.Given.{Given}
use Rattle.solar.specs.Answers.{lists_of, lit_of}
use Rattle.storage.specs.declared.Outcome.{Outcome}
use Rattle.storage.specs.Step.{stepped_as}
use Rattle.site.specs.declared.Head.{Head}
use Rattle.partner.specs.declared.Verdict.{Verdict}
use Rattle.partner.specs.Verdict.{partner_answer}
use Rattle.tally.specs.declared.Figures.{Figures}
use Rattle.peaks.specs.Answers.{peaks_answer}
use Rattle.ask.specs.declared.Connection.{Connection}
use Rattle.ask.specs.Says.{head_answer, unit_answer, connection_answer}
use Rattle.whole.specs.declared.Refusal.{Refusal}

-- a flag as a lent byte
abbrev pub flag : Bool → ℕ
flag b = cond b 1 0

abbrev pub settings_of : ℕ → ℤ → ℕ → ℕ → Settings
settings_of mode target band factor = record { mode = mode; target = target; band = band; factor = factor }

-- what is lent to a call: a number or a list, at the call and after it
abbrev pub Lent : Type 0 → Type 0
Lent A = Both (Bor A) (Bor A)

abbrev pub held : {A : Type 0} → Lent A → A
held x = x.entry.now

-- the same of what a call may write
abbrev pub Written : Type 0 → Type 0
Written A = Both (MutBor A) (MutBor A)

abbrev pub was : {A : Type 0} → Written A → A
was x = x.entry.now

abbrev pub left : {A : Type 0} → Written A → A
left x = x.exit.now

-- the fleet that five lent lists hold
abbrev pub fleet_lent : Lent (List ℕ) → Lent (List ℕ) → Lent (List ℕ) → Lent (List ℕ) → Lent (List ℕ) → Fleet
fleet_lent rated reserve stored rating weight = fleet_of (held rated) (held reserve) (held stored) (held rating) (held weight)

-- with the connections that two more hold
abbrev pub fleet_joined : Lent (List ℕ) → Lent (List ℕ) → Lent (List ℕ) → Lent (List ℕ) → Lent (List ℕ) → Lent (List ℕ) → Lent (List ℕ) → Fleet
fleet_joined rated reserve stored rating weight phases volts =
    fleet_linked (held rated) (held reserve) (held stored) (held rating) (held weight) (links_of (held phases) (held volts))

-- yb_pass and yb_pass_current: the number, need and changed
pub record PassSeen (a : Result Passed Refusal) (number : ℕ) (need need' : ℤ) (changed changed' : ℕ) : Type 0 where
  pub number_is : number ≡ number_of a
  pub need_is : need' ≡ held_after a (λ (p : Passed). p.need) need
  pub changed_is : changed' ≡ held_after a (λ (p : Passed). flag p.changed) changed

abbrev pub PassTold : Result Passed Refusal → ℕ → Written ℤ → Written ℕ → Type 0
PassTold a number need changed = PassSeen a number (was need) (left need) (was changed) (left changed)

-- yb_settle and yb_study: the number, settled and passes
pub record StudySeen (c : Call Studied) (number settled settled' passes passes' : ℕ) : Type 0 where
  pub number_is : number ≡ number_of c
  pub settled_is_is : settled' ≡ held_after c (λ (r : Studied). flag r.settled) settled
  pub passes_is : passes' ≡ held_after c (λ (r : Studied). r.passes) passes

abbrev pub StudyTold : Call Studied → ℕ → Written ℕ → Written ℕ → Type 0
StudyTold c number settled passes = StudySeen c number (was settled) (left settled) (was passes) (left passes)

-- a study's settings in mode 1, its load and its budget
abbrev pub trial_of : ℤ → ℤ → ℕ → ℕ → ℕ → Trial
trial_of load target band factor budget = record { settings = settings_of 1 target band factor; load = load; budget = budget }

-- yb_step and yb_step_as: the unit's values in the calls' order; the number, and what the step gives
abbrev pub unit_of : ℕ → ℕ → ℕ → ℕ → ℕ → ℕ → ℤ → ℕ → ℕ → ℕ → ℕ → ℕ → ℕ → ℕ → Unit
unit_of rated reserve stored rating kva idle var weight inverter charge discharge priority provide absorb = record {
  rated = rated;
  reserve = reserve;
  stored = stored;
  rating = rating;
  kva = kva;
  dc_loss = idle;
  var_request = var;
  weight = weight;
  inverter = inverter;
  charge = charge;
  discharge = discharge;
  priority = priority;
  provide = provide;
  absorb = absorb;
  grid_loss = 0;
  link = 0;
}

pub record StepSeen (a : Result Outcome Refusal) (number : ℕ) (watts watts' vars vars' : ℤ) (stored stored' loss loss' : ℕ) : Type 0 where
  pub number_is : number ≡ number_of a
  pub watts_is : watts' ≡ held_after a (λ (o : Outcome). o.watts) watts
  pub vars_is : vars' ≡ held_after a (λ (o : Outcome). o.vars) vars
  pub stored_is : stored' ≡ held_after a (λ (o : Outcome). o.stored) stored
  pub loss_is : loss' ≡ held_after a (λ (o : Outcome). o.loss) loss

-- of a unit of an edition, over so many seconds, at a request
abbrev pub StepTold : ℕ → Unit → ℕ → ℤ → ℕ → Written ℤ → Written ℤ → Written ℕ → Written ℕ → Type 0
StepTold edition u seconds request number watts vars stored loss =
    StepSeen (stepped_as edition u seconds request) number (was watts) (left watts) (was vars) (left vars) (was stored) (left stored) (was loss) (left loss)

-- yb_solar: the inverter's values in the call's order, the lists of its curves and the weather; the number, and what the step gives
abbrev pub inverter_of : ℕ → ℕ → ℕ → ℕ → ℕ → ℤ → ℕ → Inverter
inverter_of array kva cut_in cut_out limit var priority = record {
  array = array;
  kva = kva;
  cut_in = cut_in;
  cut_out = cut_out;
  limit = limit;
  var_request = var;
  priority = priority;
}

abbrev pub weather_of : Float → Float → Weather
weather_of irradiance temperature = record { irradiance = irradiance; temperature = temperature }

abbrev pub lit_lent : Inverter → Lent (List ℤ) → Lent (List ℤ) → Lent (List ℤ) → Lent (List ℤ) → ℕ → Float → Float → Result Given Refusal
lit_lent v warm_x warm_y eff_x eff_y on irradiance temperature =
    lit_of v (lists_of (held warm_x) (held warm_y) (held eff_x) (held eff_y)) on (weather_of irradiance temperature)

pub record LitSeen (a : Result Given Refusal) (number on on' : ℕ) (watts watts' vars vars' : ℤ) (dc dc' : ℕ) : Type 0 where
  pub number_is : number ≡ number_of a
  pub on_is : on' ≡ held_after a (λ (g : Given). flag g.on) on
  pub watts_is : watts' ≡ held_after a (λ (g : Given). g.watts) watts
  pub vars_is : vars' ≡ held_after a (λ (g : Given). g.vars) vars
  pub dc_is : dc' ≡ held_after a (λ (g : Given). g.dc) dc

abbrev pub LitTold : Result Given Refusal → ℕ → Written ℕ → Written ℤ → Written ℤ → Written ℕ → Type 0
LitTold a number on watts vars dc =
    LitSeen a number (was on) (left on) (was watts) (left watts) (was vars) (left vars) (was dc) (left dc)

-- yb_settings, yb_unit and yb_connection: what a file says, as a call's answer
abbrev pub head_said : List ℕ → Call Head
head_said file = (head_answer file)

abbrev pub unit_said : List ℕ → ℕ → Call Unit
unit_said file i = (unit_answer file i)

abbrev pub connection_told : List ℕ → ℕ → Call Connection
connection_told file i = (connection_answer file i)

-- yb_partner
abbrev pub partner_told : List ℕ → List ℕ → Call Verdict
partner_told run result = partner_answer run result

-- yb_peaks
abbrev pub peaks_told : List ℕ → ℤ → ℕ → Call Figures
peaks_told file target len = (peaks_answer file target len)
