-- What stands between two steps, and one step of a site (rules T1 to T4): one pass on the step's reading, none if it is missing, then one step of every
-- unit, by what leads it; and the step's records.
use Rattle.std.specs.Prelude.{ℕ, zero, suc, ◌*◌, Bool, cond, List, [], ◌++◌, map, ℤ, pos, length, get_or, replicate, Err, Ok}
use Rattle.whole.specs.Over.{each}
use Rattle.whole.specs.Call.{Call}
use Rattle.reading.specs.declared.Reading.{Reading}
use Rattle.reading.specs.declared.Reading.TheVariants.{Missing, Power, Current}
use Rattle.reading.specs.Choice.{measure_of, current_of}
use Rattle.unit.specs.declared.Unit.{Unit}
use Rattle.unit.specs.Ranges.{holding}
use Rattle.rules.specs.Rules.{by_current}
use Rattle.members.specs.Ranges.{fleet_for}
use Rattle.controller.specs.Pass.{pass_of}
use Rattle.storage.specs.declared.Outcome.{Outcome}
use Rattle.lead.specs.declared.Lead.{Lead}
use Rattle.guided.specs.Units.{led_step, vars_kept}
use Rattle.site.specs.Site.{Site, count, unit_of}
use Rattle.records.specs.Records.{record_of, record_bytes}

-- ---- what stands of the units: what each holds, what it is asked, and the vars last requested of it
pub record Standing : Type 0 where
  pub stored : List ℕ
  pub requests : List ℤ
  pub vars : List ℤ

abbrev pub standing : List ℕ → List ℤ → List ℤ → Standing
standing stored requests vars = record { stored = stored; requests = requests; vars = vars }

-- T2: at first each unit holds what its record says, is asked nothing, and its own var request counts as last requested
unfoldable pub at_first : List Unit → Standing
at_first units =
    standing (map (λ (u : Unit). u.stored) units) (replicate (length units) (pos 0)) (map (λ (u : Unit). u.var_request) units)

-- T1: what stands of the whole plant: the units, which inverters are on, and the vars last requested of these
pub record Stands : Type 0 where
  pub units : Standing
  pub on : List Bool
  pub vars : List ℤ

-- ---- T3: the pass

-- on a measure. No reading of an accepted file is refused; where one were, the requests would stand
abbrev pub passed_on : Site → List ℕ → List ℤ → Call ℤ → List ℤ
passed_on site stored rs (Ok m) = pass_of site.head.settings m (fleet_for site.units stored) rs
passed_on site stored rs (Err r) = rs

-- by watts one pass on the powers, by current one on the currents; none if the reading is missing. A reading of the other kind is in no accepted file (N5)
unfoldable pub asked_by_watts : Site → List ℕ → List ℤ → Reading → List ℤ
unfolding measure_of pass_of
asked_by_watts site stored rs (Power p) = passed_on site stored rs (measure_of p site.head.phase)
asked_by_watts site stored rs Missing = rs
asked_by_watts site stored rs (Current p) = rs

unfoldable pub asked_by_current : Site → List ℕ → List ℤ → Reading → List ℤ
unfolding current_of pass_of
asked_by_current site stored rs (Current p) = passed_on site stored rs (current_of p site.head.phase)
asked_by_current site stored rs Missing = rs
asked_by_current site stored rs (Power p) = rs

unfoldable pub asked_by : Site → List ℕ → List ℤ → Reading → List ℤ
unfolding asked_by_watts asked_by_current
asked_by site stored rs r = cond (by_current site.head.settings.mode) (asked_by_current site stored rs r) (asked_by_watts site stored rs r)

-- ---- T4: one step of every unit

-- unit i, which holds s and is asked r, with v as the vars last requested of it
unfoldable pub given : Site → Lead → ℕ → ℕ → ℤ → ℤ → Outcome
unfolding led_step
given site l i s r v = led_step l (holding (unit_of site i) s) v site.head.seconds r

-- and the vars then kept as last requested
unfoldable pub kept_vars : Site → Lead → ℕ → ℕ → ℤ → ℤ → ℤ
unfolding vars_kept
kept_vars site l i s r v = vars_kept l (holding (unit_of site i) s) v site.head.seconds r

-- of every unit
unfoldable pub stored_after : Site → Lead → List ℕ → List ℤ → List ℤ → List ℕ
unfolding each given
stored_after site l stored rs vs = each (λ (i s : ℕ). (given site l i s (get_or rs i (pos 0)) (get_or vs i (pos 0))).stored) stored

unfoldable pub vars_after : Site → Lead → List ℕ → List ℤ → List ℤ → List ℤ
unfolding each kept_vars
vars_after site l stored rs vs = each (λ (i : ℕ) (v : ℤ). kept_vars site l i (get_or stored i 0) (get_or rs i (pos 0)) v) vs

-- the records of the first n units in a step
unfoldable pub records_of : ℕ → Site → Lead → ℕ → List ℕ → List ℤ → List ℤ → List ℕ
unfolding record_of given
records_of zero site l step stored rs vs = []
records_of (suc n) site l step stored rs vs =
    records_of n site l step stored rs vs
    ++ record_of step n (get_or rs n (pos 0)) (given site l n (get_or stored n 0) (get_or rs n (pos 0)) (get_or vs n (pos 0)))

-- ---- a step: what stands after it, and its records
unfoldable pub after : Site → Lead → Standing → Reading → Standing
unfolding asked_by stored_after vars_after
after site l st r =
    let rs = asked_by site st.stored st.requests r in
    standing (stored_after site l st.stored rs st.vars) rs (vars_after site l st.stored rs st.vars)

unfoldable pub records_by : Site → Lead → ℕ → Standing → Reading → List ℕ
unfolding asked_by records_of
records_by site l step st r = records_of (count site) site l step st.stored (asked_by site st.stored st.requests r) st.vars

-- the bytes of a step's records
abbrev pub step_bytes : Site → ℕ
step_bytes site = record_bytes * count site
