-- Which bytes are a state (rule E9): one test of their bytes. Any that pass get an answer, whether or not a call could have left them.
use Rattle.std.specs.Prelude.{ℕ, ◌+◌, ◌-◌, ◌*◌, Bool, not, cond, ◌&&◌, ◌||◌, List, leb, eqb, ℤ, pos, nat_abs, length, get_or}
use Rattle.whole.specs.Interval.{between}
use Rattle.whole.specs.Over.{all_of}
use Rattle.octets.specs.BigEndian.{be}
use Rattle.members.specs.Ranges.{some_above, some_below}
use Rattle.solar.specs.declared.Sun.{Sun}
use Rattle.site.specs.Site.{Site, unit_of}
use Rattle.fields.specs.declared.State.{State}
use Rattle.lead.specs.Lead.{voltage_in}
use Rattle.fields.specs.Fields.{at_end, at_reading, at_voltage, head_of}
use Rattle.stick.specs.declared.Reached.{Reached}
use Rattle.stick.specs.Check.{reach_of, start}
use Rattle.stick.specs.Site.{site_of}
use Rattle.kept.specs.Kept.{begun_at}
use Rattle.kept.specs.Layout.{tail_place, held_place, flag_place, vars_place, site_place, state_size, tail_most, site_most, place_most, number_in, place_in, steps_kept, stage_in, site_bytes, tail_bytes}
use Rattle.kept.specs.Layout.{site_part, tail_part, sun_kept, state_in, store_at, request_at, var_at, units_kept, roofs_kept, up_to}

-- the bytes from one place up to another are 0
unfoldable pub clear : List ℕ → ℕ → ℕ → Bool
unfolding all_of
clear s from to = all_of (to - from) (λ (i : ℕ). eqb (get_or s (from + i) 0) 0)

-- the site part: accepted fields alone and no steps; the kept stage is the one after them, or the steps have begun and the site part is closed
unfoldable pub site_fits : Reached → ℕ → ℕ → Bool
site_fits r stage steps =
    eqb r.number 0 && eqb r.state.steps 0
    && cond (begun_at stage) (eqb r.state.stage at_end) (eqb r.state.stage stage && eqb steps 0)

-- the bytes that came beside those of the steps: the fields before them, the weather or the voltage of the step under way, the end field, the tail
unfoldable pub beside : ℕ → ℕ → ℕ → ℕ
beside stage site tail =
    site - cond (begun_at stage) 7 0 + cond (eqb stage at_reading) 19 0 + cond (eqb stage at_voltage) 5 0 + cond (eqb stage at_end) 7 0 + tail

-- a step has 3 to 51 bytes; before a voltage a weather may have come
unfoldable pub place_fits : ℕ → ℕ → ℕ → ℕ → ℕ → Bool
unfolding beside
place_fits place stage steps site tail =
    between (beside stage site tail + 3 * steps) (beside stage site tail + 51 * steps + cond (eqb stage at_voltage) 19 0) place

-- a sun is kept where a weather may have come, a voltage where one has
unfoldable pub sun_fits : ℕ → Sun → Bool
sun_fits stage s =
    cond (eqb stage at_reading || eqb stage at_voltage) (leb s.irradiance 100000000 && leb (nat_abs s.temperature) 100000000)
    (eqb s.irradiance 0 && eqb (nat_abs s.temperature) 0)

unfoldable pub volt_fits : ℕ → ℕ → Bool
volt_fits stage volts = cond (eqb stage at_voltage) (voltage_in volts) (eqb volts 0)

-- a tail is the beginning of a field that is waited for
unfoldable pub tail_fits : State → List ℕ → Bool
unfolding head_of
tail_fits st tail = eqb (length tail) 0 || (not (eqb st.stage at_end) && eqb (head_of st tail 0) 1)

-- no store above rated, no request beyond its rating, not requests of both signs
unfoldable pub unit_fits : Site → List ℕ → List ℤ → ℕ → Bool
unit_fits site stored rs i = leb (get_or stored i 0) (unit_of site i).rated && leb (nat_abs (get_or rs i (pos 0))) (unit_of site i).rating

unfoldable pub held_fits : Site → List ℕ → List ℤ → Bool
unfolding unit_fits all_of some_above some_below
held_fits site stored rs = all_of (length stored) (unit_fits site stored rs) && not (some_above rs && some_below rs)

-- a flag is 0 or 1
unfoldable pub flag_fits : List ℕ → ℕ → Bool
unfolding be
flag_fits s i = leb (be 1 s (flag_place + i)) 1

-- vars last requested are at most 10^8 either way
unfoldable pub var_fits : List ℕ → ℕ → Bool
unfolding var_at
var_fits s i = leb (nat_abs (var_at s i)) 100000000

-- what stands of so many units and inverters
unfoldable pub lists_fit : List ℕ → ℕ → ℕ → Bool
unfolding held_fits flag_fits var_fits up_to store_at request_at site_of site_part all_of
lists_fit s units roofs =
    held_fits (site_of (site_part s)) (up_to units (store_at s)) (up_to units (request_at s)) && all_of roofs (flag_fits s) && all_of (units + roofs) (var_fits s)

unfoldable pub stands_fit : List ℕ → Bool
unfolding lists_fit units_kept roofs_kept
stands_fit s = lists_fit s (units_kept s) (roofs_kept s)

-- what is not in use, with so many units and inverters
unfoldable pub rest_clear : List ℕ → ℕ → ℕ → Bool
unfolding clear be
rest_clear s units roofs =
    clear s (tail_place + tail_bytes s) held_place
    && clear s (held_place + 12 * units) flag_place
    && clear s (flag_place + roofs) vars_place
    && clear s (vars_place + 4 * (units + roofs)) site_place
    && clear s (site_place + site_bytes s) state_size

-- place, sun, voltage and tail
unfoldable pub mark_fits : List ℕ → Bool
unfolding place_fits sun_fits volt_fits tail_fits tail_part sun_kept state_in be
mark_fits s =
    place_fits (place_in s) (stage_in s) (steps_kept s) (site_bytes s) (tail_bytes s) && sun_fits (stage_in s) (sun_kept s) && volt_fits (stage_in s) (be 2 s 25)
    && tail_fits (state_in s) (tail_part s)

unfoldable pub going : List ℕ → Bool
unfolding site_fits mark_fits stands_fit rest_clear units_kept roofs_kept site_part reach_of be
going s =
    (leb (site_bytes s) site_most && leb (tail_bytes s) tail_most && leb (steps_kept s) 65535)
    && site_fits (reach_of (length (site_part s)) start (site_part s) 0) (stage_in s) (steps_kept s)
    && mark_fits s
    && (stands_fit s && rest_clear s (units_kept s) (roofs_kept s))

-- a run that was refused, or is over
unfoldable pub stopped : List ℕ → Bool
unfolding clear be
stopped s =
    (between 1 9 (number_in s) || eqb (number_in s) 12)
    && leb (steps_kept s) 65535
    && leb (place_in s) (place_most + 51 * steps_kept s)
    && clear s 13 state_size

unfoldable pub well_formed : List ℕ → Bool
unfolding going stopped be
well_formed s = eqb (length s) state_size && cond (eqb (number_in s) 0) (going s) (stopped s)

-- a run that goes on
unfoldable pub is_open : List ℕ → Bool
unfolding well_formed
is_open s = well_formed s && eqb (number_in s) 0
