-- The bytes of a state (rule E1; docs/LAYOUTS.md): those of what is kept, and what is kept in bytes. Parts that are not in use are 0.
use Rattle.std.specs.Prelude.{ℕ, zero, suc, ◌+◌, ◌-◌, ◌*◌, Bool, false, cond, List, [], ◌∷◌, ◌++◌, eqb, ℤ, pos, length, get_or, replicate, None, Option, Some}
use Rattle.std.proofs.Math.Seq.{slice}
use Rattle.std.specs.Int.{w32}
use Rattle.std.proofs.Common.{to_z, of_z}
use Rattle.octets.specs.BigEndian.{be, bytes_of}
use Rattle.solar.specs.declared.Sun.{Sun}
use Rattle.site.specs.declared.Due.{Due}
use Rattle.site.specs.Site.{due, count}
use Rattle.fields.specs.declared.State.{State}
use Rattle.fields.specs.Fields.{at_voltage, gone_to}
use Rattle.stick.specs.Check.{reach_of, start}
use Rattle.stick.specs.Site.{site_of, roofs_of}
use Rattle.fleet.specs.Step.{Stands, standing}
use Rattle.kept.specs.declared.Mark.{Mark}
use Rattle.kept.specs.Kept.{Kept, begun}

-- ---- where the parts begin, and all bytes; how long the tail and the site part are at most
abbrev pub tail_place : ℕ
tail_place = 27

abbrev pub held_place : ℕ
held_place = 221

abbrev pub flag_place : ℕ
flag_place = 989

abbrev pub vars_place : ℕ
vars_place = 1053

abbrev pub site_place : ℕ
site_place = 1565

abbrev pub state_size : ℕ
state_size = 24071

abbrev pub tail_most : ℕ
tail_most = 194

abbrev pub site_most : ℕ
site_most = 22506

-- behind the 13 bytes of a run that was refused, or is over; and how far such a run has come at most, beside its steps
abbrev pub rest_size : ℕ
rest_size = 24058

abbrev pub place_most : ℕ
place_most = 22523

-- ---- the bytes of what is kept

-- a part of n bytes with these first
unfoldable pub filled : ℕ → List ℕ → List ℕ
filled n bytes = bytes ++ replicate (n - length bytes) 0

-- while the run goes on: how far it is; then how long the site part and the tail are, the sun, and the voltage, 0 where there is none
abbrev pub volts_of : Option ℕ → ℕ
volts_of None = 0
volts_of (Some x) = x

unfoldable pub progress_of : Mark → List ℕ
unfolding bytes_of
progress_of m = bytes_of 1 0 ++ bytes_of 8 m.place ++ bytes_of 4 m.state.steps ++ bytes_of 1 m.state.stage

unfoldable pub parts_of : Mark → List ℕ
unfolding bytes_of
parts_of m =
    bytes_of 2 m.site ++ bytes_of 1 m.tail ++ bytes_of 4 m.due.sun.irradiance ++ bytes_of 4 (of_z w32 m.due.sun.temperature)
    ++ bytes_of 2 (volts_of m.due.voltage)

unfoldable pub numbers_of : Mark → List ℕ
unfolding progress_of parts_of
numbers_of m = progress_of m ++ parts_of m

-- what the first n units hold and are asked
unfoldable pub held_of : ℕ → List ℕ → List ℤ → List ℕ
unfolding bytes_of
held_of zero stored rs = []
held_of (suc n) stored rs = held_of n stored rs ++ (bytes_of 8 (get_or stored n 0) ++ bytes_of 4 (of_z w32 (get_or rs n (pos 0))))

-- which of the first n inverters are on
unfoldable pub flags_of : ℕ → List Bool → List ℕ
unfolding bytes_of
flags_of zero on = []
flags_of (suc n) on = flags_of n on ++ bytes_of 1 (cond (get_or on n false) 1 0)

-- the first n vars last requested
unfoldable pub vars_of : ℕ → List ℤ → List ℕ
unfolding bytes_of
vars_of zero vs = []
vars_of (suc n) vs = vars_of n vs ++ bytes_of 4 (of_z w32 (get_or vs n (pos 0)))

-- the numbers and the tail; then what stands, with the vars of units and inverters; then the site part
unfoldable pub top_of : Mark → List ℕ → List ℕ
unfolding numbers_of filled
top_of m tail = numbers_of m ++ filled tail_most tail

unfoldable pub stands_of : List ℕ → List ℤ → List ℤ → List Bool → List ℕ
unfolding filled held_of flags_of vars_of
stands_of stored rs vs on =
    filled 768 (held_of (length stored) stored rs) ++ filled 64 (flags_of (length on) on) ++ filled 512 (vars_of (length vs) vs)

-- the vars of the units and behind them those of the inverters
abbrev pub all_vars : Stands → List ℤ
all_vars st = st.units.vars ++ st.vars

abbrev pub mark_of : Kept → Mark
mark_of k = record { place = k.place; state = k.state; site = length k.site; tail = length k.tail; due = k.due }

unfoldable pub bytes_for : Kept → List ℕ
unfolding top_of stands_of filled
bytes_for k =
    top_of (mark_of k) k.tail ++ stands_of k.stands.units.stored k.stands.units.requests (all_vars k.stands) k.stands.on ++ filled site_most k.site

-- a run that was refused, or is over
unfoldable pub stopped_bytes : ℕ → ℕ → ℕ → List ℕ
unfolding bytes_of
stopped_bytes number place steps = bytes_of 1 number ++ bytes_of 8 place ++ bytes_of 4 steps ++ replicate rest_size 0

-- ---- what is kept in bytes
abbrev pub number_in : List ℕ → ℕ
number_in s = be 1 s 0

abbrev pub place_in : List ℕ → ℕ
place_in s = be 8 s 1

abbrev pub steps_kept : List ℕ → ℕ
steps_kept s = be 4 s 9

abbrev pub stage_in : List ℕ → ℕ
stage_in s = be 1 s 13

abbrev pub site_bytes : List ℕ → ℕ
site_bytes s = be 2 s 14

abbrev pub tail_bytes : List ℕ → ℕ
tail_bytes s = be 1 s 16

unfoldable pub site_part : List ℕ → List ℕ
unfolding be
site_part s = slice site_place (site_place + site_bytes s) s

unfoldable pub tail_part : List ℕ → List ℕ
unfolding be
tail_part s = slice tail_place (tail_place + tail_bytes s) s

unfoldable pub sun_kept : List ℕ → Sun
unfolding be
sun_kept s = record { irradiance = be 4 s 17; temperature = to_z w32 (be 4 s 21) }

-- what the step under way has: a voltage behind a voltage field alone
unfoldable pub due_kept : List ℕ → Due
unfolding sun_kept be
due_kept s = due (sun_kept s) (cond (eqb (stage_in s) at_voltage) (Some (be 2 s 25)) None)

-- the state between fields: what the site part's fields lead to, at the stage and with the steps that are kept
unfoldable pub known_by : List ℕ → State
unfolding reach_of
known_by site = (reach_of (length site) start site 0).state

unfoldable pub state_in : List ℕ → State
unfolding known_by site_part be
state_in s = let known = known_by (site_part s) in gone_to known (stage_in s) known.left (steps_kept s)

-- unit i's store and request, whether inverter i is on, and the vars last requested; of the first n
unfoldable pub store_at : List ℕ → ℕ → ℕ
unfolding be
store_at s i = be 8 s (held_place + 12 * i)

unfoldable pub request_at : List ℕ → ℕ → ℤ
unfolding be
request_at s i = to_z w32 (be 4 s (held_place + 12 * i + 8))

unfoldable pub flag_at : List ℕ → ℕ → Bool
unfolding be
flag_at s i = eqb (be 1 s (flag_place + i)) 1

unfoldable pub var_at : List ℕ → ℕ → ℤ
unfolding be
var_at s i = to_z w32 (be 4 s (vars_place + 4 * i))

unfoldable pub up_to : {A : Type 0} → ℕ → (ℕ → A) → List A
up_to zero f = []
up_to (suc n) f = up_to n f ++ (f n ∷ [])

-- as many as the site has, none before the steps begin
unfoldable pub units_kept : List ℕ → ℕ
unfolding state_in site_of site_part
units_kept s = cond (begun (state_in s)) (count (site_of (site_part s))) 0

unfoldable pub roofs_kept : List ℕ → ℕ
unfolding state_in roofs_of site_part
roofs_kept s = cond (begun (state_in s)) (length (roofs_of (site_part s))) 0

unfoldable pub mark_in : List ℕ → Mark
unfolding state_in due_kept be
mark_in s = record { place = place_in s; state = state_in s; site = site_bytes s; tail = tail_bytes s; due = due_kept s }

-- what stands of so many units and inverters
unfoldable pub stands_in : List ℕ → ℕ → ℕ → Stands
unfolding up_to store_at request_at var_at flag_at
stands_in s n m = record {
  units = standing (up_to n (store_at s)) (up_to n (request_at s)) (up_to n (var_at s));
  on = up_to m (flag_at s);
  vars = up_to m (λ (i : ℕ). var_at s (n + i));
}

unfoldable pub kept_in : List ℕ → Kept
unfolding state_in site_part tail_part due_kept stands_in units_kept roofs_kept be
kept_in s = record {
  place = place_in s;
  state = state_in s;
  site = site_part s;
  due = due_kept s;
  stands = stands_in s (units_kept s) (roofs_kept s);
  tail = tail_part s;
}
