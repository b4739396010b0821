-- Nobody has to believe this file: the parts of contracts by name.
use Rattle.std.specs.Prelude.{ℕ, ◌+◌, ◌-◌, ◌≤◌, true, cond, List, [], ◌++◌, ◌≡◌, length, take, drop}
use Rattle.std.proofs.Math.Seq.{slice}
use Rattle.solar.specs.Posts.{Shining}
use Rattle.site.specs.declared.Due.{Due}
use Rattle.site.specs.declared.Step.{Step}
use Rattle.site.specs.Site.{Site, count}
use Rattle.parts.specs.Header.{past}
use Rattle.fields.specs.declared.State.{State}
use Rattle.stick.specs.declared.Reached.{Reached}
use Rattle.stick.specs.Site.{site_of, roofs_of, plant_of, steps_from, due_from}
use Rattle.stick.specs.Check.{Accepted}
use Rattle.roofs.specs.Posts.{VarsHeld}
use Rattle.fleet.specs.Step.{Stands}
use Rattle.fleet.specs.Posts.{Held}
use Rattle.stretch.specs.Posts.{StepsThere}
use Rattle.stretch.specs.Stretch.{stands_first, stands_after, records_from}
use Rattle.kept.specs.declared.Mark.{Mark}
use Rattle.kept.specs.Kept.{Kept, begun}
use Rattle.kept.specs.Layout.{state_size, site_place, site_most, filled, mark_in, kept_in, state_in, stands_in, all_vars, top_of, stands_of}
use Rattle.taking.specs.Chunk.{gone_by, site_after, absorbed, results_by, with_tail}
use Rattle.taking.specs.Posts.{Leads}
use Rattle.kept.specs.Formed.{is_open}
use Rattle.intake.specs.declared.Course.{Course}

-- the records of whole fields and then those of others
abbrev pub both_results : Kept → List ℕ → State → List ℕ → State → List ℕ
both_results k w mid v next = results_by k w mid ++ results_by (absorbed k w mid) v next

-- the bytes of a first field, and those of the others, which lie in a chunk behind a tail
abbrev pub first_of : List ℕ → List ℕ
first_of joint = take (past joint 0) joint

abbrev pub others_of : List ℕ → ℕ → ℕ → List ℕ → List ℕ
others_of joint tail at chunk = slice (past joint 0 - tail) (at - tail) chunk

-- what is kept after both, with the bytes behind them as the tail
abbrev pub both_kept : Kept → List ℕ → State → ℕ → ℕ → List ℕ → State → Kept
both_kept k joint mid tail at chunk next = with_tail (absorbed (absorbed k (first_of joint) mid) (others_of joint tail at chunk) next) (drop (at - tail) chunk)

-- a state whose run goes on
pub record Open (s : List ℕ) : Type 0 where
  pub is_open_is : is_open s ≡ true

-- whole fields, all of them accepted from some state on
pub record Walked (bytes : List ℕ) : Type 0 where
  pub since : State
  pub upto : State
  pub leads : Leads since bytes upto

-- a state's bytes with the site part that whole fields lead to, of so many bytes; the others as they were
pub record Grown (s grown bytes : List ℕ) (next : State) (site : ℕ) : Type 0 where
  pub front : take site_place grown ≡ take site_place s
  pub part : drop site_place grown ≡ filled site_most (site_after (kept_in s) bytes next)
  pub sized : site ≡ length (site_after (kept_in s) bytes next)
  pub fits : site ≤ site_most

-- ---- the run over whole fields, by a mark and a state's bytes with the site part that they lead to

-- what stands before them
unfoldable pub first_by : Mark → List ℕ → List ℕ → Stands
unfolding stands_in stands_first plant_of site_of roofs_of
first_by m s site = cond (begun m.state) (stands_in s (count (site_of site)) (length (roofs_of site))) (stands_first (plant_of site))

-- what stands after them, from a place on
unfoldable pub stands_over : Mark → List ℕ → List ℕ → List ℕ → ℕ → Stands
unfolding stands_after first_by steps_from plant_of
stands_over m s site bytes head = stands_after (plant_of site) (first_by m s site) (steps_from bytes m.due head)

-- their steps, by the course that they take
abbrev pub steps_on : Course → List ℕ → List Step
steps_on c bytes = steps_from bytes c.mark.due c.head

-- their records
unfoldable pub records_over : Mark → List ℕ → List ℕ → List ℕ → ℕ → List ℕ
unfolding records_from first_by steps_from plant_of
records_over m s site bytes head = records_from (plant_of site) m.state.steps (first_by m s site) (steps_from bytes m.due head)

-- the mark after them, without a tail
abbrev pub mark_after : Mark → State → ℕ → Due → ℕ → Mark
mark_after m next site d bytes = record { place = m.place - m.tail + bytes; state = next; site = site; tail = 0; due = d }

-- what the run over whole fields leaves of a state's bytes
unfoldable pub left_by : Mark → List ℕ → ℕ → List ℕ → ℕ → State → List ℕ
unfolding top_of stands_of stands_over due_from
left_by m s n bytes head next =
    let st = stands_over m s (slice site_place (site_place + n) s) bytes head in
    top_of (mark_after m next n (due_from bytes m.due head) (length bytes)) [] ++ stands_of st.units.stored st.units.requests (all_vars st) st.on ++ drop site_place s

-- what stands of a site with so many inverters, within its bounds
pub record Stood (site : Site) (roofs : ℕ) (st : Stands) : Type 0 where
  pub units : Held site st.units.stored st.units.requests st.units.vars
  pub flags : length st.on ≡ roofs
  pub vars : VarsHeld roofs st.vars

-- what the run over whole fields may count on
pub record Ahead (s : List ℕ) (m : Mark) (n : ℕ) (bytes : List ℕ) (head : ℕ) (next : State) : Type 0 where
  pub long : length s ≡ state_size
  pub fits : n ≤ site_most
  pub accepted : Accepted (slice site_place (site_place + n) s)
  pub stood : Stood (site_of (slice site_place (site_place + n) s)) (length (roofs_of (slice site_place (site_place + n) s))) (first_by m s (slice site_place (site_place + n) s))
  pub upto : head ≤ length bytes
  pub there : StepsThere bytes head
  pub shines : Shining m.due.sun
  pub counted : m.state.steps + length (steps_from bytes m.due head) ≡ next.steps
  pub few : next.steps ≤ 65535
  pub place_there : m.tail ≤ m.place
  pub place_fits_is : m.place + length bytes ≤ 18446744073709551615

-- a state whose run goes on, its mark, and how far a chunk without a fault goes
pub record Gone (s : List ℕ) (m : Mark) (chunk : List ℕ) (r : Reached) : Type 0 where
  pub is_open_is : Open s
  pub mark_is : m ≡ mark_in s
  pub gone_is : r ≡ gone_by (kept_in s) chunk
  pub no_fault : r.number ≤ 1
