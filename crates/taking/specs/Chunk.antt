-- A chunk of a run (rules E3 and E5): how far its fields go behind the kept tail, what whole fields do to what is kept, the records of the steps that they
-- close, and what is kept afterwards.
use Rattle.std.specs.Prelude.{ℕ, ◌+◌, ◌-◌, cond, List, [], ◌∷◌, ◌++◌, length, take, drop}
use Rattle.site.specs.declared.Step.{Step}
use Rattle.fields.specs.declared.State.{State}
use Rattle.stick.specs.declared.Reached.{Reached}
use Rattle.stick.specs.Check.{reach_of}
use Rattle.stick.specs.Site.{plant_of, steps_from, due_from, head_from}
use Rattle.fleet.specs.Step.{Stands}
use Rattle.stretch.specs.Stretch.{stands_first, stands_after, records_from}
use Rattle.kept.specs.Kept.{Kept, begun, no_standing}

-- how far the fields go, from the tail's first byte on
unfoldable pub gone_by : Kept → List ℕ → Reached
unfolding reach_of
gone_by k chunk = reach_of (length (k.tail ++ chunk)) k.state (k.tail ++ chunk) 0

-- ---- whole fields, which lead to a state between fields

-- the fields before the steps are kept as they come; once the steps have begun an end field of no steps closes them
abbrev pub closing : List ℕ
closing = 0x7F ∷ 0 ∷ 4 ∷ 0 ∷ 0 ∷ 0 ∷ 0 ∷ []

abbrev pub head_in : List ℕ → ℕ
head_in w = head_from (length w) w 0

unfoldable pub site_after : Kept → List ℕ → State → List ℕ
unfolding head_from
site_after k w st = cond (begun k.state) k.site (k.site ++ take (head_in w) w ++ cond (begun st) closing [])

-- what stands before their steps: what is kept, or what stands at first (T2), once the site is known
unfoldable pub stands_before : Kept → List ℕ → Stands
unfolding stands_first plant_of
stands_before k site = cond (begun k.state) k.stands (stands_first (plant_of site))

-- the steps that they close
unfoldable pub steps_by : Kept → List ℕ → List Step
unfolding steps_from head_from
steps_by k w = steps_from w k.due (head_in w)

-- what is kept after them, without a tail
unfoldable pub absorbed : Kept → List ℕ → State → Kept
unfolding site_after stands_before steps_by stands_after due_from head_from plant_of
absorbed k w st =
    let site = site_after k w st in
    record {
      place = k.place - length k.tail + length w;
      state = st;
      site = site;
      due = due_from w k.due (head_in w);
      stands = cond (begun st) (stands_after (plant_of site) (stands_before k site) (steps_by k w)) no_standing;
      tail = [];
    }

-- the records of their steps
unfoldable pub results_by : Kept → List ℕ → State → List ℕ
unfolding site_after stands_before steps_by records_from plant_of
results_by k w st = let site = site_after k w st in records_from (plant_of site) k.state.steps (stands_before k site) (steps_by k w)

-- ---- the whole chunk
abbrev pub with_tail : Kept → List ℕ → Kept
with_tail k tail = record {
  place = k.place + length tail;
  state = k.state;
  site = k.site;
  due = k.due;
  stands = k.stands;
  tail = tail;
}

unfoldable pub fed_by : Kept → List ℕ → Kept
unfolding gone_by absorbed
fed_by k chunk =
    let r = gone_by k chunk in
    let bytes = k.tail ++ chunk in
    with_tail (absorbed k (take r.at bytes) r.state) (drop r.at bytes)

unfoldable pub results_for : Kept → List ℕ → List ℕ
unfolding gone_by results_by
results_for k chunk = let r = gone_by k chunk in results_by k (take r.at (k.tail ++ chunk)) r.state
