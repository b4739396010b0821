-- Nobody has to believe this file: the parts of contracts by name.
use Rattle.std.specs.Prelude.{ℕ, ◌+◌, ◌-◌, ◌*◌, ◌/◌, ◌<◌, cond, ◌||◌, ltb, eqb, List, length, get_or, ℤ, pos, neg_ℤ, ◌≡◌}
use Rattle.unit.specs.declared.Unit.{Unit}
use Rattle.whole.specs.Largest.{leg_of}
use Rattle.whole.specs.Signed.{negative, signed}
use Rattle.rows.specs.declared.Row.{Row}
use Rattle.flows.specs.declared.Flow.{Flow}
use Rattle.flows.specs.declared.Flow.TheVariants.{Out, In, Idle}
use Rattle.storage.specs.declared.Outcome.{Outcome}
use Rattle.unit.specs.Ranges.{idle_draw, holding}
use Rattle.rows.specs.Rows.{no_row, unit_by, draw_by, vars_by, most_by, floor_by, top_by, full_by, clear_by, rest_by}
use Rattle.energy.specs.Limits.{grid_loss, limited_vars, held_size, removed_by, added_by, vars_of}
use Rattle.flows.specs.Flows.{inverter_watts, stored_of, loss_of}
use Rattle.storage.specs.Step.{grid_watts}

-- the vars of a unit that idles
abbrev pub idle_vars : Unit → ℤ
idle_vars u = vars_of u (inverter_watts u Idle)

-- and what it draws at the grid
abbrev pub rest_draw : Unit → ℕ
rest_draw u = idle_draw u + u.grid_loss

-- what a step gives where the unit idles, by what it draws and its vars then
abbrev pub rest_of : ℕ → ℤ → ℕ → ℕ → Outcome
rest_of draw vars held seconds = record { watts = neg_ℤ (pos draw); vars = vars; stored = held; loss = draw * seconds }

-- the most that a request is held at: one of S watts
abbrev pub most_held : Unit → ℕ
most_held u = held_size u (pos u.kva)

-- ---- what a row keeps of its unit, for steps of so many seconds

-- from this store on the unit can give a watt
abbrev pub floor_of : Unit → ℕ → ℕ
floor_of u seconds = u.reserve + removed_by u seconds 1

-- above this store there is no room for what the first watt that is stored adds
abbrev pub top_of : Unit → ℕ → ℕ
top_of u seconds = u.rated - seconds * u.charge / 10000

-- its var request, limited, and the most watts that leave room for it
abbrev pub full_vars : Unit → ℤ
full_vars u = signed (negative u.var_request) (limited_vars u)

abbrev pub clear_watts : Unit → ℕ
clear_watts u = leg_of u.kva (limited_vars u)

-- what its circle leaves beside the idle draw
abbrev pub rest_leg : Unit → ℕ
rest_leg u = leg_of u.kva (idle_draw u)

-- a row keeps what is so of its unit
pub record Told (seconds : ℕ) (row : Row) : Type 0 where
  pub draw_is : draw_by row ≡ rest_draw (unit_by row)
  pub vars_is : vars_by row ≡ idle_vars (unit_by row)
  pub most_is : most_by row ≡ most_held (unit_by row)
  pub floor_is : floor_by row ≡ floor_of (unit_by row) seconds
  pub top_is : top_by row ≡ top_of (unit_by row) seconds
  pub full_is : full_by row ≡ full_vars (unit_by row)
  pub clear_is : clear_by row ≡ clear_watts (unit_by row)
  pub rest_is : rest_by row ≡ rest_leg (unit_by row)

pub record Rested (seconds : ℕ) (rows : List Row) : Type 0 where
  pub told : (i : ℕ) → i < length rows → Told seconds (get_or rows i no_row)

-- the unit of row i, with what it holds
abbrev pub row_unit : List Row → ℕ → ℕ → Unit
row_unit rows i held = holding (unit_by (get_or rows i no_row)) held

-- ---- what becomes of a request that is held at p watts, as far as can be told at once: 0 the unit idles, 1 it gives all of them, 2 it takes all of them,
-- 3 says nothing. Watts above `clear` are left open
unfoldable pub kind_out : Unit → ℕ → ℕ → ℕ → ℕ
unfolding removed_by
kind_out u seconds p clear =
    cond (eqb p 0 || ltb u.stored (floor_of u seconds)) 0 (cond (ltb (u.stored - u.reserve) (removed_by u seconds p) || ltb clear p) 3 1)

unfoldable pub kind_in : Unit → ℕ → ℕ → ℕ → ℕ
unfolding added_by
kind_in u seconds p clear =
    cond (ltb (top_of u seconds) u.stored) 0
    (cond (eqb (added_by u seconds p) 0) 0 (cond (ltb (u.rated - u.stored) (added_by u seconds p) || ltb clear p) 3 2))

unfoldable pub kind_of : Unit → ℕ → ℤ → ℕ → ℕ → ℕ
unfolding kind_out kind_in
kind_of u seconds request p clear = cond (negative request) (kind_in u seconds p clear) (kind_out u seconds p clear)

-- what flows by the kind
unfoldable pub flow_by : ℕ → ℕ → Flow
flow_by kind p = cond (eqb kind 1) (Out p) (cond (eqb kind 2) (In p) Idle)

-- and what a step gives by what flows, with these vars
unfoldable pub outcome_with : Unit → ℕ → Flow → ℤ → Outcome
unfolding grid_watts stored_of loss_of
outcome_with u seconds flow vars = record {
  watts = grid_watts u flow;
  vars = vars;
  stored = stored_of u seconds flow;
  loss = loss_of u seconds flow + grid_loss u * seconds;
}
