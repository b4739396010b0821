-- Nobody has to believe this file: it is how the code carries units. A row has a unit's values, and what the code keeps beside them.
use Rattle.std.specs.Prelude.{ℕ, List, map, ℤ, pos}
use Rattle.unit.specs.declared.Unit.{Unit}
use Rattle.rows.specs.declared.Row.{Row}

-- a row of no values, as it stands past the end of rows
abbrev pub no_row : Row
no_row = record {
  unit = record {
    rated = 0;
    reserve = 0;
    stored = 0;
    rating = 0;
    kva = 0;
    dc_loss = 0;
    var_request = pos 0;
    weight = 0;
    inverter = 0;
    charge = 0;
    discharge = 0;
    priority = 0;
    provide = 0;
    absorb = 0;
    grid_loss = 0;
    link = 0;
  };
  kept = record {
    draw = 0;
    vars = pos 0;
    most = 0;
    floor = 0;
    top = 0;
    full = pos 0;
    clear = 0;
    rest = 0;
  };
}

-- the unit of a row
abbrev pub unit_by : Row → Unit
unit_by row = row.unit

-- and what is kept beside it
abbrev pub draw_by : Row → ℕ
draw_by row = row.kept.draw

abbrev pub vars_by : Row → ℤ
vars_by row = row.kept.vars

abbrev pub most_by : Row → ℕ
most_by row = row.kept.most

abbrev pub floor_by : Row → ℕ
floor_by row = row.kept.floor

abbrev pub top_by : Row → ℕ
top_by row = row.kept.top

abbrev pub full_by : Row → ℤ
full_by row = row.kept.full

abbrev pub clear_by : Row → ℕ
clear_by row = row.kept.clear

abbrev pub rest_by : Row → ℕ
rest_by row = row.kept.rest

-- the units of rows
unfoldable pub units_by : List Row → List Unit
units_by rows = map unit_by rows

-- what each of them holds
unfoldable pub stores_by : List Row → List ℕ
unfolding units_by
stores_by rows = map (λ (u : Unit). u.stored) (units_by rows)
