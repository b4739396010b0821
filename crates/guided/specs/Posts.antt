-- Nobody has to believe this file: the parts of contracts by name.
use Rattle.std.specs.Prelude.{ℕ, ◌-◌, cond, ◌≡◌, eqb}
use Rattle.whole.specs.Largest.{leg_of}
use Rattle.unit.specs.declared.Unit.{Unit}
use Rattle.rows.specs.declared.Row.{Row}
use Rattle.rows.specs.Rows.{unit_by, draw_by, rest_by}

-- what the circle leaves beside the watts, and the size of the inverter's watts, by the kind of a request that is held at p watts
unfoldable pub left_by : Row → ℕ → ℕ → ℕ
unfolding leg_of
left_by row kind p = cond (eqb kind 0) (rest_by row) (leg_of (unit_by row).kva p)

unfoldable pub size_by : Row → ℕ → ℕ → ℕ
size_by row kind p = cond (eqb kind 0) (draw_by row - (unit_by row).grid_loss) p

-- the unit v is u but for its var request and its priority
abbrev pub with_lead : Unit → Unit → Unit
with_lead u v = record {
  rated = u.rated;
  reserve = u.reserve;
  stored = u.stored;
  rating = u.rating;
  kva = u.kva;
  dc_loss = u.dc_loss;
  var_request = v.var_request;
  weight = u.weight;
  inverter = u.inverter;
  charge = u.charge;
  discharge = u.discharge;
  priority = v.priority;
  provide = u.provide;
  absorb = u.absorb;
  grid_loss = u.grid_loss;
  link = u.link;
}

abbrev pub LedFrom : Unit → Unit → Type 0
LedFrom u v = v ≡ with_lead u v
