-- A unit's values, in the file's order, and their ranges (rules Q); the idle draw and its limit; the editions; the length of a step. The idle loss has
-- two places (U2): the DC side, `dc_loss`, and the grid connection, `grid_loss`. What an ampere of its connection is in watts (P10) is `link`.
use Rattle.std.specs.Prelude.{ℕ, ◌*◌, Bool, true, cond, ◌&&◌, ◌||◌, ◌≡◌, leb, eqb, nat_abs}
use Rattle.whole.specs.Interval.{between}
use Rattle.whole.specs.Quotient.{ceil}
use Rattle.unit.specs.declared.Unit.{Unit}

-- what the inverter of an idle unit draws: the DC loss by its efficiency, rounded up
unfoldable pub idle_draw : Unit → ℕ
unfolding ceil
idle_draw u = ceil (u.dc_loss * 10000) u.inverter

-- the five values that a pass looks at: rated energy 1 to 10^13 J, reserve and stored 0 to rated, power rating 1 to 10^8 W, weight 1 to 10,000
unfoldable pub member_in : ℕ → ℕ → ℕ → ℕ → ℕ → Bool
member_in rated reserve stored rating weight =
    between 1 10000000000000 rated && leb reserve rated && leb stored rated && between 1 100000000 rating && between 1 10000 weight

-- all of them: these, S, the losses, the var request, the efficiencies, the priority, an idle draw of at most S, and var limits of at most S
unfoldable pub unit_in : Unit → Bool
unfolding member_in idle_draw
unit_in u =
    member_in u.rated u.reserve u.stored u.rating u.weight
    && between 1 100000000 u.kva && leb u.dc_loss 10000000 && leb u.grid_loss 10000000 && leb (nat_abs u.var_request) 100000000
    && between 1000 10000 u.inverter && between 1000 10000 u.charge && between 1000 10000 u.discharge
    && leb u.priority 1 && leb (idle_draw u) u.kva && leb u.provide u.kva && leb u.absorb u.kva

-- the editions; from the second on a unit has var limits of its own, and in the first both are S (Q45); in the third its idle loss sits at the grid
abbrev pub edition_in : ℕ → Bool
edition_in edition = between 1 3 edition

abbrev pub own_limits : ℕ → Bool
own_limits edition = leb 2 edition

abbrev pub limit_in : ℕ → ℕ → ℕ → ℕ
limit_in edition kva own = cond (own_limits edition) own kva

abbrev pub older : ℕ → Bool
older edition = leb 3 edition

abbrev pub direct_in : ℕ → ℕ → ℕ
direct_in edition loss = cond (older edition) 0 loss

abbrev pub grid_in : ℕ → ℕ → ℕ
grid_in edition loss = cond (older edition) loss 0

-- the unit as its edition has it, whose idle loss is given as its DC loss
unfoldable pub in_edition : ℕ → Unit → Unit
in_edition edition u = record {
  rated = u.rated;
  reserve = u.reserve;
  stored = u.stored;
  rating = u.rating;
  kva = u.kva;
  dc_loss = direct_in edition u.dc_loss;
  var_request = u.var_request;
  weight = u.weight;
  inverter = u.inverter;
  charge = u.charge;
  discharge = u.discharge;
  priority = u.priority;
  provide = limit_in edition u.kva u.provide;
  absorb = limit_in edition u.kva u.absorb;
  grid_loss = grid_in edition u.dc_loss;
  link = u.link;
}

-- a step of 1 to 86,400 s
abbrev pub seconds_in : ℕ → Bool
seconds_in seconds = between 1 86400 seconds

-- the unit with another store
abbrev pub holding : Unit → ℕ → Unit
holding u stored = record {
  rated = u.rated;
  reserve = u.reserve;
  stored = stored;
  rating = u.rating;
  kva = u.kva;
  dc_loss = u.dc_loss;
  var_request = u.var_request;
  weight = u.weight;
  inverter = u.inverter;
  charge = u.charge;
  discharge = u.discharge;
  priority = u.priority;
  provide = u.provide;
  absorb = u.absorb;
  grid_loss = u.grid_loss;
  link = u.link;
}

-- the unit with a connection of so many phases at so many volts (Q46, Q47): an ampere of it is phases times volts in watts
abbrev pub link_of : ℕ → ℕ → ℕ
link_of phases volts = phases * volts

unfoldable pub connection_in : ℕ → ℕ → Bool
connection_in phases volts = (eqb phases 1 || eqb phases 3) && between 1 40000 volts

abbrev pub linked : Unit → ℕ → Unit
linked u link = record {
  rated = u.rated;
  reserve = u.reserve;
  stored = u.stored;
  rating = u.rating;
  kva = u.kva;
  dc_loss = u.dc_loss;
  var_request = u.var_request;
  weight = u.weight;
  inverter = u.inverter;
  charge = u.charge;
  discharge = u.discharge;
  priority = u.priority;
  provide = u.provide;
  absorb = u.absorb;
  grid_loss = u.grid_loss;
  link = link;
}

-- the idle loss, wherever it sits
abbrev pub idle_loss_of : Unit → ℕ
idle_loss_of u = cond (eqb u.grid_loss 0) u.dc_loss u.grid_loss

-- a unit and a step length in their ranges
pub record Ranged (u : Unit) (seconds : ℕ) : Type 0 where
  pub unit : unit_in u ≡ true
  pub seconds_in_is : seconds_in seconds ≡ true
