-- A unit and a step length in their ranges, as plain bounds on numbers: what every later proof counts on. Assumes nothing.
use mathlib.Core.Path.{◌≡◌, refl}
use mathlib.Core.Bool.{Bool, true, false, ◌||◌}
use Prim.Native.Nat.{ℕ, ◌≤◌}
use native.Mathlib.Nat.{le_trans, le_of_eq, mul-le-mul}
use lib.Dec.{leb, eqb, lit≤}
use lib.IntN.{nat_abs}
use borrow.Author.Tests.{leb-true, eqb-true}
use Rattle.whole.proofs.OverLaws.{and_parts}
use Rattle.unit.specs.declared.Unit.{Unit}
use Rattle.whole.specs.Interval.{between}
use Rattle.unit.specs.Ranges.{idle_draw, member_in, unit_in, link_of, connection_in, Ranged}

pub record Bounds (u : Unit) (seconds : ℕ) : Type 0 where
  pub rated_least : 1 ≤ u.rated
  pub rated_most : u.rated ≤ 10000000000000
  pub reserve_most : u.reserve ≤ u.rated
  pub stored_most : u.stored ≤ u.rated
  pub rating_most : u.rating ≤ 100000000
  pub kva_least : 1 ≤ u.kva
  pub kva_most : u.kva ≤ 100000000
  pub idle_most : u.dc_loss ≤ 10000000
  pub grid_most : u.grid_loss ≤ 10000000
  pub vars_most : nat_abs u.var_request ≤ 100000000
  pub weight_most : u.weight ≤ 10000
  pub inverter_least : 1000 ≤ u.inverter
  pub inverter_most : u.inverter ≤ 10000
  pub charge_least : 1000 ≤ u.charge
  pub charge_most : u.charge ≤ 10000
  pub discharge_least : 1000 ≤ u.discharge
  pub discharge_most : u.discharge ≤ 10000
  pub priority_most : u.priority ≤ 1
  pub draw_most : idle_draw u ≤ u.kva
  pub provide_most : u.provide ≤ u.kva
  pub absorb_most : u.absorb ≤ u.kva
  pub seconds_least : 1 ≤ seconds
  pub seconds_most : seconds ≤ 86400

within : (low high x : ℕ) → between low high x ≡ true → (low ≤ x) × (x ≤ high)
within low high x e =
    let p = and_parts (leb low x) (leb x high) e in
    (leb-true low x p.0, leb-true x high p.1)

pub bounds : {u : Unit} {seconds : ℕ} → Ranged u seconds → Bounds u seconds
unfolding member_in unit_in
bounds {u} {seconds} r =
    let absorb = and_parts _ _ r.unit in
    let provide = and_parts _ _ absorb.0 in
    let draw = and_parts _ _ provide.0 in
    let priority = and_parts _ _ draw.0 in
    let discharge = and_parts _ _ priority.0 in
    let charge = and_parts _ _ discharge.0 in
    let inverter = and_parts _ _ charge.0 in
    let vars = and_parts _ _ inverter.0 in
    let grid = and_parts _ _ vars.0 in
    let idle = and_parts _ _ grid.0 in
    let kva = and_parts _ _ idle.0 in
    let weight = and_parts _ _ kva.0 in
    let rating = and_parts _ _ weight.0 in
    let stored = and_parts _ _ rating.0 in
    let reserve = and_parts _ _ stored.0 in
    let rated-in = within 1 10000000000000 u.rated reserve.0 in
    let rating-in = within 1 100000000 u.rating rating.1 in
    let kva-in = within 1 100000000 u.kva kva.1 in
    let weight-in = within 1 10000 u.weight weight.1 in
    let inverter_in_is = within 1000 10000 u.inverter inverter.1 in
    let charge-in = within 1000 10000 u.charge charge.1 in
    let discharge-in = within 1000 10000 u.discharge discharge.1 in
    let seconds_in_is = within 1 86400 seconds r.seconds_in_is in
    record {
      rated_least = rated-in.0;
      rated_most = rated-in.1;
      reserve_most = leb-true _ _ reserve.1;
      stored_most = leb-true _ _ stored.1;
      rating_most = rating-in.1;
      kva_least = kva-in.0;
      kva_most = kva-in.1;
      idle_most = leb-true _ _ idle.1;
      grid_most = leb-true _ _ grid.1;
      vars_most = leb-true _ _ vars.1;
      weight_most = weight-in.1;
      inverter_least = inverter_in_is.0;
      inverter_most = inverter_in_is.1;
      charge_least = charge-in.0;
      charge_most = charge-in.1;
      discharge_least = discharge-in.0;
      discharge_most = discharge-in.1;
      priority_most = leb-true _ _ priority.1;
      draw_most = leb-true _ _ draw.1;
      provide_most = leb-true _ _ provide.1;
      absorb_most = leb-true _ _ absorb.1;
      seconds_least = seconds_in_is.0;
      seconds_most = seconds_in_is.1;
    }

-- an ampere of a connection in its ranges is at most 120,000 W
pub link_most : (phases volts : ℕ) → connection_in phases volts ≡ true → link_of phases volts ≤ 120000
unfolding connection_in
link_most phases volts e = mul-le-mul (few (eqb phases 1) refl p.0) (within 1 40000 volts p.1).1
  where
    p : ((eqb phases 1 || eqb phases 3) ≡ true) × (between 1 40000 volts ≡ true)
    p = and_parts (eqb phases 1 || eqb phases 3) (between 1 40000 volts) e

    few : (t : Bool) → eqb phases 1 ≡ t → (t || eqb phases 3) ≡ true → phases ≤ 3
    few true one h = le_trans (le_of_eq (eqb-true phases 1 one)) (lit≤ tt)
    few false one h = le_of_eq (eqb-true phases 3 h)
