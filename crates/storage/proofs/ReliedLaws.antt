-- What a planner relies on, of each flow that is at most the held size: what it removes lies above the reserve and what it adds has room, the loss
-- is the difference from what passes the grid, which is never below 0, and the vars are at most the leg that the watts leave. Assumes nothing.
use mathlib.Core.Path.{◌≡◌, refl, subst⁻¹}
use mathlib.Core.Bool.{Bool, true, false, cond}
use mathlib.Core.Logic.{◌⊎◌, inl, inr}
use Prim.Native.Nat.{ℕ, zero, suc, ◌+◌, ◌*◌, ◌≤◌, min}
use native.Mathlib.Nat.{le_trans, le_of_eq}
use native.Mathlib.Omega.{arith}
use lib.Dec.{le→leb, eqb}
use lib.IntN.{ℤ, pos, negsuc, neg_ℤ, nat_abs}
use lib.Signed.{◌≤ℤ◌}
use Rattle.whole.proofs.CircleLaws.{in_circle_lem}
use Rattle.whole.proofs.SignLaws.{size_neg}
use Rattle.whole.specs.Circle.{vars_in}
use Rattle.whole.specs.Largest.{leg_of}
use Rattle.whole.specs.Signed.{negative, signed}
use Rattle.unit.proofs.RangeLaws.{Bounds}
use Rattle.storage.proofs.GridLaws.{lower}
use Rattle.flows.proofs.FlowLaws.{Able, removal_covers, addition_covered}
use Rattle.unit.specs.declared.Unit.{Unit}
use Rattle.flows.specs.declared.Flow.{Flow}
use Rattle.flows.specs.declared.Flow.TheVariants.{Out, In, Idle}
use Rattle.unit.specs.Ranges.{idle_draw}
use Rattle.storage.specs.Relied.{Balanced, Conserved}
use Rattle.energy.specs.Limits.{limited_vars, held_size, removed_by, added_by, takeable, grid_loss, vars_of}
use Rattle.flows.specs.Flows.{charged, flow_of, inverter_watts, stored_of, loss_of}
use Rattle.storage.specs.Step.{grid_watts, outcome_of}

-- ---- the vars leave the watts in the circle
pub vars_in_circle : (u : Unit) (watts : ℤ) → nat_abs watts ≤ u.kva
    → nat_abs watts * nat_abs watts + nat_abs (vars_of u watts) * nat_abs (vars_of u watts) ≤ u.kva * u.kva
unfolding vars_of
vars_in_circle u watts h = in_circle_lem u.kva (negative u.var_request) (limited_vars u) (nat_abs watts) h

-- ---- and lie between the unit's limits
draw_below : (d n : ℕ) → neg_ℤ (pos d) ≤ℤ pos n
draw_below zero n = record { le = le→leb 0 n (omega arith) }
draw_below (suc d) n = record { le = tt }

side_provided : (b : Bool) (asked provide absorb leg : ℕ) → signed b (min (min asked (cond b absorb provide)) leg) ≤ℤ pos provide
side_provided false asked provide absorb leg = record { le = le→leb (min (min asked provide) leg) provide (omega arith) }
side_provided true asked provide absorb leg = draw_below (min (min asked absorb) leg) provide

side_absorbed : (b : Bool) (asked provide absorb leg : ℕ) → neg_ℤ (pos absorb) ≤ℤ signed b (min (min asked (cond b absorb provide)) leg)
side_absorbed false asked provide absorb leg = draw_below absorb (min (min asked provide) leg)
side_absorbed true asked provide absorb leg = draws_less absorb (min (min asked absorb) leg) (omega arith)
  where
    draws_less : (d n : ℕ) → n ≤ d → neg_ℤ (pos d) ≤ℤ neg_ℤ (pos n)
    draws_less zero zero h = record { le = tt }
    draws_less zero (suc n) h = absurd (omega arith)
    draws_less (suc d) zero h = record { le = tt }
    draws_less (suc d) (suc n) h = record { le = le→leb n d (omega arith) }

pub vars_provided : (u : Unit) (watts : ℤ) → vars_of u watts ≤ℤ pos u.provide
unfolding vars_of vars_in
vars_provided u watts = side_provided (negative u.var_request) (nat_abs u.var_request) u.provide u.absorb (leg_of u.kva (nat_abs watts))

pub vars_absorbed : (u : Unit) (watts : ℤ) → neg_ℤ (pos u.absorb) ≤ℤ vars_of u watts
unfolding vars_of vars_in
vars_absorbed u watts = side_absorbed (negative u.var_request) (nat_abs u.var_request) u.provide u.absorb (leg_of u.kva (nat_abs watts))

-- ---- charging and idling both draw from the grid. A draw of d watts: its size, that it is below whatever is asked, and that energy is conserved
-- where what is stored and lost is what was stored and drawn; each also where d is 0
draw_size : (d n : ℕ) → d ≤ n → nat_abs (neg_ℤ (pos d)) ≤ n
draw_size d n h = le_trans (le_of_eq (size_neg (pos d))) h

drawn : (seconds stored d after loss : ℕ) → after + loss ≡ stored + d * seconds → Balanced seconds stored (neg_ℤ (pos d)) after loss
drawn seconds stored zero after loss e = omega arith
drawn seconds stored (suc d) after loss e = e

-- ---- a flow of at most p, for which the store has enough above the reserve, or room
module _ (u : Unit) (seconds p : ℕ) where
  module _ (b : Bounds u seconds) where
    pub stays : u.reserve ≤ u.stored → (f : Flow) → Able u seconds p f → u.reserve ≤ stored_of u seconds f
    unfolding stored_of
    stays r (Out x) a = omega arith
    stays r (In x) a = omega arith
    stays r Idle a = omega arith

    -- wherever the reserve lies
    pub never_above : (f : Flow) → Able u seconds p f → stored_of u seconds f ≤ u.rated
    unfolding stored_of
    never_above (Out x) a = omega arith
    never_above (In x) a = omega arith
    never_above Idle a = omega arith

    pub watts_le : p ≤ u.kva → (f : Flow) → Able u seconds p f → nat_abs (inverter_watts u f) ≤ u.kva
    unfolding inverter_watts
    watts_le h (Out x) a = le_trans a.0 h
    watts_le h (In x) a = draw_size x u.kva (le_trans a.0 h)
    watts_le h Idle a = draw_size (idle_draw u) u.kva b.draw_most

    -- by the inverter's watts, and so by those at the grid
    balances : (f : Flow) → Able u seconds p f → Balanced seconds u.stored (inverter_watts u f) (stored_of u seconds f) (loss_of u seconds f)
    unfolding inverter_watts stored_of loss_of
    balances (Out x) a = let l : x * seconds ≤ removed_by u seconds x = removal_covers u seconds x b in omega arith
    balances (In x) a =
        let l : added_by u seconds x ≤ x * seconds = addition_covered u seconds x b in
        drawn seconds u.stored x (stored_of u seconds (In x)) (loss_of u seconds (In x)) (omega arith)
    balances Idle a = drawn seconds u.stored (idle_draw u) u.stored (loss_of u seconds Idle) refl

    pub conserves : (f : Flow) → Able u seconds p f → Conserved seconds u.stored (outcome_of u seconds f)
    unfolding outcome_of grid_watts
    conserves f a = lower seconds u.stored (stored_of u seconds f) (loss_of u seconds f) (inverter_watts u f) (grid_loss u) (balances f a)

  pub no_more : (n : ℕ) → p ≤ n → (f : Flow) → Able u seconds p f → inverter_watts u f ≤ℤ pos n
  unfolding inverter_watts
  no_more n h (Out x) a = record { le = le→leb x n (le_trans a.0 h) }
  no_more n h (In x) a = draw_below x n
  no_more n h Idle a = draw_below (idle_draw u) n

  pub moves_no_more_lem : (n : ℕ) → p ≤ n → (f : Flow) → Able u seconds p f → (nat_abs (inverter_watts u f) ≤ n) ⊎ (inverter_watts u f ≡ neg_ℤ (pos (idle_draw u)))
  unfolding inverter_watts
  moves_no_more_lem n h (Out x) a = inl (le_trans a.0 h)
  moves_no_more_lem n h (In x) a = inl (draw_size x n (le_trans a.0 h))
  moves_no_more_lem n h Idle a = inr refl

-- what is asked of a charging unit flows in, or nothing flows
pub charging_draws : (u : Unit) (seconds : ℕ) (request : ℤ) (x : ℕ) → request ≡ negsuc x → inverter_watts u (flow_of u seconds request) ≤ℤ pos 0
unfolding flow_of charged inverter_watts
charging_draws u seconds request x e = subst⁻¹ (λ (r : ℤ). inverter_watts u (flow_of u seconds r) ≤ℤ pos 0) e asked
  where
    P : ℕ
    P = held_size u (negsuc x)

    by_addition : (b : Bool) → inverter_watts u (cond b Idle (In (takeable u seconds P))) ≤ℤ pos 0
    by_addition true = draw_below (idle_draw u) 0
    by_addition false = draw_below (takeable u seconds P) 0

    asked : inverter_watts u (flow_of u seconds (negsuc x)) ≤ℤ pos 0
    asked = by_addition (eqb (added_by u seconds (takeable u seconds P)) 0)
