-- What a step gives, as the code meets it: from what flows, of a unit that is asked nothing, and of any numbers. Assumes nothing.
use mathlib.Core.Path.{◌≡◌, refl, sym, ap, ap₂, ◌∙◌, subst⁻¹}
use mathlib.Core.Bool.{Bool, true, false, not, cond, ◌&&◌}
use Prim.Native.Nat.{ℕ, ◌+◌, ◌*◌, ◌≤◌, ◌<◌, ◌^◌}
use native.Mathlib.Nat.{mul-le-mul, lt_of_le_of_lt, add-le-add, add-mul}
use native.Mathlib.Omega.{arith}
use lib.Dec.{eqb, lit<}
use lib.IntN.{ℤ, pos, neg_ℤ, nat_abs, ◌-ℤ◌}
use lib.Signed.{mag}
use mir.Syntax.{w32}
use mir.Val.{to_z, of_z}
use borrow.Author.Tests.{le-leb, lt-leb, not-false}
use Rattle.whole.specs.declared.Refusal.{Refusal}
use Rattle.whole.specs.Call.{refusal}
use Rattle.whole.proofs.OverLaws.{and_parts}
use Rattle.whole.proofs.SignLaws.{read}
use Rattle.unit.proofs.RangeLaws.{Bounds, bounds}
use Rattle.unit.specs.declared.Unit.{Unit}
use Rattle.unit.specs.Ranges.{idle_draw, unit_in, seconds_in, edition_in, in_edition, Ranged}
use Rattle.energy.proofs.LimitLaws.{held_most}
use Rattle.energy.specs.Limits.{held_size, grid_loss, vars_of}
use Rattle.flows.specs.declared.Flow.{Flow}
use Rattle.flows.specs.declared.Flow.TheVariants.{Idle}
use Rattle.flows.specs.declared.Move.{Move}
use Rattle.flows.specs.Flows.{flow_of, inverter_watts, stored_of, loss_of}
use Rattle.flows.specs.Posts.{Carried, Moving, move_by}
use Rattle.flows.proofs.FlowLaws.{discharged_nothing, flow_out, flow_carried, flow_small, loss_small}
use Rattle.storage.proofs.GridLaws.{draw_more}
use Rattle.storage.specs.declared.Outcome.{Outcome}
use Rattle.storage.specs.Ranges.{step_refusal}
use Rattle.storage.specs.Posts.{idle_vars, rest_draw, rest_of, outcome_with}
use Rattle.storage.specs.Step.{grid_watts, outcome_of, step_of, stepped_of, stepped_as}
use Rattle.std.proofs.Common.{Err, Ok}

-- ---- a step from what flows
pub grid_fits : (u : Unit) (s : ℕ) → Ranged u s → grid_loss u * s < 2 ^ 64
grid_fits u s r = lt_of_le_of_lt (mul-le-mul (bounds r).grid_most (bounds r).seconds_most) (lit< tt)

-- the outcome of a flow, each number as the code has it
module _ (u : Unit) (s : ℕ) (f : Flow) where
  -- with vars as they are
  pub outcome_with_lem : (carried watts vars : ℤ) → mag carried < 2 ^ 31 → mag watts < 2 ^ 31 → mag vars < 2 ^ 31 → (stored loss : ℕ)
      → carried ≡ inverter_watts u f → watts ≡ to_z w32 (of_z w32 carried) -ℤ pos (grid_loss u) → stored ≡ stored_of u s f → loss ≡ loss_of u s f
      → ◌≡◌ {A = Outcome} (record { watts = to_z w32 (of_z w32 watts); vars = to_z w32 (of_z w32 vars); stored = stored; loss = loss + grid_loss u * s }) (outcome_with u s f vars)
  unfolding outcome_with grid_watts
  outcome_with_lem carried watts vars hc hw hv stored loss ec ew es el =
      let k : to_z w32 (of_z w32 carried) ≡ inverter_watts u f = read w32 carried hc ∙ ec in
      cc (read w32 watts hw, read w32 vars hv)

  pub outcome_is : outcome_with u s f (vars_of u (inverter_watts u f)) ≡ outcome_of u s f
  unfolding outcome_of outcome_with
  outcome_is = refl

  pub outcome_by : (carried watts vars : ℤ) → mag carried < 2 ^ 31 → mag watts < 2 ^ 31 → mag vars < 2 ^ 31 → (stored loss : ℕ)
      → carried ≡ inverter_watts u f → watts ≡ to_z w32 (of_z w32 carried) -ℤ pos (grid_loss u) → vars ≡ vars_of u (to_z w32 (of_z w32 carried))
      → stored ≡ stored_of u s f → loss ≡ loss_of u s f
      → ◌≡◌ {A = Outcome} (record { watts = to_z w32 (of_z w32 watts); vars = to_z w32 (of_z w32 vars); stored = stored; loss = loss + grid_loss u * s }) (outcome_of u s f)
  outcome_by carried watts vars hc hw hv stored loss ec ew ev es el =
      outcome_with_lem carried watts vars hc hw hv stored loss ec ew es el ∙ ap (outcome_with u s f) (ev ∙ ap (vars_of u) (read w32 carried hc ∙ ec)) ∙ outcome_is

  module _ (moved : ℕ) (m : Moving u s f moved) where
    -- the loss is at most what the store holds, or what is taken from the grid, and that at the grid comes to it
    pub flow_loss_fits : (loss : ℕ) → loss ≡ loss_of u s f → loss + grid_loss u * s < 2 ^ 64
    flow_loss_fits loss e =
        let b = bounds m.ranged in
        let l : grid_loss u * s ≤ 10000000 * 86400 = mul-le-mul b.grid_most b.seconds_most in
        let k : loss ≤ 10000000000000 = subst⁻¹ (λ (n : ℕ). n ≤ 10000000000000) e (loss_small u s f moved m) in
        lt_of_le_of_lt (add-le-add k l) (lit< tt)

    -- what the inverter carries is small
    pub flow_carried_small : (carried : ℤ) → carried ≡ inverter_watts u f → mag carried < 2 ^ 31 → nat_abs (to_z w32 (of_z w32 carried)) ≤ 100000000
    flow_carried_small carried e h = subst⁻¹ (λ (z : ℤ). nat_abs z ≤ 100000000) (read w32 carried h ∙ e) (flow_small u s f moved m)

-- the flow that the code has, of the request that is read back from its bits, and what it moves
module _ (u : Unit) (s : ℕ) (request : ℤ) (h : mag request < 2 ^ 31) (m : Move) (e : m ≡ move_by u s (flow_of u s (to_z w32 (of_z w32 request)))) where
  flow_read : m ≡ move_by u s (flow_of u s request)
  flow_read = e ∙ ap (λ (z : ℤ). move_by u s (flow_of u s z)) (read w32 request h)

  pub moving : Ranged u s → Moving u s m.flow m.moved
  moving r =
      let k : Carried u s (flow_of u s request) = flow_carried u s request in
      subst⁻¹ (λ (n : Move). Moving u s n.flow n.moved) flow_read (record { ranged = r; carried = k; moved_is = refl })

  -- a step is the outcome of its flow
  pub step_by : (o : Outcome) → o ≡ outcome_of u s m.flow → o ≡ step_of u s request
  unfolding step_of
  step_by o d = d ∙ ap (λ (n : Move). outcome_of u s n.flow) flow_read

-- ---- a step of a unit that is asked nothing
module _ (u : Unit) (s : ℕ) where
  -- nothing is held, so nothing flows
  idle_flows : flow_of u s (pos 0) ≡ Idle
  idle_flows =
      let m = (held_most u (pos 0)).0 in
      sym (discharged_nothing u s (held_size u (pos 0)) (omega arith) ∙ flow_out u s (pos 0) refl)

  pub idle_with : (vars : ℤ) → outcome_with u s Idle vars ≡ rest_of (rest_draw u) vars u.stored s
  unfolding outcome_with inverter_watts grid_watts stored_of loss_of
  idle_with vars =
      ap₂ (λ (w : ℤ) (l : ℕ). record { watts = w; vars = vars; stored = u.stored; loss = l }) (draw_more (idle_draw u) (grid_loss u))
      (sym (add-mul (idle_draw u) (grid_loss u) s))

  pub idle_step : step_of u s (pos 0) ≡ rest_of (rest_draw u) (idle_vars u) u.stored s
  unfolding step_of
  idle_step = ap (outcome_of u s) idle_flows ∙ sym (outcome_is u s Idle) ∙ idle_with (idle_vars u)

-- what an idle unit draws, and its vars then, as the code has them
pub idle_draw_small : (u : Unit) → unit_in u ≡ true → (n : ℕ) → n ≡ idle_draw u → n ≤ 100000000
idle_draw_small u h n e =
    let b : Bounds u 1 = bounds (record { unit = h; seconds_in_is = refl }) in
    omega (arith, e)

pub rest_draw_small : (u : Unit) → unit_in u ≡ true → (n : ℕ) → n ≡ idle_draw u → n + grid_loss u ≤ 110000000
rest_draw_small u h n e =
    let b : Bounds u 1 = bounds (record { unit = h; seconds_in_is = refl }) in
    omega (arith, e)

pub resting_small : (u : Unit) → unit_in u ≡ true → (n : ℕ) → n ≡ rest_draw u → n ≤ 110000000
resting_small u h n e = subst⁻¹ (λ (k : ℕ). k ≤ 110000000) e (rest_draw_small u h (idle_draw u) refl)

pub idle_vars_most : (u : Unit) → unit_in u ≡ true → nat_abs u.var_request ≤ 100000000
idle_vars_most u h = let b : Bounds u 1 = bounds (record { unit = h; seconds_in_is = refl }) in b.vars_most

pub idle_vars_are : (u : Unit) (n : ℕ) → n ≡ idle_draw u → (watts vars : ℤ) → mag watts < 2 ^ 31 → mag vars < 2 ^ 31 → watts ≡ neg_ℤ (pos n)
    → vars ≡ vars_of u (to_z w32 (of_z w32 watts)) → to_z w32 (of_z w32 vars) ≡ idle_vars u
unfolding inverter_watts
idle_vars_are u n e watts vars hw hv ew ev =
    read w32 vars hv ∙ ev ∙ ap (vars_of u) (read w32 watts hw ∙ ew ∙ ap (λ (k : ℕ). neg_ℤ (pos k)) e)

-- a rest, each number as the code has it
pub rest_is : (draw : ℕ) (vars : ℤ) (held s : ℕ) (watts : ℤ) → mag watts < 2 ^ 31 → mag vars < 2 ^ 31 → watts ≡ neg_ℤ (pos draw)
    → ◌≡◌ {A = Outcome} (record { watts = to_z w32 (of_z w32 watts); vars = to_z w32 (of_z w32 vars); stored = held; loss = draw * s }) (rest_of draw vars held s)
rest_is draw vars held s watts hw hv ew = cc (read w32 watts hw, read w32 vars hv)

-- its loss fits 64 bits, whatever the step's length
pub rest_fits : (draw s : ℕ) → draw ≤ 110000000 → s < 2 ^ 32 → draw * s < 2 ^ 64
rest_fits draw s hd hs =
    let l : s ≤ 4294967295 = omega arith in
    lt_of_le_of_lt (mul-le-mul hd l) (lit< tt)

-- ---- a step of any numbers
module _ (u : Unit) (s : ℕ) (request : ℤ) where
  refused : (n : ℕ) → eqb n 0 ≡ false → step_refusal u s request ≡ n → (r : Refusal) → r ≡ refusal n → Err r ≡ stepped_of u s request
  unfolding stepped_of
  refused n z e r er =
      ap Err er
      ∙ sym (ap (λ (k : ℕ). cond (eqb k 0) (Ok (step_of u s request)) (Err (refusal k))) e
      ∙ ap (λ (t : Bool). cond t (Ok (step_of u s request)) (Err (refusal n))) z)

  pub refused_values : not (seconds_in s && unit_in u) ≡ true → (r : Refusal) → r ≡ refusal 5 → Err r ≡ stepped_of u s request
  unfolding step_refusal
  refused_values e = refused 5 refl (simp e)

  module _ (ranges : not (seconds_in s && unit_in u) ≡ false) where
    pub refused_rating : u.rating < nat_abs request → (r : Refusal) → r ≡ refusal 10 → Err r ≡ stepped_of u s request
    unfolding step_refusal
    refused_rating h = refused 10 refl (simp (ranges, lt-leb (nat_abs request) u.rating h))

    pub done : nat_abs request ≤ u.rating → Ok (step_of u s request) ≡ stepped_of u s request
    unfolding stepped_of step_refusal
    done h = sym (ap (λ (k : ℕ). cond (eqb k 0) (Ok (step_of u s request)) (Err (refusal k))) none)
      where
        none : step_refusal u s request ≡ 0
        none = simp (ranges, le-leb (nat_abs request) u.rating h)

pub ranged : (u : Unit) (s : ℕ) → not (seconds_in s && unit_in u) ≡ false → Ranged u s
ranged u s e =
    let p = and_parts (seconds_in s) (unit_in u) (not-false (seconds_in s && unit_in u) e) in
    record { unit = p.1; seconds_in_is = p.0 }

-- ---- a step of a unit of an edition, by the test that the code has made
module _ (edition : ℕ) (u : Unit) (s : ℕ) (request : ℤ) (known : Bool) (ek : known ≡ edition_in edition) where
  by_edition : (b : Bool) → not known ≡ b → stepped_as edition u s request ≡ cond b (Err (refusal 5)) (stepped_of (in_edition edition u) s request)
  unfolding stepped_as
  by_edition b e =
      ap (λ (t : Bool). cond t (stepped_of (in_edition edition u) s request) (Err (refusal 5))) (sym ek) ∙ turned known
      ∙ ap (λ (t : Bool). cond t (Err (refusal 5)) (stepped_of (in_edition edition u) s request)) e
    where
      turned : (t : Bool) → cond t (stepped_of (in_edition edition u) s request) (Err (refusal 5)) ≡ cond (not t) (Err (refusal 5)) (stepped_of (in_edition edition u) s request)
      turned true = refl
      turned false = refl

  pub no_edition : not known ≡ true → (r : Refusal) → r ≡ refusal 5 → Err r ≡ stepped_as edition u s request
  no_edition e r er = ap Err er ∙ sym (by_edition true e)

  pub as_edition : not known ≡ false → stepped_of (in_edition edition u) s request ≡ stepped_as edition u s request
  as_edition e = sym (by_edition false e)
