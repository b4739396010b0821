-- One step of a unit that a voltage leads, from what the code has. Where watts come first, neither what the unit holds nor what flows hangs on the vars
-- requested. Assumes nothing.
use mathlib.Core.Path.{◌≡◌, refl, sym, ap, ap₂, ◌∙◌, subst⁻¹}
use mathlib.Core.Bool.{Bool, true, false, cond, ◌&&◌}
use Prim.Native.Nat.{ℕ, ◌^◌, ◌≤◌, ◌<◌, zero-le}
use native.Mathlib.Nat.{le_trans, le_of_eq, add-le-add}
use lib.Dec.{leb}
use lib.IntN.{ℤ, pos, neg_ℤ, nat_abs, ◌+ℤ◌, -ℤ-+ℤ_cancel}
use lib.Signed.{mag}
use mir.Syntax.{w32}
use borrow.Author.Tests.{le-leb}
use Rattle.whole.proofs.OverLaws.{and_parts}
use Rattle.whole.proofs.SignLaws.{read, size_sum, size_neg}
use Rattle.whole.specs.Interval.{between}
use Rattle.whole.specs.Signed.{negative}
use Rattle.unit.proofs.RangeLaws.{bounds}
use Rattle.unit.specs.declared.Unit.{Unit}
use Rattle.unit.specs.Ranges.{idle_draw, member_in, unit_in, Ranged}
use Rattle.energy.proofs.LimitLaws.{held_most}
use Rattle.energy.specs.Limits.{held_size, limited_vars, removed_by, deliverable, added_by, takeable, grid_loss, vars_of}
use Rattle.flows.proofs.FlowLaws.{flow_able}
use Rattle.flows.specs.declared.Flow.{Flow}
use Rattle.flows.specs.declared.Flow.TheVariants.{Out, In, Idle}
use Rattle.flows.specs.Flows.{discharged, charged, flow_of, inverter_watts, stored_of, loss_of}
use Rattle.storage.proofs.ReliedLaws.{watts_le}
use Rattle.storage.specs.declared.Outcome.{Outcome}
use Rattle.storage.specs.Step.{grid_watts, outcome_of, step_of}
use Rattle.lead.specs.declared.Lead.{Lead}
use Rattle.lead.specs.Lead.{first_by, lead, requested_by, kept_by, Modest}
use Rattle.guided.specs.Units.{Guiding, led_unit, watts_first, requested_of, led_step, vars_kept}
use Rattle.guided.proofs.SharedLaws.{back, small_back, small_same, first_most, watts_same, requested_same, requested_none, requested_small, kept_stands, last_back, asked_read, asked_back, kept_back}

-- ---- sizes of a step
module _ (u : Unit) (s : ℕ) (request : ℤ) (r : Ranged u s) where
  carried_small : nat_abs (inverter_watts u (flow_of u s request)) ≤ 100000000
  carried_small =
      let b = bounds r in
      le_trans (watts_le u s (held_size u request) b (held_most u request).1 (flow_of u s request) (flow_able u s request)) b.kva_most

  pub grid_small : nat_abs (step_of u s request).watts ≤ 110000000
  unfolding step_of outcome_of grid_watts
  grid_small =
      le_trans (size_sum (inverter_watts u (flow_of u s request)) (neg_ℤ (pos (grid_loss u))))
      (add-le-add carried_small (le_trans (le_of_eq (size_neg (pos (grid_loss u)))) (bounds r).grid_most))

  pub carried_back : (step_of u s request).watts +ℤ pos (grid_loss u) ≡ inverter_watts u (flow_of u s request)
  unfolding step_of outcome_of grid_watts
  carried_back = -ℤ-+ℤ_cancel (inverter_watts u (flow_of u s request)) (pos (grid_loss u))

-- ---- the unit with another priority and other vars, and the led one, from what the code has
abbrev pub unit_with : Unit → ℕ → ℤ → Unit
unit_with u priority vars = record {
  rated = u.rated;
  reserve = u.reserve;
  stored = u.stored;
  rating = u.rating;
  kva = u.kva;
  dc_loss = u.dc_loss;
  var_request = vars;
  weight = u.weight;
  inverter = u.inverter;
  charge = u.charge;
  discharge = u.discharge;
  priority = priority;
  provide = u.provide;
  absorb = u.absorb;
  grid_loss = u.grid_loss;
  link = u.link;
}

-- what the inverter carries does not hang on them
pub watts_with : (u : Unit) (priority : ℕ) (vars : ℤ) (f : Flow) → inverter_watts (unit_with u priority vars) f ≡ inverter_watts u f
unfolding inverter_watts idle_draw
watts_with u priority vars (Out x) = refl
watts_with u priority vars (In x) = refl
watts_with u priority vars Idle = refl

-- it is in its ranges
module _ (u : Unit) (s : ℕ) (r : Ranged u s) (priority : ℕ) (first : priority ≤ 1) (vars : ℤ) (small : nat_abs vars ≤ 100000000) where
  unit_same : unit_in (unit_with u priority vars) ≡ unit_in u
  unfolding unit_in idle_draw
  unit_same =
      let b = bounds r in
      ap₂ (λ (v p : Bool).
      member_in u.rated u.reserve u.stored u.rating u.weight
      && between 1 100000000 u.kva && leb u.dc_loss 10000000 && leb u.grid_loss 10000000 && v
      && between 1000 10000 u.inverter && between 1000 10000 u.charge && between 1000 10000 u.discharge
      && p && leb (idle_draw u) u.kva && leb u.provide u.kva && leb u.absorb u.kva)
      (le-leb (nat_abs vars) 100000000 small ∙ sym (le-leb (nat_abs u.var_request) 100000000 b.vars_most))
      (le-leb priority 1 first ∙ sym (le-leb u.priority 1 b.priority_most))

  pub with_ranged : Ranged (unit_with u priority vars) s
  with_ranged = record { unit = unit_same ∙ r.unit; seconds_in_is = r.seconds_in_is }

-- ---- the led unit
module _ (l : Lead) (u : Unit) where
  pub led_ranged : (s : ℕ) → Ranged u s → (vars : ℤ) → nat_abs vars ≤ 100000000 → Ranged (led_unit l u vars) s
  led_ranged s r = with_ranged u s r (first_by l u.priority) (first_most l u.priority (bounds r).priority_most)

  -- without what leads, it is the unit
  pub led_own : l.after ≡ false → led_unit l u u.var_request ≡ u
  led_own t = ap (λ (a : Bool). led_unit (lead l.leads a l.fresh l.y) u u.var_request) t

  -- ---- watts first: what flows does not hang on the vars requested
  module _ (s : ℕ) (request : ℤ) (after : l.after ≡ true) (a b : ℤ) where
    held_same : held_size (led_unit l u a) request ≡ held_size (led_unit l u b) request
    unfolding held_size
    held_same = watts_same l after u.kva u.priority (limited_vars (led_unit l u a)) (limited_vars (led_unit l u b)) (nat_abs request)

    pub flow_same : flow_of (led_unit l u a) s request ≡ flow_of (led_unit l u b) s request
    unfolding flow_of discharged charged deliverable takeable removed_by added_by
    flow_same = ap (λ (p : ℕ). cond (negative request) (charged (led_unit l u b) s p) (discharged (led_unit l u b) s p)) held_same

    pub carried_same : inverter_watts (led_unit l u a) (flow_of (led_unit l u a) s request) ≡ inverter_watts (led_unit l u b) (flow_of (led_unit l u b) s request)
    carried_same =
        let first = first_by l u.priority in
        let f = flow_of (led_unit l u a) s request in
        watts_with u first a f ∙ sym (watts_with u first b f) ∙ ap (inverter_watts (led_unit l u b)) flow_same

    -- so a step with other vars is this step, but for its vars
    abbrev with_others : Flow → Outcome
    with_others f = record {
      watts = (outcome_of (led_unit l u a) s f).watts;
      vars = vars_of (led_unit l u b) (inverter_watts (led_unit l u a) f);
      stored = (outcome_of (led_unit l u a) s f).stored;
      loss = (outcome_of (led_unit l u a) s f).loss;
    }

    outcome_by : (f : Flow) → with_others f ≡ outcome_of (led_unit l u b) s f
    unfolding outcome_of grid_watts inverter_watts idle_draw stored_of loss_of removed_by added_by
    outcome_by (Out x) = refl
    outcome_by (In x) = refl
    outcome_by Idle = refl

    pub step_same : with_others (flow_of (led_unit l u a) s request) ≡ step_of (led_unit l u b) s request
    unfolding step_of
    step_same = outcome_by (flow_of (led_unit l u a) s request) ∙ ap (outcome_of (led_unit l u b) s) flow_same

-- ---- a led step
module _ (l : Lead) (u : Unit) (last : ℤ) (s : ℕ) (request : ℤ) where
  abbrev own : ℤ
  own = u.var_request

  -- without what leads it is the step as it was, and what is kept stands
  requested_own : l.leads ≡ false → l.fresh ≡ false → requested_of l u last s request ≡ own
  unfolding requested_of
  requested_own d f = requested_none l own last u.kva d f (nat_abs (watts_first l u s request))

  pub unled_is : l.leads ≡ false → l.after ≡ false → l.fresh ≡ false → led_step l u last s request ≡ step_of u s request
  unfolding led_step
  unled_is d a f = ap (λ (v : Unit). step_of v s request) (ap (led_unit l u) (requested_own d f) ∙ led_own l u a)

  pub stands_is : l.leads ≡ false → vars_kept l u last s request ≡ last
  unfolding vars_kept
  stands_is d = kept_stands l last (requested_of l u last s request) d

  -- the vars requested are small
  module _ (r : Ranged u s) (g : Guiding l last) where
    pub asked_small : nat_abs (requested_of l u last s request) ≤ 100000000
    unfolding requested_of
    asked_small = requested_small l own last u.kva g (nat_abs (watts_first l u s request)) (bounds r).vars_most (bounds r).kva_most

    -- ---- the same from what the code has
    module _ (h : mag request < 2 ^ 31) where
      request_back : back request ≡ request
      request_back = read w32 request h

      pub requested_asks : Modest l × (u.kva ≤ 100000000)
      requested_asks = (g.modest, (bounds r).kva_most)

      -- the vars requested, as the code has them; then the led unit is in its ranges, and what is kept is right
      module _ (asked : ℤ) (ea : asked ≡ requested_of l u last s request) where
        pub asked_is : back asked ≡ requested_of l u last s request
        asked_is = asked_back l last g (requested_of l u last s request) asked_small asked ea

        module _ (v : Unit) (ev : v ≡ led_unit l u (back asked)) where
          unit_is : v ≡ led_unit l u (requested_of l u last s request)
          unit_is = ev ∙ ap (led_unit l u) asked_is

          unit_ranged : Ranged v s
          unit_ranged = subst⁻¹ (λ (w : Unit). Ranged w s) unit_is (led_ranged l u s r (requested_of l u last s request) asked_small)

          unit_vars : nat_abs v.var_request ≤ 100000000
          unit_vars = (bounds unit_ranged).vars_most

          step_is : (o : Outcome) → o ≡ step_of v s (back request) → o ≡ led_step l u last s request
          unfolding led_step
          step_is o eo = eo ∙ ap₂ (λ (w : Unit) (z : ℤ). step_of w s z) unit_is request_back

        pub kept_is : (kept : ℤ) → mag kept < 2 ^ 31 → kept ≡ kept_by l (back last) (back asked) → back kept ≡ vars_kept l u last s request
        unfolding vars_kept
        kept_is = kept_back l last g (requested_of l u last s request) asked_small asked ea

      -- handed on to a function of the code, and back
      pub step_read : (o : Outcome) → o ≡ led_step l u (back last) s (back request) → o ≡ led_step l u last s request
      step_read o e = e ∙ ap₂ (λ (y z : ℤ). led_step l u y s z) (last_back l last g) request_back

      pub kept_read : (k : ℤ) → k ≡ vars_kept l u (back last) s (back request) → k ≡ vars_kept l u last s request
      kept_read k e = e ∙ ap₂ (λ (y z : ℤ). vars_kept l u y s z) (last_back l last g) request_back

      -- whatever the watts are
      module _ (t : (l.fresh && l.after) ≡ false) (asked : ℤ) (e : asked ≡ requested_by l (back own) (back last) u.kva 0) where
        before_asked : asked ≡ requested_of l u last s request
        unfolding requested_of
        before_asked =
            asked_read l last g own (bounds r).vars_most u.kva 0 asked e
            ∙ requested_same l own last u.kva t 0 (nat_abs (watts_first l u s request))

        module _ (v : Unit) (ev : v ≡ led_unit l u (back asked)) where
          pub before_ranged : Ranged v s
          before_ranged = unit_ranged asked before_asked v ev

          pub before_step : (o : Outcome) → o ≡ step_of v s (back request) → o ≡ led_step l u last s request
          before_step = step_is asked before_asked v ev

        pub before_kept : (kept : ℤ) → mag kept < 2 ^ 31 → kept ≡ kept_by l (back last) (back asked) → back kept ≡ vars_kept l u last s request
        before_kept = kept_is asked before_asked

      -- after the watts, which come first: those of a step without vars
      module _ (t : (l.fresh && l.after) ≡ true) (v : Unit) (ev : v ≡ led_unit l u (back (pos 0))) where
        abbrev first_unit : Unit
        first_unit = led_unit l u (pos 0)

        after : l.after ≡ true
        after = (and_parts l.fresh l.after t).1

        first_is : v ≡ first_unit
        first_is = ev ∙ ap (led_unit l u) (small_same (pos 0) zero-le)

        first_ranged : Ranged first_unit s
        first_ranged = led_ranged l u s r (pos 0) zero-le

        pub after_ranged : Ranged v s
        after_ranged = subst⁻¹ (λ (w : Unit). Ranged w s) first_is first_ranged

        module _ (o : Outcome) (eo : o ≡ step_of v s (back request)) where
          outcome_is : o ≡ step_of first_unit s request
          outcome_is = eo ∙ ap₂ (λ (w : Unit) (z : ℤ). step_of w s z) first_is request_back

          watts_small : nat_abs o.watts ≤ 110000000
          watts_small = subst⁻¹ (λ (p : Outcome). nat_abs p.watts ≤ 110000000) outcome_is (grid_small first_unit s request first_ranged)

          watts_back : back o.watts ≡ (step_of first_unit s request).watts
          watts_back = small_back o.watts watts_small ∙ ap (λ (p : Outcome). p.watts) outcome_is

          pub carried_asks : (nat_abs (back o.watts) ≤ 110000000) × (u.grid_loss ≤ 10000000)
          carried_asks = (subst⁻¹ (λ (z : ℤ). nat_abs z ≤ 110000000) (small_back o.watts watts_small) watts_small, (bounds r).grid_most)

          -- the inverter's watts
          module _ (carried : ℤ) (hc : mag carried < 2 ^ 31) (ec : carried ≡ back o.watts +ℤ pos u.grid_loss) where
            carried_is : back carried ≡ inverter_watts first_unit (flow_of first_unit s request)
            carried_is =
                read w32 carried hc ∙ ec ∙ ap (λ (z : ℤ). z +ℤ pos u.grid_loss) watts_back ∙ carried_back first_unit s request first_ranged

            module _ (size : ℕ) (es : size ≡ nat_abs (back carried)) (asked : ℤ) (e : asked ≡ requested_by l (back own) (back last) u.kva size) where
              size_is : size ≡ nat_abs (watts_first l u s request)
              unfolding watts_first
              size_is = es ∙ ap nat_abs (carried_is ∙ carried_same l u s request after (pos 0) own)

              after_asked : asked ≡ requested_of l u last s request
              unfolding requested_of
              after_asked =
                  asked_read l last g own (bounds r).vars_most u.kva size asked e ∙ ap (requested_by l own last u.kva) size_is

              module _ (w : Unit) (ew : w ≡ led_unit l u (back asked)) where
                pub after_vars : nat_abs w.var_request ≤ 100000000
                after_vars = unit_vars asked after_asked w ew

                pub after_step : (vars : ℤ) → mag vars < 2 ^ 31 → vars ≡ vars_of w (back carried)
                    → ◌≡◌ {A = Outcome} (record { watts = back o.watts; vars = back vars; stored = o.stored; loss = o.loss }) (led_step l u last s request)
                unfolding led_step step_of
                after_step vars hv e =
                    let a = step_same l u s request after (pos 0) (requested_of l u last s request) in
                    let k : back vars ≡ vars_of (led_unit l u (requested_of l u last s request)) (inverter_watts first_unit (flow_of first_unit s request)) =
                    read w32 vars hv ∙ e ∙ ap₂ vars_of (unit_is asked after_asked w ew) carried_is in
                    cc (watts_back, outcome_is)

              pub after_kept : (kept : ℤ) → mag kept < 2 ^ 31 → kept ≡ kept_by l (back last) (back asked) → back kept ≡ vars_kept l u last s request
              after_kept = kept_is asked after_asked
