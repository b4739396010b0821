-- A led step of a row's unit, by the kind of its request. What flows and what comes of it do not hang on the vars requested nor on the priority, but for the
-- size at which the request is held, and for the vars; so they are those of the row's unit. Assumes nothing.
use mathlib.Core.Path.{◌≡◌, refl, sym, ap, ap₂, ◌∙◌, subst⁻¹}
use mathlib.Core.Bool.{Bool, true, false, cond, ◌&&◌}
use Prim.Native.Nat.{ℕ, ◌-◌, ◌^◌, ◌≤◌, ◌<◌, min}
use native.Mathlib.Nat.{le_trans, le_of_eq, lt_of_le_of_lt, min-le_left}
use native.Mathlib.Omega.{arith}
use lib.Dec.{eqb, lit<}
use lib.IntN.{ℤ, pos, nat_abs, ◌*ℤ◌}
use lib.Signed.{mag}
use mir.Syntax.{w32}
use mir.Val.{SFits}
use borrow.Author.Tests.{eqb-true, eqb-false, eq-eqb, ne_eqb}
use Rattle.whole.proofs.Choice.{by_test}
use Rattle.whole.proofs.LargestLaws.{leg_le}
use Rattle.whole.proofs.OverLaws.{and_parts}
use Rattle.whole.proofs.SignLaws.{read, size_neg, signed_fits}
use Rattle.whole.specs.Circle.{vars_in}
use Rattle.whole.specs.Largest.{leg_of}
use Rattle.whole.specs.Quotient.{cut}
use Rattle.whole.specs.Signed.{negative, signed}
use Rattle.unit.proofs.RangeLaws.{bounds}
use Rattle.unit.specs.declared.Unit.{Unit}
use Rattle.unit.specs.Ranges.{idle_draw, holding, Ranged}
use Rattle.rows.specs.declared.Row.{Row}
use Rattle.rows.specs.Rows.{unit_by, draw_by, rest_by}
use Rattle.energy.proofs.LimitLaws.{held_most}
use Rattle.energy.specs.Limits.{held_size, limited_vars, removed_by, deliverable, added_by, takeable, vars_of}
use Rattle.flows.specs.declared.Flow.{Flow}
use Rattle.flows.specs.declared.Flow.TheVariants.{Out, In, Idle}
use Rattle.flows.specs.Flows.{discharged, charged, flow_of, inverter_watts, stored_of, loss_of}
use Rattle.flows.specs.Posts.{Carried}
use Rattle.storage.proofs.KindLaws.{flow_for, kind_flow, kind_carried, kind_watts}
use Rattle.storage.specs.declared.Outcome.{Outcome}
use Rattle.storage.specs.Posts.{Told, kind_of, flow_by, outcome_with}
use Rattle.storage.specs.Step.{grid_watts, outcome_of, step_of}
use Rattle.lead.specs.declared.Lead.{Lead}
use Rattle.lead.specs.Lead.{first_by, requested_by, kept_by}
use Rattle.guided.specs.Posts.{left_by, size_by, with_lead, LedFrom}
use Rattle.guided.specs.Units.{Guiding, led_unit, watts_first, requested_of, led_step, vars_kept}
use Rattle.guided.proofs.SharedLaws.{back, watts_held, requested_after}
use Rattle.guided.proofs.UnitLaws.{unit_with, watts_with, with_ranged, asked_small, asked_is, kept_is}
use Rattle.guided.proofs.LedProved.{led_law}

-- ---- the unit with another priority and other vars
module _ (u : Unit) (priority : ℕ) (vars : ℤ) (s : ℕ) where
  flow_with : (request : ℤ) (p : ℕ) → flow_for (unit_with u priority vars) s request p ≡ flow_for u s request p
  unfolding discharged charged deliverable takeable removed_by added_by
  flow_with request p = refl

  outcome_with_lem : (f : Flow) (given : ℤ) → outcome_with u s f given ≡ outcome_with (unit_with u priority vars) s f given
  unfolding outcome_with grid_watts inverter_watts idle_draw stored_of loss_of removed_by added_by
  outcome_with_lem (Out x) given = refl
  outcome_with_lem (In x) given = refl
  outcome_with_lem Idle given = refl

-- vars hang on the size of the watts alone
vars_by_size : (u : Unit) (a b : ℤ) → nat_abs a ≡ nat_abs b → vars_of u a ≡ vars_of u b
unfolding vars_of
vars_by_size u a b e = ap (vars_in u.kva (negative u.var_request) (limited_vars u)) e

-- ---- by the test of the kind that the code makes
module _ (row : Row) (kind p : ℕ) where
  pub left_idles : kind ≡ 0 → rest_by row ≡ left_by row kind p
  unfolding left_by
  left_idles e = simp (eq-eqb kind 0 e)

  pub left_moves : (kind ≡ 0 → ⊥) → leg_of (unit_by row).kva p ≡ left_by row kind p
  unfolding left_by
  left_moves n = simp (ne_eqb kind 0 n)

  pub size_idles : kind ≡ 0 → draw_by row - (unit_by row).grid_loss ≡ size_by row kind p
  unfolding size_by
  size_idles e = simp (eq-eqb kind 0 e)

  pub size_moves : (kind ≡ 0 → ⊥) → p ≡ size_by row kind p
  unfolding size_by
  size_moves n = simp (ne_eqb kind 0 n)

-- ---- its step, where the kind of the request is told
module _ (row : Row) (held s : ℕ) (told : Told s row) (request : ℤ) where
  abbrev own : Unit
  own = holding (unit_by row) held

  module _ (r : Ranged own s) (priority : ℕ) (vars : ℤ) (p : ℕ) (ep : p ≡ held_size (unit_with own priority vars) request) where
    abbrev led : Unit
    led = unit_with own priority vars

    within : p ≤ own.kva
    within = le_trans (le_of_eq ep) (held_most led request).1

    pub held_few : p ≤ 100000000
    held_few = le_trans within (bounds r).kva_most

    idle_same : idle_draw own ≡ idle_draw (unit_by row)
    unfolding idle_draw
    idle_same = refl

    pub size_most : (kind : ℕ) → size_by row kind p ≤ own.kva
    unfolding size_by
    size_most kind =
        by_test (λ (n : ℕ). n ≤ own.kva) (eqb kind 0) (draw_by row - (unit_by row).grid_loss) p
        (λ t. omega (arith, told.draw_is, idle_same, (bounds r).draw_most)) (λ t. within)

    module _ (clear kind : ℕ) (ek : kind ≡ kind_of own s request p clear) (closed : kind ≡ 3 → ⊥) where
      tells : kind_of own s request p clear ≡ 3 → ⊥
      tells e = closed (ek ∙ e)

      pub carried : Carried own s (flow_by kind p)
      carried = subst⁻¹ (λ (k : ℕ). Carried own s (flow_by k p)) ek (kind_carried own s request p clear r within tells)

      flow_is : flow_of led s request ≡ flow_by kind p
      unfolding flow_of
      flow_is =
          ap (λ (n : ℕ). flow_for led s request n) (sym ep) ∙ flow_with own priority vars s request p ∙ kind_flow own s request p clear r within tells
          ∙ ap (λ (k : ℕ). flow_by k p) (sym ek)

      watts_are : inverter_watts led (flow_of led s request) ≡ inverter_watts own (flow_by kind p)
      watts_are = ap (inverter_watts led) flow_is ∙ watts_with own priority vars (flow_by kind p)

      -- what is done with the step's vars is the step
      pub done_is : (given : ℤ) → given ≡ (step_of led s request).vars → (o : Outcome) → o ≡ outcome_with own s (flow_by kind p) given → o ≡ step_of led s request
      unfolding step_of outcome_of outcome_with
      done_is given e o d = d ∙ outcome_with_lem own priority vars s (flow_by kind p) given ∙ ap₂ (outcome_with led s) (sym flow_is) e

      -- the size of the inverter's watts
      abbrev size : ℕ
      size = nat_abs (inverter_watts own (flow_by kind p))

      idles : eqb kind 0 ≡ true → size ≡ idle_draw (unit_by row)
      unfolding flow_by inverter_watts
      idles t = ap (λ (k : ℕ). nat_abs (inverter_watts own (flow_by k p))) (eqb-true kind 0 t) ∙ size_neg (pos (idle_draw own)) ∙ idle_same

      moves : eqb kind 0 ≡ false → size ≡ p
      moves t =
          ap (λ (k : ℕ). nat_abs (inverter_watts own (flow_by k p))) ek
          ∙ kind_watts own s request p clear r within tells (λ z. eqb-false kind 0 t (ek ∙ z))

      pub size_is : size_by row kind p ≡ size
      unfolding size_by
      size_is =
          by_test (λ (n : ℕ). n ≡ size) (eqb kind 0) (draw_by row - (unit_by row).grid_loss) p
          (λ t. let d = told.draw_is in let i = idles t in omega arith) (λ t. sym (moves t))

      pub left_is : left_by row kind p ≡ leg_of own.kva size
      unfolding left_by
      left_is =
          by_test (λ (n : ℕ). n ≡ leg_of own.kva size) (eqb kind 0) (rest_by row) (leg_of (unit_by row).kva p)
          (λ t. told.rest_is ∙ ap (leg_of own.kva) (sym (idles t))) (λ t. ap (leg_of own.kva) (sym (moves t)))

      -- the vars beside that size are the step's
      pub vars_beside : (watts given : ℤ) → nat_abs watts ≡ size_by row kind p → given ≡ vars_of led watts → given ≡ (step_of led s request).vars
      unfolding step_of outcome_of
      vars_beside watts given e d = d ∙ vars_by_size led watts (inverter_watts led (flow_of led s request)) (e ∙ size_is ∙ ap nat_abs (sym watts_are))

-- ---- the step of a unit that is the row's but for its vars and its priority, from what the code has
module _ (row : Row) (held s : ℕ) (told : Told s row) (r : Ranged (holding (unit_by row) held) s) (v : Unit) (from : LedFrom (holding (unit_by row) held) v)
    (request : ℤ) (h : mag request < 2 ^ 31) where
  abbrev unit : Unit
  unit = holding (unit_by row) held

  pub from_ranged : nat_abs v.var_request ≤ 100000000 → v.priority ≤ 1 → Ranged v s
  from_ranged small first = subst⁻¹ (λ (w : Unit). Ranged w s) from (with_ranged unit s r v.priority first v.var_request small)

  pub grid_covered : (unit_by row).grid_loss ≤ draw_by row
  grid_covered = let d = told.draw_is in omega arith

  module _ (p : ℕ) (ep : p ≡ held_size v (back request)) where
    held_is : p ≡ held_size (with_lead unit v) request
    held_is = ep ∙ ap₂ held_size from (read w32 request h)

    pub from_few : p ≤ 100000000
    from_few = held_few row held s told request r v.priority v.var_request p held_is

    module _ (clear kind : ℕ) (ek : kind ≡ kind_of unit s (back request) p clear) (closed : kind ≡ 3 → ⊥) where
      kind_is : kind ≡ kind_of unit s request p clear
      kind_is = ek ∙ ap (λ (z : ℤ). kind_of unit s z p clear) (read w32 request h)

      pub from_carried : Carried unit s (flow_by kind p)
      from_carried = carried row held s told request r v.priority v.var_request p held_is clear kind kind_is closed

      module _ (n : ℕ) (en : n ≡ size_by row kind p) where
        size_small : n ≤ 100000000
        size_small =
            le_trans (le_of_eq en) (le_trans (size_most row held s told request r v.priority v.var_request p held_is kind) (bounds r).kva_most)

        pub size_fits : SFits w32 (signed false n)
        size_fits = signed_fits w32 false n (lt_of_le_of_lt size_small (lit< tt))

        pub from_step : (watts : ℤ) → mag watts < 2 ^ 31 → watts ≡ signed false n → (given : ℤ) → mag given < 2 ^ 31 → given ≡ vars_of v (back watts)
            → (o : Outcome) → o ≡ outcome_with unit s (flow_by kind p) (back given) → o ≡ step_of v s request
        from_step watts hw ew given hg eg o d =
            done_is row held s told request r v.priority v.var_request p held_is clear kind kind_is closed (back given) right o d
            ∙ ap (λ (w : Unit). step_of w s request) (sym from)
          where
            right : back given ≡ (step_of (with_lead unit v) s request).vars
            right =
                vars_beside row held s told request r v.priority v.var_request p held_is clear kind kind_is closed (back watts) (back given)
                (ap nat_abs (read w32 watts hw ∙ ew) ∙ en) (read w32 given hg ∙ eg ∙ ap (λ (w : Unit). vars_of w (back watts)) from)

-- ---- the led unit is the row's but for its vars and its priority
pub led_from_lem : (l : Lead) (u w v : Unit) → w ≡ u → (vars : ℤ) → v ≡ led_unit l w vars → LedFrom u v
led_from_lem l u w v e vars ev = subst⁻¹ (LedFrom u) (ev ∙ ap (λ (x : Unit). led_unit l x vars) e) refl

-- ---- a step led by what the circle leaves after the watts, from what the code has
module _ (l : Lead) (row : Row) (held s : ℕ) (told : Told s row) (r : Ranged (holding (unit_by row) held) s) (last : ℤ) (g : Guiding l last)
    (t : (l.fresh && l.after) ≡ true) (request : ℤ) (h : mag request < 2 ^ 31) (w : Unit) (ew : w ≡ holding (unit_by row) held) where
  abbrev u : Unit
  u = holding (unit_by row) held

  abbrev first : ℕ
  first = first_by l u.priority

  abbrev requested : ℤ
  requested = requested_of l u last s request

  fresh : l.fresh ≡ true
  fresh = (and_parts l.fresh l.after t).0

  after : l.after ≡ true
  after = (and_parts l.fresh l.after t).1

  module _ (size : ℕ) (es : size ≡ nat_abs (back request)) (p : ℕ) (ep : p ≡ min size w.kva) where
    -- with watts first the request is held at S at most, whatever the vars
    first_held : (vars : ℤ) → p ≡ held_size (led_unit l u vars) request
    unfolding held_size
    first_held vars =
        ep ∙ ap₂ min (es ∙ ap nat_abs (read w32 request h)) (ap (λ (x : Unit). x.kva) ew)
        ∙ watts_held l after u.kva u.priority (limited_vars (led_unit l u vars)) (nat_abs request)

    pub first_few : p ≤ 100000000
    first_few = held_few row held s told request r first requested p (first_held requested)

    module _ (clear kind : ℕ) (ek : kind ≡ kind_of u s (back request) p clear) (closed : kind ≡ 3 → ⊥) where
      kind_read : kind ≡ kind_of u s request p clear
      kind_read = ek ∙ ap (λ (z : ℤ). kind_of u s z p clear) (read w32 request h)

      pub first_carried : Carried u s (flow_by kind p)
      first_carried = carried row held s told request r first requested p (first_held requested) clear kind kind_read closed

      module _ (n : ℕ) (en : n ≡ left_by row kind p) where
        leg_is : n ≡ leg_of u.kva (nat_abs (inverter_watts u (flow_by kind p)))
        leg_is = en ∙ left_is row held s told request r first requested p (first_held requested) clear kind kind_read closed

        pub left_few : n ≤ 100000000
        left_few = le_trans (le_of_eq leg_is) (le_trans (leg_le u.kva (nat_abs (inverter_watts u (flow_by kind p)))) (bounds r).kva_most)

        module _ (asked : ℤ) (ea : asked ≡ cut (pos n *ℤ l.y) 10000) where
          part_asked : asked ≡ requested
          unfolding requested_of watts_first
          part_asked =
              let vars = u.var_request in
              let watts = inverter_watts u (flow_by kind p) in
              let e = watts_are row held s told request r first vars p (first_held vars) clear kind kind_read closed in
              ea ∙ ap (λ (k : ℕ). cut (pos k *ℤ l.y) 10000) leg_is ∙ requested_after l vars last u.kva fresh after (nat_abs watts)
              ∙ ap (λ (z : ℤ). requested_by l vars last u.kva (nat_abs z)) (sym e)

          part_back : back asked ≡ requested
          part_back = asked_is l u last s request r g h asked part_asked

          pub first_kept : (kept : ℤ) → mag kept < 2 ^ 31 → kept ≡ kept_by l (back last) (back asked) → back kept ≡ vars_kept l u last s request
          first_kept = kept_is l u last s request r g h asked part_asked

          module _ (v : Unit) (ev : v ≡ led_unit l w (back asked)) (limited : ℕ) (el : limited ≡ limited_vars v) (below : Bool) (eb : below ≡ negative (back asked)) where
            led_is : v ≡ led_unit l u requested
            led_is = ev ∙ ap₂ (led_unit l) ew part_back

            limited_is : limited ≡ limited_vars (led_unit l u requested)
            limited_is = el ∙ ap limited_vars led_is

            pub limited_fits : SFits w32 (signed below limited)
            limited_fits =
                let most = min-le_left (nat_abs requested) (cond (negative requested) u.absorb u.provide) in
                let few = asked_small l u last s request r g in
                signed_fits w32 below limited (lt_of_le_of_lt (le_trans (le_of_eq limited_is) (le_trans most few)) (lit< tt))

            -- only the unit's limit cuts the vars requested
            pub first_step : (given : ℤ) → mag given < 2 ^ 31 → given ≡ signed below limited → (o : Outcome) → o ≡ outcome_with u s (flow_by kind p) (back given)
                → o ≡ led_step l u last s request
            unfolding led_step
            first_step given hg eg o d =
                done_is row held s told request r first requested p (first_held requested) clear kind kind_read closed (back given) right o d
              where
                right : back given ≡ (step_of (led_unit l u requested) s request).vars
                right =
                    read w32 given hg ∙ eg ∙ ap₂ signed (eb ∙ ap negative part_back) limited_is ∙ sym ((led_law l u last s request r g).limited_only fresh after)
