-- A step of a row's unit, as the code meets it: by what the row keeps, by the kind of its request, and with vars that are known. Assumes nothing.
use mathlib.Core.Path.{◌≡◌, refl, sym, ap, ap₂, ◌∙◌, subst⁻¹}
use mathlib.Core.Bool.{Bool, true, false, cond, ◌||◌}
use Prim.Native.Nat.{ℕ, ◌+◌, ◌-◌, ◌*◌, ◌≤◌, ◌<◌, ◌^◌, min}
use native.Mathlib.Nat.{le_trans, le_of_eq}
use native.Mathlib.Omega.{arith}
use lib.Dec.{eqb, ltb}
use lib.IntN.{ℤ, nat_abs}
use lib.Signed.{mag}
use mir.Syntax.{w32}
use mir.Val.{to_z, of_z}
use borrow.Author.Tests.{ne_eqb, ltb-false}
use Rattle.whole.proofs.SignLaws.{read}
use Rattle.whole.specs.Quotient.{ceil}
use Rattle.whole.specs.Signed.{negative}
use Rattle.unit.proofs.RangeLaws.{bounds}
use Rattle.unit.specs.declared.Unit.{Unit}
use Rattle.unit.specs.Ranges.{idle_draw, holding, Ranged}
use Rattle.energy.proofs.EnergyLaws.{drawn_most, removed_room}
use Rattle.energy.proofs.LimitLaws.{held_most, held_by_most}
use Rattle.energy.specs.Limits.{held_size, removed_by, added_by, vars_of}
use Rattle.flows.specs.declared.Flow.{Flow}
use Rattle.flows.specs.declared.Flow.TheVariants.{Out, In, Idle}
use Rattle.flows.specs.Flows.{discharged, charged, flow_of, inverter_watts}
use Rattle.flows.specs.Posts.{Carried, Moving, moved_by}
use Rattle.storage.specs.declared.Outcome.{Outcome}
use Rattle.storage.specs.Posts.{idle_vars, rest_draw, rest_of, most_held, floor_of, top_of, full_vars, clear_watts, kind_out, kind_in, kind_of, flow_by, outcome_with}
use Rattle.storage.specs.Step.{outcome_of, step_of}
use Rattle.storage.proofs.StepLaws.{idle_with, outcome_is}
use Rattle.storage.proofs.KindLaws.{kind_flow, kind_carried, kind_clear, kind_watts, limited_most, vars_beside}

-- ---- what the row keeps does not depend on what the unit holds
module _ (u : Unit) (held : ℕ) where
  pub holding_draw : rest_draw (holding u held) ≡ rest_draw u
  unfolding idle_draw
  holding_draw = refl

  pub holding_vars : idle_vars (holding u held) ≡ idle_vars u
  unfolding vars_of inverter_watts idle_draw
  holding_vars = refl

  holding_most : most_held (holding u held) ≡ most_held u
  unfolding held_size
  holding_most = refl

  pub holding_floor : (s : ℕ) → floor_of (holding u held) s ≡ floor_of u s
  unfolding removed_by
  holding_floor s = refl

  -- the held size, by the most that the row keeps
  pub holds : (request : ℤ) → mag request < 2 ^ 31 → (size most n : ℕ) → size ≡ nat_abs (to_z w32 (of_z w32 request)) → most ≡ most_held u → n ≡ min size most
      → n ≡ held_size (holding u held) request
  holds request h size most n es em en =
      en ∙ ap₂ min (es ∙ ap nat_abs (read w32 request h)) (em ∙ sym holding_most) ∙ held_by_most (holding u held) request

-- ---- the kind, from the tests that the code makes
module _ (u : Unit) (s p clear : ℕ) where
  pub out_by : (floor room all : ℕ) → floor ≡ floor_of u s → room ≡ u.stored - u.reserve → all ≡ removed_by u s p
      → (a b : Bool) → (eqb p 0 || ltb u.stored floor) ≡ a → (ltb room all || ltb clear p) ≡ b → cond a 0 (cond b 3 1) ≡ kind_out u s p clear
  unfolding kind_out
  out_by floor room all ef er ea a b ta tb =
      ap₂ (λ (x y : Bool). cond x 0 (cond y 3 1)) (sym ta ∙ ap (λ (n : ℕ). eqb p 0 || ltb u.stored n) ef)
      (sym tb ∙ ap₂ (λ (n m : ℕ). ltb n m || ltb clear p) er ea)

  pub in_by : (top room all : ℕ) → top ≡ top_of u s → room ≡ u.rated - u.stored → all ≡ added_by u s p
      → (a b c : Bool) → ltb top u.stored ≡ a → eqb all 0 ≡ b → (ltb room all || ltb clear p) ≡ c → cond a 0 (cond b 0 (cond c 3 2)) ≡ kind_in u s p clear
  unfolding kind_in
  in_by top room all et er ea a b c ta tb tc =
      ap₂ (λ (x : Bool) (k : ℕ). cond x 0 k) (sym ta ∙ ap (λ (n : ℕ). ltb n u.stored) et)
      (ap₂ (λ (y z : Bool). cond y 0 (cond z 3 2)) (sym tb ∙ ap (λ (n : ℕ). eqb n 0) ea) (sym tc ∙ ap₂ (λ (n m : ℕ). ltb n m || ltb clear p) er ea))

  pub of_by : (request : ℤ) (b : Bool) → negative request ≡ b → cond b (kind_in u s p clear) (kind_out u s p clear) ≡ kind_of u s request p clear
  unfolding kind_of
  of_by request b t = sym (ap (λ (x : Bool). cond x (kind_in u s p clear) (kind_out u s p clear)) t)

-- what is not below the floor
pub above_floor : (u : Unit) (p floor : ℕ) → (eqb p 0 || ltb u.stored floor) ≡ false → floor ≤ u.stored
above_floor u p floor t = go (eqb p 0) (ltb u.stored floor) refl t
  where
    go : (a b : Bool) → ltb u.stored floor ≡ b → (a || b) ≡ false → floor ≤ u.stored
    go true b e t = absurd (let z : ◌≡◌ {A = ℕ} 0 1 = cc in omega arith)
    go false true e t = absurd (let z : ◌≡◌ {A = ℕ} 0 1 = cc in omega arith)
    go false false e t = ltb-false u.stored floor e

-- ---- what flows by the kind
module _ (kind p : ℕ) where
  pub flow_gives : kind ≡ 1 → Out p ≡ flow_by kind p
  unfolding flow_by
  flow_gives e = sym (ap (λ (k : ℕ). flow_by k p) e)

  pub flow_takes : kind ≡ 2 → In p ≡ flow_by kind p
  unfolding flow_by
  flow_takes e = sym (ap (λ (k : ℕ). flow_by k p) e)

  pub flow_idles : (kind ≡ 1 → ⊥) → (kind ≡ 2 → ⊥) → Idle ≡ flow_by kind p
  unfolding flow_by
  flow_idles n m = simp (ne_eqb kind 1 n, ne_eqb kind 2 m)

module _ (u : Unit) (s x : ℕ) (r : Ranged u s) where
  pub gives_moving : Carried u s (Out x) → (n : ℕ) → n ≡ removed_by u s x → Moving u s (Out x) n
  unfolding moved_by
  gives_moving k n e = record { ranged = r; carried = k; moved_is = e }

  pub takes_moving : Carried u s (In x) → (n : ℕ) → n ≡ added_by u s x → Moving u s (In x) n
  unfolding moved_by
  takes_moving k n e = record { ranged = r; carried = k; moved_is = e }

-- what a unit that was read from its row does is what the row's unit does, by the kind
module _ (u v : Unit) (e : v ≡ u) (s : ℕ) (f g : Flow) (k : f ≡ g) where
  pub done_asks : Ranged u s → Carried u s g → Ranged v s × Carried v s f
  done_asks r c = (subst⁻¹ (λ (w : Unit). Ranged w s) e r, subst⁻¹ (λ (w : Unit). Carried w s f) e (subst⁻¹ (Carried u s) k c))

  pub done_is : (vars : ℤ) → mag vars < 2 ^ 31 → (o : Outcome) → o ≡ outcome_with v s f (to_z w32 (of_z w32 vars)) → o ≡ outcome_with u s g vars
  done_is vars h o d = cc (read w32 vars h)

pub rests_is : (u : Unit) (held s draw : ℕ) → draw ≡ rest_draw u → (f : Flow) → Idle ≡ f → (vars : ℤ) → mag vars < 2 ^ 31
    → (o : Outcome) → o ≡ rest_of draw (to_z w32 (of_z w32 vars)) held s → o ≡ outcome_with (holding u held) s f vars
rests_is u held s draw ed f k vars h o d =
    d ∙ ap₂ (λ (n : ℕ) (y : ℤ). rest_of n y held s) (ed ∙ sym (holding_draw u held)) (read w32 vars h) ∙ sym (idle_with (holding u held) s vars)
    ∙ ap (λ (g : Flow). outcome_with (holding u held) s g vars) k

-- ---- a step whose kind is told
module _ (u : Unit) (s : ℕ) (request : ℤ) (r : Ranged u s) (p : ℕ) (ep : p ≡ held_size u request) where
  pub held_within : p ≤ u.kva
  held_within = le_trans (le_of_eq ep) (held_most u request).1

  pub held_few : p ≤ 100000000
  held_few = le_trans held_within (bounds r).kva_most

  module _ (clear : ℕ) (ec : clear ≡ clear_watts u) (kind : ℕ) (ek : kind ≡ kind_of u s request p clear) (told : kind ≡ 3 → ⊥) where
    tells : kind_of u s request p clear ≡ 3 → ⊥
    tells e = told (ek ∙ e)

    pub step_carried : Carried u s (flow_by kind p)
    step_carried = subst⁻¹ (λ (k : ℕ). Carried u s (flow_by k p)) ek (kind_carried u s request p clear r held_within tells)

    step_flow : flow_by kind p ≡ flow_of u s request
    unfolding flow_of
    step_flow =
        ap (λ (k : ℕ). flow_by k p) ek ∙ sym (kind_flow u s request p clear r held_within tells) ∙ flow_for_lem (negative request)
      where
        flow_for_lem : (b : Bool) → cond b (charged u s p) (discharged u s p) ≡ cond b (charged u s (held_size u request)) (discharged u s (held_size u request))
        flow_for_lem b = ap (λ (n : ℕ). cond b (charged u s n) (discharged u s n)) ep

    pub step_is : (vars : ℤ) → vars ≡ vars_of u (inverter_watts u (flow_by kind p)) → (o : Outcome) → o ≡ outcome_with u s (flow_by kind p) vars → o ≡ step_of u s request
    unfolding step_of
    step_is vars ev o d = d ∙ ap (outcome_with u s (flow_by kind p)) ev ∙ outcome_is u s (flow_by kind p) ∙ ap (outcome_of u s) step_flow

    pub vars_idle : kind ≡ 0 → idle_vars u ≡ vars_of u (inverter_watts u (flow_by kind p))
    unfolding flow_by
    vars_idle z = sym (ap (λ (k : ℕ). vars_of u (inverter_watts u (flow_by k p))) z)

    pub vars_full : (kind ≡ 0 → ⊥) → full_vars u ≡ vars_of u (inverter_watts u (flow_by kind p))
    vars_full some =
        let n : kind_of u s request p clear ≡ 0 → ⊥ = λ z. some (ek ∙ z) in
        let within : p ≤ clear_watts u = le_trans (kind_clear u s request p clear r held_within tells n) (le_of_eq ec) in
        let all = kind_watts u s request p clear r held_within tells n in
        sym (ap (λ (k : ℕ). vars_of u (inverter_watts u (flow_by k p))) ek ∙ vars_beside u p (limited_most u s r) within _ all)

-- what one watt removes is small
pub removal_small : (u : Unit) (s : ℕ) → Ranged u s → removed_by u s 1 ≤ 872640000000000
unfolding removed_by
removal_small u s r =
    let b = bounds r in
    let d = drawn_most 1 u.inverter b.inverter_least in
    let m = removed_room (ceil (1 * 10000) u.inverter) u.dc_loss s (omega arith) b.idle_most b.seconds_most in
    let l = drawn_most ((ceil (1 * 10000) u.inverter + u.dc_loss) * s) u.discharge b.discharge_least in
    omega arith
