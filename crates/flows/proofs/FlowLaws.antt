-- What flows in a step and what comes of it, case by case as the code meets them; and that what flows can be carried. Assumes nothing.
use mathlib.Core.Path.{◌≡◌, refl, sym, ap, ◌∙◌, subst, subst⁻¹}
use mathlib.Core.Bool.{Bool, true, false, cond}
use Prim.Native.Nat.{ℕ, zero, suc, ◌+◌, ◌-◌, ◌*◌, ◌≤◌, ◌<◌, ◌^◌}
use native.Mathlib.Nat.{le_refl, le_trans, le_of_eq, mul-le-mul}
use native.Mathlib.Omega.{arith}
use lib.Dec.{ltb, eqb}
use lib.IntN.{ℤ, pos, neg_ℤ, nat_abs}
use lib.Signed.{mag}
use mir.Syntax.{w32}
use mir.Val.{to_z, of_z}
use borrow.Author.Tests.{eq-eqb, ne_eqb, lt-ltb, le-ltb, ltb-false}
use Rattle.whole.proofs.Choice.{by_test}
use Rattle.whole.proofs.SignLaws.{size_neg}
use Rattle.whole.specs.Largest.{largest}
use Rattle.whole.specs.Signed.{negative}
use Rattle.unit.proofs.RangeLaws.{Bounds, bounds}
use Rattle.unit.specs.declared.Unit.{Unit}
use Rattle.unit.specs.Ranges.{idle_draw, Ranged}
use Rattle.energy.proofs.EnergyLaws.{energy_fits, removed_covers, added_covered}
use Rattle.energy.proofs.LimitLaws.{held_read, held_most, deliverable_most, deliverable_within, takeable_most, takeable_within}
use Rattle.energy.specs.Limits.{removed_by, added_by, deliverable, takeable, held_size}
use Rattle.flows.specs.declared.Flow.{Flow}
use Rattle.flows.specs.declared.Flow.TheVariants.{Out, In, Idle}
use Rattle.flows.specs.declared.Move.{Move}
use Rattle.flows.specs.Flows.{out_flow, discharged, charged, flow_of, inverter_watts, stored_of, loss_of}
use Rattle.flows.specs.Posts.{Carried, Moving, moved_by, move_by}

-- ---- what flows, case by case
module _ (u : Unit) (s p : ℕ) where
  pub discharged_nothing : p ≡ 0 → Idle ≡ discharged u s p
  unfolding discharged deliverable largest
  discharged_nothing e = sym (ap (discharged u s) e ∙ go (ltb u.stored u.reserve))
    where
      go : (b : Bool) → cond b Idle Idle ≡ Idle
      go true = refl
      go false = refl

  pub discharged_below : u.stored < u.reserve → Idle ≡ discharged u s p
  unfolding discharged
  discharged_below h = simp (lt-ltb u.stored u.reserve h)

  discharged_is : u.reserve ≤ u.stored → out_flow (deliverable u s p) ≡ discharged u s p
  unfolding discharged
  discharged_is h = simp (le-ltb u.stored u.reserve h)

  pub discharged_none : u.reserve ≤ u.stored → (x : ℕ) → x ≡ deliverable u s p → x ≡ 0 → Idle ≡ discharged u s p
  discharged_none h x e z = ap out_flow (sym z ∙ e) ∙ discharged_is h

  pub discharged_some : u.reserve ≤ u.stored → (x : ℕ) → x ≡ deliverable u s p → (x ≡ 0 → ⊥) → Out x ≡ discharged u s p
  discharged_some h x e n = go x n ∙ ap out_flow e ∙ discharged_is h
    where
      go : (x : ℕ) → (x ≡ 0 → ⊥) → Out x ≡ out_flow x
      go zero n = absurd (n refl)
      go (suc x) n = refl

  pub charged_none : added_by u s (takeable u s p) ≡ 0 → Idle ≡ charged u s p
  unfolding charged
  charged_none z = simp (eq-eqb (added_by u s (takeable u s p)) 0 z)

  charged_is : (added_by u s (takeable u s p) ≡ 0 → ⊥) → In (takeable u s p) ≡ charged u s p
  unfolding charged
  charged_is n = simp (ne_eqb (added_by u s (takeable u s p)) 0 n)

  pub charged_some : (x : ℕ) → x ≡ takeable u s p → (added_by u s x ≡ 0 → ⊥) → In x ≡ charged u s p
  charged_some x e n = ap In e ∙ charged_is (λ z. n (ap (added_by u s) e ∙ z))

module _ (u : Unit) (s : ℕ) (request : ℤ) where
  pub flow_in : negative request ≡ true → charged u s (held_size u request) ≡ flow_of u s request
  unfolding flow_of
  flow_in e = simp e

  pub flow_out : negative request ≡ false → discharged u s (held_size u request) ≡ flow_of u s request
  unfolding flow_of
  flow_out e = simp e

-- the same from the held size n that the code has, of the request that is read back from its bits, with what the flow moves; and n is small
module _ (u : Unit) (s : ℕ) (request : ℤ) (n : ℕ) (h : mag request < 2 ^ 31) (e : n ≡ held_size u (to_z w32 (of_z w32 request))) where
  pub held_small : Ranged u s → n ≤ 100000000
  held_small r =
      let b = bounds r in
      let m = held_most u request in
      omega (arith, held_read u request n h e)

  pub move_in : negative request ≡ true → move_by u s (charged u s n) ≡ move_by u s (flow_of u s request)
  move_in t = ap (move_by u s) (ap (charged u s) (held_read u request n h e) ∙ flow_in u s request t)

  pub move_out : negative request ≡ false → move_by u s (discharged u s n) ≡ move_by u s (flow_of u s request)
  move_out t = ap (move_by u s) (ap (discharged u s) (held_read u request n h e) ∙ flow_out u s request t)

-- ---- what is delivered is covered by what is removed, and what is drawn covers what is added
module _ (u : Unit) (s x : ℕ) (b : Bounds u s) where
  pub removal_covers : x * s ≤ removed_by u s x
  unfolding removed_by
  removal_covers = removed_covers x u.inverter u.dc_loss s u.discharge (omega arith) b.inverter_most (omega arith) b.discharge_most

  pub addition_covered : added_by u s x ≤ x * s
  unfolding added_by
  addition_covered = added_covered x u.inverter u.dc_loss s u.charge b.inverter_most b.charge_most

-- ---- what flows is at most the held size p; what it removes lies above the reserve, and what it adds has room
abbrev pub Able : Unit → ℕ → ℕ → Flow → Type 0
Able u s p (Out x) = (x ≤ p) × (u.reserve + removed_by u s x ≤ u.stored)
Able u s p (In x) = (x ≤ p) × (added_by u s x ≤ u.rated - u.stored)
Able u s p Idle = 0 ≤ 0

module _ (u : Unit) (s p : ℕ) where
  out_able : u.reserve ≤ u.stored → (x : ℕ) → x ≡ deliverable u s p → Able u s p (out_flow x)
  out_able h zero e = le_refl 0
  out_able h (suc x) e =
      let most : deliverable u s p ≤ p = deliverable_most u s p in
      let some : 0 < deliverable u s p = omega arith in
      let left : removed_by u s (suc x) ≤ u.stored - u.reserve =
      subst⁻¹ (λ (y : ℕ). removed_by u s y ≤ u.stored - u.reserve) e (deliverable_within u s p some) in
      (omega arith, omega arith)

  discharged_able : Able u s p (discharged u s p)
  unfolding discharged
  discharged_able =
      by_test (Able u s p) (ltb u.stored u.reserve) Idle (out_flow (deliverable u s p))
      (λ t. le_refl 0)
      (λ t. out_able (ltb-false u.stored u.reserve t) (deliverable u s p) refl)

  charged_able : Able u s p (charged u s p)
  unfolding charged
  charged_able =
      by_test (Able u s p) (eqb (added_by u s (takeable u s p)) 0) Idle (In (takeable u s p)) (λ t. le_refl 0) (λ t. (takeable_most u s p, takeable_within u s p))

  -- so the unit can carry it, where the held size is at most S
  able_carried : p ≤ u.kva → (f : Flow) → Able u s p f → Carried u s f
  able_carried h (Out x) a = (omega arith, omega arith)
  able_carried h (In x) a = (omega arith, a.1)
  able_carried h Idle a = a

module _ (u : Unit) (s : ℕ) (request : ℤ) where
  pub flow_able : Able u s (held_size u request) (flow_of u s request)
  unfolding flow_of
  flow_able =
      let p = held_size u request in
      by_test (Able u s p) (negative request) (charged u s p) (discharged u s p) (λ t. charged_able u s p) (λ t. discharged_able u s p)

  pub flow_carried : Carried u s (flow_of u s request)
  flow_carried = able_carried u s (held_size u request) (held_most u request).1 (flow_of u s request) flow_able

-- ---- a flow with what it moves
module _ (u : Unit) (s : ℕ) where
  move_is : (f : Flow) {g : Flow} → f ≡ g → (n : ℕ) → n ≡ moved_by u s f → ◌≡◌ {A = Move} (record { flow = f; moved = n }) (move_by u s g)
  move_is f e n h = cc

  pub idle_moves : (n : ℕ) → n ≡ idle_draw u → ◌≡◌ {A = Move} (record { flow = Idle; moved = n }) (move_by u s Idle)
  unfolding moved_by
  idle_moves n h = move_is Idle refl n h

  pub out_moves : (x : ℕ) {f : Flow} → Out x ≡ f → (n : ℕ) → n ≡ removed_by u s x → ◌≡◌ {A = Move} (record { flow = Out x; moved = n }) (move_by u s f)
  unfolding moved_by
  out_moves x e n h = move_is (Out x) e n h

  pub in_moves : (x : ℕ) {f : Flow} → In x ≡ f → (n : ℕ) → n ≡ added_by u s x → ◌≡◌ {A = Move} (record { flow = In x; moved = n }) (move_by u s f)
  unfolding moved_by
  in_moves x e n h = move_is (In x) e n h

-- a flow that the unit can carry is small
pub flow_small : (u : Unit) (s : ℕ) (f : Flow) (moved : ℕ) → Moving u s f moved → nat_abs (inverter_watts u f) ≤ 100000000
unfolding inverter_watts
flow_small u s (Out x) moved m = let b = bounds m.ranged in let k = m.carried in omega arith
flow_small u s (In x) moved m = let b = bounds m.ranged in let k = m.carried in le_trans (le_of_eq (size_neg (pos x))) (omega arith)
flow_small u s Idle moved m = let b = bounds m.ranged in le_trans (le_of_eq (size_neg (pos (idle_draw u)))) (omega arith)

-- and so is its loss
pub loss_small : (u : Unit) (s : ℕ) (f : Flow) (moved : ℕ) → Moving u s f moved → loss_of u s f ≤ 10000000000000
unfolding loss_of
loss_small u s (Out x) moved m = let b = bounds m.ranged in let k = m.carried in omega arith
loss_small u s (In x) moved m =
    let b = bounds m.ranged in
    let k = m.carried in
    let l : x * s ≤ 100000000 * 86400 = mul-le-mul (le_trans k.0 b.kva_most) b.seconds_most in
    omega arith
loss_small u s Idle moved m =
    let b = bounds m.ranged in
    let l : idle_draw u * s ≤ 100000000 * 86400 = mul-le-mul (le_trans b.draw_most b.kva_most) b.seconds_most in
    omega arith

-- ---- the numbers of a step by what its flow moves, for each kind of flow, and what keeps them in their types
module _ {u : Unit} {s : ℕ} {flow : Flow} {moved : ℕ} (m : Moving u s flow moved) where
  moves : (f : Flow) → flow ≡ f → moved ≡ moved_by u s f
  moves f e = m.moved_is ∙ ap (moved_by u s) e

  module _ {x : ℕ} (e : flow ≡ Out x) where
    out_moved : moved ≡ removed_by u s x
    unfolding moved_by
    out_moved = moves (Out x) e

    pub out_small : x ≤ 100000000
    out_small =
        let b = bounds m.ranged in
        let k = subst (Carried u s) e m.carried in
        omega arith

    pub out_held : moved ≤ u.stored
    out_held =
        let k = subst (Carried u s) e m.carried in
        omega (arith, out_moved)

    pub out_covers : x * s ≤ moved
    out_covers = omega (arith, out_moved, removal_covers u s x (bounds m.ranged))

    pub out_fits : x * s < 2 ^ 64
    out_fits = energy_fits x s out_small (bounds m.ranged).seconds_most

    pub out_watts : pos x ≡ inverter_watts u flow
    unfolding inverter_watts
    out_watts = sym (ap (inverter_watts u) e)

    pub out_stored : u.stored - moved ≡ stored_of u s flow
    unfolding stored_of
    out_stored = ap (λ (n : ℕ). u.stored - n) out_moved ∙ sym (ap (stored_of u s) e)

    pub out_loss : moved - x * s ≡ loss_of u s flow
    unfolding loss_of
    out_loss = ap (λ (n : ℕ). n - x * s) out_moved ∙ sym (ap (loss_of u s) e)

  module _ {x : ℕ} (e : flow ≡ In x) where
    in_moved : moved ≡ added_by u s x
    unfolding moved_by
    in_moved = moves (In x) e

    pub in_small : x ≤ 100000000
    in_small =
        let b = bounds m.ranged in
        let k = subst (Carried u s) e m.carried in
        omega arith

    pub in_room : u.stored + moved ≤ 10000000000000
    in_room =
        let b = bounds m.ranged in
        let k = subst (Carried u s) e m.carried in
        omega (arith, in_moved)

    pub in_covered : moved ≤ x * s
    in_covered = omega (arith, in_moved, addition_covered u s x (bounds m.ranged))

    pub in_fits : x * s < 2 ^ 64
    in_fits = energy_fits x s in_small (bounds m.ranged).seconds_most

    pub in_watts_lem : neg_ℤ (pos x) ≡ inverter_watts u flow
    unfolding inverter_watts
    in_watts_lem = sym (ap (inverter_watts u) e)

    pub in_stored : u.stored + moved ≡ stored_of u s flow
    unfolding stored_of
    in_stored = ap (λ (n : ℕ). u.stored + n) in_moved ∙ sym (ap (stored_of u s) e)

    pub in_loss : x * s - moved ≡ loss_of u s flow
    unfolding loss_of
    in_loss = ap (λ (n : ℕ). x * s - n) in_moved ∙ sym (ap (loss_of u s) e)

  module _ (e : flow ≡ Idle) where
    idle_moved : moved ≡ idle_draw u
    unfolding moved_by
    idle_moved = moves Idle e

    pub idle_small : moved ≤ 100000000
    idle_small =
        let b = bounds m.ranged in
        omega (arith, idle_moved)

    pub idle_fits : moved * s < 2 ^ 64
    idle_fits = energy_fits moved s idle_small (bounds m.ranged).seconds_most

    pub idle_watts : neg_ℤ (pos moved) ≡ inverter_watts u flow
    unfolding inverter_watts
    idle_watts = ap (λ (n : ℕ). neg_ℤ (pos n)) idle_moved ∙ sym (ap (inverter_watts u) e)

    pub idle_stored : u.stored ≡ stored_of u s flow
    unfolding stored_of
    idle_stored = sym (ap (stored_of u s) e)

    pub idle_loss : moved * s ≡ loss_of u s flow
    unfolding loss_of
    idle_loss = ap (λ (n : ℕ). n * s) idle_moved ∙ sym (ap (loss_of u s) e)
