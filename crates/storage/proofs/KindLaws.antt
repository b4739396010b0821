-- What becomes of a request, told by its kind: where the kind says so, that is what flows, and the unit can carry it. Giving, a removal never falls with the
-- watts, so below the removal of one watt nothing can be given; taking, what is added at all is at least what one watt adds behind the DC loss, so without
-- room for that nothing is taken. And where the watts leave room for the limited vars, the vars are these. Assumes nothing.
use mathlib.Core.Path.{◌≡◌, refl, sym, ap, ◌∙◌}
use mathlib.Core.Logic.{◌⊎◌, inl, inr}
use mathlib.Core.Bool.{Bool, true, false, cond, ◌||◌}
use Prim.Native.Nat.{ℕ, zero, suc, ◌+◌, ◌-◌, ◌*◌, ◌/◌, ◌≤◌, ◌<◌, min}
use native.Mathlib.Nat.{le_refl, le_trans, mul-le-mul_right, mul_assoc, eq-zero-or-pos, min-le_right}
use native.Mathlib.Omega.{arith}
use lib.Dec.{eqb, ltb}
use lib.IntN.{ℤ, pos, neg_ℤ, nat_abs}
use borrow.Author.Tests.{eqb-true, eqb-false, ltb-true, ltb-false}
use Rattle.whole.proofs.Choice.{by_test}
use Rattle.whole.proofs.LargestLaws.{leg_in, leg_tops, square_le}
use Rattle.whole.proofs.QuotientLaws.{ceil_upto}
use Rattle.whole.proofs.SignLaws.{size_neg}
use Rattle.whole.specs.Circle.{vars_in}
use Rattle.whole.specs.Largest.{leg_of}
use Rattle.whole.specs.Quotient.{ceil}
use Rattle.whole.specs.Signed.{negative, signed}
use Rattle.unit.proofs.RangeLaws.{Bounds, bounds}
use Rattle.unit.specs.declared.Unit.{Unit}
use Rattle.unit.specs.Ranges.{Ranged}
use Rattle.energy.proofs.EnergyLaws.{added_none}
use Rattle.energy.proofs.LimitLaws.{deliverable_all, deliverable_within, takeable_all, takeable_within}
use Rattle.energy.specs.Limits.{removed_by, added_by, deliverable, takeable, limited_vars, vars_of}
use Rattle.flows.specs.declared.Flow.{Flow}
use Rattle.flows.specs.declared.Flow.TheVariants.{Idle}
use Rattle.flows.specs.Flows.{discharged, charged, inverter_watts}
use Rattle.flows.specs.Posts.{Carried}
use Rattle.flows.proofs.FlowLaws.{discharged_nothing, discharged_below, discharged_none, discharged_some, charged_none, charged_some}
use Rattle.storage.specs.Posts.{floor_of, top_of, full_vars, clear_watts, kind_out, kind_in, kind_of, flow_by}

-- what flows of a request that is held at p watts
abbrev pub flow_for : Unit → ℕ → ℤ → ℕ → Flow
flow_for u s request p = cond (negative request) (charged u s p) (discharged u s p)

-- ---- energies
-- a quotient rounded up never falls
ceil_grows : (a b c : ℕ) → 0 < c → a ≤ b → ceil a c ≤ ceil b c
ceil_grows a b c h l = (ceil_upto h).1 (le_trans l ((ceil_upto h).0 (le_refl (ceil b c))))

module _ (u : Unit) (s : ℕ) (b : Bounds u s) where
  -- a removal never falls with the watts
  pub removal_grows : (x y : ℕ) → x ≤ y → removed_by u s x ≤ removed_by u s y
  unfolding removed_by
  removal_grows x y l =
      let i : 0 < u.inverter = omega arith in
      let d : ceil (x * 10000) u.inverter ≤ ceil (y * 10000) u.inverter = ceil_grows (x * 10000) (y * 10000) u.inverter i (omega arith) in
      ceil_grows _ _ u.discharge (omega arith) (mul-le-mul_right 10000 (mul-le-mul_right s (omega arith)))

  -- what is added is nothing, or at least what a watt behind the DC loss adds
  addition_least : (x : ℕ) → (added_by u s x ≡ 0 → ⊥) → s * u.charge / 10000 ≤ added_by u s x
  unfolding added_by
  addition_least x some = go (x * u.inverter / 10000 - u.dc_loss) some
    where
      go : (n : ℕ) → (n * s * u.charge / 10000 ≡ 0 → ⊥) → s * u.charge / 10000 ≤ n * s * u.charge / 10000
      go zero h = absurd (h (sym (added_none 0 s u.charge refl)))
      go (suc n) h =
          let l : 1 * (s * u.charge) ≤ suc n * (s * u.charge) = mul-le-mul_right (s * u.charge) (omega arith) in
          let e : suc n * s * u.charge ≡ suc n * (s * u.charge) = mul_assoc (suc n) s u.charge in
          omega arith

-- ---- what a kind says
pub record Kinded (u : Unit) (s p clear : ℕ) (flow : Flow) (kind : ℕ) : Type 0 where
  pub flow_is : flow ≡ flow_by kind p
  pub carried : Carried u s (flow_by kind p)
  -- no watts above the clear ones, and all of them in the inverter, but of a unit that idles
  pub cleared : (kind ≡ 0 → ⊥) → p ≤ clear
  pub all_flow : (kind ≡ 0 → ⊥) → nat_abs (inverter_watts u (flow_by kind p)) ≡ p

-- of one that is not open
abbrev Tells : Unit → ℕ → ℕ → ℕ → Flow → ℕ → Type 0
Tells u s p clear flow kind = (kind ≡ 3 → ⊥) → Kinded u s p clear flow kind

-- a choice by either of two tests
either_test : (P : ℕ → Type 0) (a b : Bool) (x y : ℕ) → (a ≡ true → P x) → (b ≡ true → P x) → (a ≡ false → b ≡ false → P y) → P (cond (a || b) x y)
either_test P true b x y f g h = f refl
either_test P false true x y f g h = g refl
either_test P false false x y f g h = h refl refl

module _ (u : Unit) (s p clear : ℕ) where
  idle_told : (flow : Flow) → Idle ≡ flow → Tells u s p clear flow 0
  unfolding flow_by
  idle_told flow e n = record { flow_is = sym e; carried = le_refl 0; cleared = λ z. absurd (z refl); all_flow = λ z. absurd (z refl) }

  open_told : (flow : Flow) → Tells u s p clear flow 3
  open_told flow n = absurd (n refl)

module _ (u : Unit) (s p clear : ℕ) (r : Ranged u s) (small : p ≤ u.kva) where
  -- below the floor no watt can be given
  below_floor : u.stored < floor_of u s → Idle ≡ discharged u s p
  below_floor h = by_reserve (ltb u.stored u.reserve) refl
    where
      none : u.reserve ≤ u.stored → (deliverable u s p ≡ 0) ⊎ (0 < deliverable u s p) → deliverable u s p ≡ 0
      none l (inl e) = e
      none l (inr some) =
          let k : removed_by u s (deliverable u s p) ≤ u.stored - u.reserve = deliverable_within u s p some in
          let g : removed_by u s 1 ≤ removed_by u s (deliverable u s p) = removal_grows u s (bounds r) 1 (deliverable u s p) some in
          omega arith

      by_reserve : (t : Bool) → ltb u.stored u.reserve ≡ t → Idle ≡ discharged u s p
      by_reserve true t = discharged_below u s p (ltb-true u.stored u.reserve t)
      by_reserve false t =
          let l : u.reserve ≤ u.stored = ltb-false u.stored u.reserve t in
          discharged_none u s p l (deliverable u s p) refl (none l (eq-zero-or-pos (deliverable u s p)))

  gives_told : (p ≡ 0 → ⊥) → floor_of u s ≤ u.stored → removed_by u s p ≤ u.stored - u.reserve → p ≤ clear → Tells u s p clear (discharged u s p) 1
  unfolding flow_by inverter_watts
  gives_told some above covered within n = record {
    flow_is = sym (discharged_some u s p (omega arith) p (deliverable_all u s p covered) some);
    carried = (small, omega arith);
    cleared = λ z. within;
    all_flow = λ z. refl;
  }

  out_told : Tells u s p clear (discharged u s p) (kind_out u s p clear)
  unfolding kind_out
  out_told =
      let flow = discharged u s p in
      either_test (Tells u s p clear flow) (eqb p 0) (ltb u.stored (floor_of u s)) 0 _
      (λ t. idle_told u s p clear flow (discharged_nothing u s p (eqb-true p 0 t)))
      (λ t. idle_told u s p clear flow (below_floor (ltb-true u.stored (floor_of u s) t)))
      (λ some above.
      either_test (Tells u s p clear flow) (ltb (u.stored - u.reserve) (removed_by u s p)) (ltb clear p) 3 1
      (λ t. open_told u s p clear flow) (λ t. open_told u s p clear flow)
      (λ covered within.
      gives_told (eqb-false p 0 some) (ltb-false u.stored (floor_of u s) above) (ltb-false (u.stored - u.reserve) (removed_by u s p) covered) (ltb-false clear p within)))

  -- above the top there is no room for what is added
  above_top : top_of u s < u.stored → Idle ≡ charged u s p
  above_top h = charged_none u s p (none (eq-zero-or-pos (added_by u s (takeable u s p))))
    where
      none : (added_by u s (takeable u s p) ≡ 0) ⊎ (0 < added_by u s (takeable u s p)) → added_by u s (takeable u s p) ≡ 0
      none (inl e) = e
      none (inr some) =
          let b = bounds r in
          let k : added_by u s (takeable u s p) ≤ u.rated - u.stored = takeable_within u s p in
          let g : s * u.charge / 10000 ≤ added_by u s (takeable u s p) = addition_least u s b (takeable u s p) (λ z. omega (arith, z)) in
          omega (arith, b.stored_most)

  adds_nothing : added_by u s p ≡ 0 → Idle ≡ charged u s p
  adds_nothing z =
      let all : p ≡ takeable u s p = takeable_all u s p (omega arith) in
      charged_none u s p (ap (added_by u s) (sym all) ∙ z)

  takes_told : (added_by u s p ≡ 0 → ⊥) → added_by u s p ≤ u.rated - u.stored → p ≤ clear → Tells u s p clear (charged u s p) 2
  unfolding flow_by inverter_watts
  takes_told some room within n = record {
    flow_is = sym (charged_some u s p p (takeable_all u s p room) some);
    carried = (small, room);
    cleared = λ z. within;
    all_flow = λ z. size_neg (pos p);
  }

  in_told : Tells u s p clear (charged u s p) (kind_in u s p clear)
  unfolding kind_in
  in_told =
      let flow = charged u s p in
      let tells = Tells u s p clear flow in
      by_test tells (ltb (top_of u s) u.stored) 0 _
      (λ t. idle_told u s p clear flow (above_top (ltb-true (top_of u s) u.stored t)))
      (λ t.
      by_test tells (eqb (added_by u s p) 0) 0 _
      (λ none. idle_told u s p clear flow (adds_nothing (eqb-true (added_by u s p) 0 none)))
      (λ some.
      either_test tells (ltb (u.rated - u.stored) (added_by u s p)) (ltb clear p) 3 2
      (λ t. open_told u s p clear flow) (λ t. open_told u s p clear flow)
      (λ room within. takes_told (eqb-false (added_by u s p) 0 some) (ltb-false (u.rated - u.stored) (added_by u s p) room) (ltb-false clear p within))))

module _ (u : Unit) (s : ℕ) (request : ℤ) (p clear : ℕ) (r : Ranged u s) (small : p ≤ u.kva) where
  kind_told : Tells u s p clear (flow_for u s request p) (kind_of u s request p clear)
  unfolding kind_of
  kind_told = go (negative request)
    where
      go : (b : Bool) → Tells u s p clear (cond b (charged u s p) (discharged u s p)) (cond b (kind_in u s p clear) (kind_out u s p clear))
      go true = in_told u s p clear r small
      go false = out_told u s p clear r small

  module _ (told : kind_of u s request p clear ≡ 3 → ⊥) where
    pub kind_flow : flow_for u s request p ≡ flow_by (kind_of u s request p clear) p
    kind_flow = (kind_told told).flow_is

    pub kind_carried : Carried u s (flow_by (kind_of u s request p clear) p)
    kind_carried = (kind_told told).carried

    pub kind_clear : (kind_of u s request p clear ≡ 0 → ⊥) → p ≤ clear
    kind_clear = (kind_told told).cleared

    pub kind_watts : (kind_of u s request p clear ≡ 0 → ⊥) → nat_abs (inverter_watts u (flow_by (kind_of u s request p clear) p)) ≡ p
    kind_watts = (kind_told told).all_flow

-- ---- vars
-- the limited vars lie in the circle
pub limited_most : (u : Unit) (s : ℕ) → Ranged u s → limited_vars u ≤ u.kva
limited_most u s r = le_trans (min-le_right (nat_abs u.var_request) (cond (negative u.var_request) u.absorb u.provide)) (either (negative u.var_request))
  where
    either : (t : Bool) → cond t u.absorb u.provide ≤ u.kva
    either true = (bounds r).absorb_most
    either false = (bounds r).provide_most

module _ (u : Unit) (p : ℕ) (limit : limited_vars u ≤ u.kva) (within : p ≤ clear_watts u) where
  -- watts that leave room for the limited vars leave them as they are
  room_left : min (limited_vars u) (leg_of u.kva p) ≡ limited_vars u
  room_left =
      let v = limited_vars u in
      let c : clear_watts u * clear_watts u + v * v ≤ u.kva * u.kva = leg_in u.kva v limit in
      let q : p * p ≤ clear_watts u * clear_watts u = square_le within in
      let l : v ≤ leg_of u.kva p = leg_tops u.kva p v (omega arith) in
      omega arith

  pub vars_beside : (watts : ℤ) → nat_abs watts ≡ p → vars_of u watts ≡ full_vars u
  unfolding vars_of vars_in
  vars_beside watts e =
      ap (λ (n : ℕ). signed (negative u.var_request) (min (limited_vars u) (leg_of u.kva n))) e
      ∙ ap (signed (negative u.var_request)) room_left

  pub clear_vars : vars_of u (pos p) ≡ full_vars u
  clear_vars = vars_beside (pos p) refl

  pub clear_vars_in : vars_of u (neg_ℤ (pos p)) ≡ full_vars u
  clear_vars_in = vars_beside (neg_ℤ (pos p)) (size_neg (pos p))
