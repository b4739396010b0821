-- What limits a step, by the definitions: the held request is at most what is asked and at most S, and both energy limits are quotients. Assumes nothing.
use mathlib.Core.Path.{◌≡◌, sym, ap, ap₂, ◌∙◌}
use mathlib.Core.Logic.{◌⊎◌, inl, inr}
use mathlib.Core.Bool.{Bool, true, false, cond}
use Prim.Native.Nat.{ℕ, ◌+◌, ◌-◌, ◌*◌, ◌/◌, ◌≤◌, ◌<◌, ◌^◌, min}
use native.Mathlib.Nat.{le_refl, le_antisymm, mul-le-mul, zero-mul, eq-zero-or-pos}
use native.Mathlib.Omega.{arith}
use lib.Dec.{leb, eqb}
use lib.IntN.{ℤ, pos, nat_abs}
use lib.Signed.{mag}
use mir.Syntax.{w32}
use mir.Val.{to_z, of_z}
use borrow.Author.Tests.{leb-true, le-leb}
use Rattle.whole.proofs.LargestLaws.{largest_le, largest_tops, largest_passes, largest_upto}
use Rattle.whole.proofs.CircleLaws.{watts_most}
use Rattle.whole.proofs.SignLaws.{read}
use Rattle.whole.specs.Circle.{watts_in, vars_in}
use Rattle.whole.specs.Largest.{leg_of}
use Rattle.whole.specs.Signed.{negative}
use Rattle.unit.proofs.RangeLaws.{Bounds}
use Rattle.energy.proofs.EnergyLaws.{removed_test, added_test, added_none, drawn_none, drawable_most}
use Rattle.unit.specs.declared.Unit.{Unit}
use Rattle.energy.specs.Limits.{limited_vars, held_size, vars_of, removed_by, added_by, deliverable, takeable}
use Rattle.energy.specs.Editions.{vars_within, AsBefore, AsBeforeTheorem}

-- ---- v, from what the code has: by the limit for the request's own direction
module _ (u : Unit) (h : mag u.var_request < 2 ^ 31) (size : ℕ) (es : size ≡ nat_abs (to_z w32 (of_z w32 u.var_request)))
    (below : Bool) (eb : below ≡ negative (to_z w32 (of_z w32 u.var_request))) where
  pub limited_by : (b : Bool) → below ≡ b → (n : ℕ) → n ≡ min size (cond b u.absorb u.provide) → n ≡ limited_vars u
  limited_by b t n e =
      e
      ∙ ap₂ (λ (s : ℕ) (c : Bool). min s (cond c u.absorb u.provide)) (es ∙ ap nat_abs (read w32 u.var_request h))
      (sym t ∙ eb ∙ ap negative (read w32 u.var_request h))

-- ---- the held request
module _ (u : Unit) (request : ℤ) where
  -- from what the code has
  pub held_is : mag request < 2 ^ 31 → (v size n : ℕ) → v ≡ limited_vars u → size ≡ nat_abs (to_z w32 (of_z w32 request)) → n ≡ watts_in u.kva u.priority v size
      → n ≡ held_size u request
  unfolding held_size
  held_is h v size n ev es en = en ∙ ap₂ (watts_in u.kva u.priority) ev (es ∙ ap nat_abs (read w32 request h))

  pub held_read : (n : ℕ) → mag request < 2 ^ 31 → n ≡ held_size u (to_z w32 (of_z w32 request)) → n ≡ held_size u request
  held_read n h e = e ∙ ap (held_size u) (read w32 request h)

  pub held_most : (held_size u request ≤ nat_abs request) × (held_size u request ≤ u.kva)
  unfolding held_size
  held_most = watts_most u.kva u.priority (limited_vars u) (nat_abs request)

  -- by the most that any is held at
  pub held_by_most : min (nat_abs request) (held_size u (pos u.kva)) ≡ held_size u request
  unfolding held_size watts_in
  held_by_most = go (eqb u.priority 1)
    where
      side : ℕ
      side = leg_of u.kva (limited_vars u)

      go : (b : Bool) → min (nat_abs request) (cond b (min (min u.kva u.kva) side) (min u.kva u.kva))
          ≡ cond b (min (min (nat_abs request) u.kva) side) (min (nat_abs request) u.kva)
      go true = omega arith
      go false = omega arith

-- the most, from what the code has
pub most_is : (u : Unit) (v n : ℕ) → v ≡ limited_vars u → n ≡ watts_in u.kva u.priority v u.kva → n ≡ held_size u (pos u.kva)
unfolding held_size
most_is u v n ev en = en ∙ ap (λ (y : ℕ). watts_in u.kva u.priority y u.kva) ev

-- ---- the vars, from what the code has
pub vars_are : (u : Unit) (watts : ℤ) → mag u.var_request < 2 ^ 31 → mag watts < 2 ^ 31 → (below : Bool) (v side : ℕ) (vars : ℤ)
    → below ≡ negative (to_z w32 (of_z w32 u.var_request)) → v ≡ limited_vars u → side ≡ nat_abs (to_z w32 (of_z w32 watts))
    → vars ≡ vars_in u.kva below v side → vars ≡ vars_of u watts
unfolding vars_of
vars_are u watts hv hw below v side vars eb ev es e = cc (read w32 u.var_request hv, read w32 watts hw)

-- ---- the energy limits
pub deliverable_most : (u : Unit) (s p : ℕ) → deliverable u s p ≤ p
unfolding deliverable
deliverable_most u s p = largest_le (λ (x : ℕ). leb (removed_by u s x) (u.stored - u.reserve)) p

-- all of p, where the test passes at p
pub deliverable_all : (u : Unit) (s p : ℕ) → removed_by u s p ≤ u.stored - u.reserve → p ≡ deliverable u s p
unfolding deliverable
deliverable_all u s p h =
    let ok : ℕ → Bool = λ (x : ℕ). leb (removed_by u s x) (u.stored - u.reserve) in
    le_antisymm (largest_tops ok p p (le_refl p) (le-leb (removed_by u s p) (u.stored - u.reserve) h)) (largest_le ok p)

pub takeable_all : (u : Unit) (s p : ℕ) → added_by u s p ≤ u.rated - u.stored → p ≡ takeable u s p
unfolding takeable
takeable_all u s p h =
    let ok : ℕ → Bool = λ (x : ℕ). leb (added_by u s x) (u.rated - u.stored) in
    le_antisymm (largest_tops ok p p (le_refl p) (le-leb (added_by u s p) (u.rated - u.stored) h)) (largest_le ok p)

pub takeable_most : (u : Unit) (s p : ℕ) → takeable u s p ≤ p
unfolding takeable
takeable_most u s p = largest_le (λ (x : ℕ). leb (added_by u s x) (u.rated - u.stored)) p

-- what is delivered leaves the reserve, and what is taken has room
pub deliverable_within : (u : Unit) (s p : ℕ) → 0 < deliverable u s p → removed_by u s (deliverable u s p) ≤ u.stored - u.reserve
unfolding deliverable
deliverable_within u s p h =
    leb-true (removed_by u s (deliverable u s p)) (u.stored - u.reserve) (largest_passes (λ (x : ℕ). leb (removed_by u s x) (u.stored - u.reserve)) p h)

pub takeable_within : (u : Unit) (s p : ℕ) → added_by u s (takeable u s p) ≤ u.rated - u.stored
unfolding takeable added_by
takeable_within u s p = go (eq-zero-or-pos (takeable u s p))
  where
    nothing : (x : ℕ) → x ≡ 0 → x * u.inverter / 10000 - u.dc_loss ≡ 0
    nothing x e = let m : x * u.inverter ≡ 0 = ap (λ (n : ℕ). n * u.inverter) e ∙ zero-mul u.inverter in omega arith

    go : (takeable u s p ≡ 0) ⊎ (0 < takeable u s p) → added_by u s (takeable u s p) ≤ u.rated - u.stored
    go (inl e) = let z : 0 ≡ added_by u s (takeable u s p) = added_none (takeable u s p * u.inverter / 10000 - u.dc_loss) s u.charge (nothing (takeable u s p) e) in omega arith
    go (inr h) = leb-true (added_by u s (takeable u s p)) (u.rated - u.stored) (largest_passes (λ (x : ℕ). leb (added_by u s x) (u.rated - u.stored)) p h)

module _ (u : Unit) (s p : ℕ) (b : Bounds u s) where
  some_inverter : 0 < u.inverter
  some_inverter = omega arith

  pub deliverable_is : deliverable u s p
      ≡ min p (((u.stored - u.reserve) * u.discharge / (s * 10000) - u.dc_loss) * u.inverter / 10000)
  unfolding deliverable
  deliverable_is =
      largest_upto (λ (x : ℕ). leb (removed_by u s x) (u.stored - u.reserve)) p
      (((u.stored - u.reserve) * u.discharge / (s * 10000) - u.dc_loss) * u.inverter / 10000)
      (λ x h. removed_test x u.inverter u.dc_loss s u.discharge (u.stored - u.reserve) (omega arith) (omega arith) (omega arith) h)

  pub takeable_is : takeable u s p
      ≡ min p (((((u.rated - u.stored + 1) * 10000 - 1) / (s * u.charge) + u.dc_loss + 1) * 10000 - 1) / u.inverter)
  unfolding takeable
  takeable_is =
      largest_upto (λ (x : ℕ). leb (added_by u s x) (u.rated - u.stored)) p
      (((((u.rated - u.stored + 1) * 10000 - 1) / (s * u.charge) + u.dc_loss + 1) * 10000 - 1) / u.inverter)
      (λ x h. added_test x u.inverter u.dc_loss s u.charge (u.rated - u.stored) some_inverter some)
    where
      some : 0 < s * u.charge
      some = let m : 1 * 1000 ≤ s * u.charge = mul-le-mul b.seconds_least b.charge_least in omega arith

  -- none where no more than the idle loss can be drawn
  pub deliverable_none : (u.stored - u.reserve) * u.discharge / (s * 10000) ≤ u.dc_loss → 0 ≡ deliverable u s p
  deliverable_none h =
      drawn_none p ((u.stored - u.reserve) * u.discharge / (s * 10000) - u.dc_loss) u.inverter (omega arith) ∙ sym deliverable_is

  -- nor where nothing lies above the reserve
  pub deliverable_empty : u.stored ≤ u.reserve → 0 ≡ deliverable u s p
  deliverable_empty h =
      let m = drawable_most (u.stored - u.reserve) u.discharge s b.discharge_most b.seconds_least in
      deliverable_none (omega arith)

-- ---- with both limits at S the limit is S whichever way the vars go
module _ (u : Unit) (provides : u.provide ≡ u.kva) (absorbs : u.absorb ≡ u.kva) where
  either : (b : Bool) → cond b u.absorb u.provide ≡ u.kva
  either true = absorbs
  either false = provides

  same : limited_vars u ≡ vars_within u
  same = ap (min (nat_abs u.var_request)) (either (negative u.var_request))

  both_limits : AsBefore u
  unfolding held_size vars_of
  both_limits = record {
    held = λ (request : ℤ). ap (λ (v : ℕ). watts_in u.kva u.priority v (nat_abs request)) same;
    vars = λ (watts : ℤ). ap (λ (v : ℕ). vars_in u.kva (negative u.var_request) v (nat_abs watts)) same;
  }

pub as_before : AsBeforeTheorem
as_before = both_limits
