-- The circle: watts are at most what is asked and at most S, and vars leave them in it. Assumes nothing.
use mathlib.Core.Path.{◌≡◌, sym, ap}
use mathlib.Core.Bool.{Bool, cond}
use Prim.Native.Nat.{ℕ, ◌+◌, ◌*◌, ◌≤◌, min}
use native.Mathlib.Nat.{le_trans, le_of_eq, min-le_left, min-le_right}
use native.Mathlib.Omega.{arith}
use lib.Dec.{eqb}
use lib.IntN.{nat_abs}
use borrow.Author.Tests.{eq-eqb, ne_eqb}
use Rattle.whole.specs.Largest.{leg_of}
use Rattle.whole.specs.Circle.{watts_in, vars_in}
use Rattle.whole.proofs.Choice.{by_test}
use Rattle.whole.proofs.LargestLaws.{square_le, leg_in}
use Rattle.whole.proofs.SignLaws.{size_signed}

module _ (S priority v asked : ℕ) where
  -- by the test that the code makes
  pub watts_beside : priority ≡ 1 → min (min asked S) (leg_of S v) ≡ watts_in S priority v asked
  unfolding watts_in
  watts_beside e = sym (ap (λ (b : Bool). cond b (min (min asked S) (leg_of S v)) (min asked S)) (eq-eqb priority 1 e))

  pub watts_first_lem : (priority ≡ 1 → ⊥) → min asked S ≡ watts_in S priority v asked
  unfolding watts_in
  watts_first_lem n = sym (ap (λ (b : Bool). cond b (min (min asked S) (leg_of S v)) (min asked S)) (ne_eqb priority 1 n))

  pub watts_most : (watts_in S priority v asked ≤ asked) × (watts_in S priority v asked ≤ S)
  unfolding watts_in
  watts_most =
      let p = min asked S in
      by_test (λ (n : ℕ). (n ≤ asked) × (n ≤ S)) (eqb priority 1) (min p (leg_of S v)) p
      (λ t. omega arith)
      (λ t. omega arith)

module _ (S : ℕ) (below : Bool) (v watts : ℕ) where
  pub vars_most : (nat_abs (vars_in S below v watts) ≤ v) × (nat_abs (vars_in S below v watts) ≤ leg_of S watts)
  unfolding vars_in
  vars_most =
      let e = size_signed below (min v (leg_of S watts)) in
      (le_trans (le_of_eq e) (min-le_left v (leg_of S watts)), le_trans (le_of_eq e) (min-le_right v (leg_of S watts)))

  pub in_circle_lem : watts ≤ S → watts * watts + nat_abs (vars_in S below v watts) * nat_abs (vars_in S below v watts) ≤ S * S
  in_circle_lem h =
      let leg = leg_of S watts in
      let q = nat_abs (vars_in S below v watts) in
      let s : q * q ≤ leg * leg = square_le vars_most.1 in
      let c : leg * leg + watts * watts ≤ S * S = leg_in S watts h in
      omega arith
