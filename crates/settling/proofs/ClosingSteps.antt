-- How quickly what is missing closes, in whole numbers without a sign. With equal weights every unit's share is the same quotient; a unit that is below its
-- rating after a step outside the band has taken its whole share, and no other has fallen. Assumes nothing.
use mathlib.Core.Path.{◌≡◌, ap, ap₂, ◌∙◌}
use mathlib.Core.Bool.{Bool, cond}
use Prim.Native.Nat.{ℕ, ◌+◌, ◌*◌, ◌/◌, ◌≤◌, ◌<◌, min}
use native.Mathlib.Nat.{mul_right_comm, mul-div-mul_right, one-mul, zero-mul}
use native.Mathlib.Omega.{arith}
use lib.Dec.{ltb}
use borrow.Author.Tests.{ltb-true, lt-leb}
use Rattle.whole.specs.Over.{sum_of}
use Rattle.whole.proofs.Choice.{by_test}
use Rattle.settling.proofs.SumLaws.{sum_same, sum_le, sum_add, sum_const, sum_mul}
use Rattle.settling.proofs.SettlingSteps.{missing, share_in, step, Kept}

module _ (n D band factor : ℕ) (R w : ℕ → ℕ) (c : ℕ) (weighty : 0 < c) (equal : (i : ℕ) → i < n → w i ≡ c) where
  -- the share of each unit
  abbrev pub whole_share : ℕ → ℕ
  whole_share gap = gap * factor / (n * 1000)

  share_is : (q : ℕ → ℕ) (i : ℕ) → i < n → share_in n D band factor R w q i ≡ whole_share (missing n D band factor R w q)
  share_is q i l =
      let gap : ℕ = missing n D band factor R w q in
      let weights : sum_of n w ≡ n * c = sum_same n w (λ (j : ℕ). c) equal ∙ sum_const n c in
      ap₂ (λ (x y : ℕ). gap * x * factor / (y * 1000)) (equal i l) weights
      ∙ ap₂ (λ (x y : ℕ). x / y) (mul_right_comm gap c factor) (mul_right_comm n c 1000)
      ∙ mul-div-mul_right (gap * factor) (n * 1000) weighty

  -- a step outside the band
  module _ (q : ℕ → ℕ) (kept : Kept n D band factor R w q) (outside : band < 2 * missing n D band factor R w q) where
    abbrev next : ℕ → ℕ
    next = step n D band factor R w q

    abbrev share : ℕ
    share = whole_share (missing n D band factor R w q)

    next_is : (i : ℕ) → i < n → next i ≡ min (q i + share) (R i)
    next_is i l =
        ap (λ (b : Bool). cond b (q i) (min (q i + share_in n D band factor R w q i) (R i))) (lt-leb (2 * missing n D band factor R w q) band outside)
        ∙ ap (λ (x : ℕ). min (q i + x) (R i)) (share_is q i l)

    -- how many units are then below R
    abbrev pub room : ℕ
    room = sum_of n (λ (i : ℕ). cond (ltb (next i) (R i)) 1 0)

    gains : (i : ℕ) → i < n → q i + cond (ltb (next i) (R i)) 1 0 * share ≤ next i
    gains i l =
        by_test (λ (x : ℕ). q i + x * share ≤ next i) (ltb (next i) (R i)) 1 0
        (λ t.
        let below : next i < R i = ltb-true (next i) (R i) t in
        let is : next i ≡ min (q i + share) (R i) = next_is i l in
        let one : 1 * share ≡ share = one-mul share in
        omega arith)
        (λ t.
        let is : next i ≡ min (q i + share) (R i) = next_is i l in
        let rated : q i ≤ R i = kept.rated i l in
        let none : 0 * share ≡ 0 = zero-mul share in
        omega arith)

    pub step_gains : sum_of n q + room * share ≤ sum_of n next
    step_gains =
        let sums : sum_of n (λ (i : ℕ). q i + cond (ltb (next i) (R i)) 1 0 * share) ≤ sum_of n next =
        sum_le n (λ (i : ℕ). q i + cond (ltb (next i) (R i)) 1 0 * share) next gains in
        let split : sum_of n (λ (i : ℕ). q i + cond (ltb (next i) (R i)) 1 0 * share) ≡ sum_of n q + sum_of n (λ (i : ℕ). cond (ltb (next i) (R i)) 1 0 * share) =
        sum_add n q (λ (i : ℕ). cond (ltb (next i) (R i)) 1 0 * share) in
        let shares : sum_of n (λ (i : ℕ). cond (ltb (next i) (R i)) 1 0 * share) ≡ room * share = sum_mul n (λ (i : ℕ). cond (ltb (next i) (R i)) 1 0) share in
        omega arith

    -- none at R: each has taken its whole share
    pub step_whole : ((i : ℕ) → i < n → next i < R i) → sum_of n next ≡ sum_of n q + n * share
    step_whole below =
        sum_same n next (λ (i : ℕ). q i + share) taken ∙ sum_add n q (λ (i : ℕ). share) ∙ ap (λ (x : ℕ). sum_of n q + x) (sum_const n share)
      where
        taken : (i : ℕ) → i < n → next i ≡ q i + share
        taken i l =
            let is : next i ≡ min (q i + share) (R i) = next_is i l in
            let low : next i < R i = below i l in
            omega arith
