-- The settling law in whole numbers without a sign. A step gives each unit its share of what is missing, up to its rating, unless what is
-- missing is within the band. The shares come to no more than what is missing, so the sum stays within D; no request falls; of two units the
-- heavier has the larger share, so it stays ahead until it is at its rating. Assumes nothing.
use mathlib.Core.Path.{◌≡◌, refl}
use mathlib.Core.Bool.{Bool, true, false, cond}
use mathlib.Core.Logic.{◌⊎◌, inl, inr}
use Prim.Native.Nat.{ℕ, zero, suc, ◌+◌, ◌-◌, ◌*◌, ◌/◌, ◌≤◌, ◌<◌, min, zero-le}
use native.Mathlib.Nat.{le_refl, le_trans, min-le_left, min-le_right, eq-or-lt_of_le}
use native.Mathlib.Nat.{one-mul, mul-le-mul_left, mul-le-mul_right, div-lt_iff_lt-mul, le-div_iff_mul-le, div-mul-le_self}
use native.Mathlib.Omega.{arith}
use lib.Dec.{leb}
use borrow.Author.Tests.{leb-true}
use Rattle.whole.specs.Over.{sum_of}
use Rattle.whole.proofs.Choice.{by_test}
use Rattle.settling.proofs.SumLaws.{sum_le, sum_add, sum_none, sum_shares}

-- a larger number has no smaller quotient
div_le : {a b d : ℕ} → 0 < d → a ≤ b → a / d ≤ b / d
div_le {a} {b} {d} p h = (le-div_iff_mul-le p).1 (le_trans (div-mul-le_self a d) h)

-- n units with ratings R and weights w, D watts from target to load
module _ (n D band factor : ℕ) (R w : ℕ → ℕ) where
  -- what is missing, unit i's share of it, and its request after a step
  abbrev pub missing : (ℕ → ℕ) → ℕ
  missing q = D - sum_of n q

  abbrev pub share_in : (ℕ → ℕ) → ℕ → ℕ
  share_in q i = missing q * w i * factor / (sum_of n w * 1000)

  abbrev pub step : (ℕ → ℕ) → ℕ → ℕ
  step q i = cond (leb (2 * missing q) band) (q i) (min (q i + share_in q i) (R i))

  -- the requests after k steps from zero
  unfoldable pub after : ℕ → ℕ → ℕ
  after zero i = 0
  after (suc k) i = step (after k) i

  -- what each step keeps
  pub record Kept (q : ℕ → ℕ) : Type 0 where
    pub within : sum_of n q ≤ D
    pub rated : (i : ℕ) → i < n → q i ≤ R i
    pub ahead : (i j : ℕ) → i < n → j < n → w j ≤ w i → q i < R i → q j ≤ q i

  pub kept_none : Kept (λ (i : ℕ). 0)
  kept_none =
      record {
        within = omega (arith, sum_none n (λ (i : ℕ). 0) (λ i l. refl));
        rated = λ i l. zero-le;
        ahead = λ i j l m h r. le_refl 0;
      }

  -- one step, with a total weight above 0
  module _ (weighty : 0 < sum_of n w * 1000) (q : ℕ → ℕ) (kept : Kept q) where
    -- what holds of both outcomes of a step
    by_band : (P : ℕ → Type 0) (i : ℕ) → P (q i) → P (min (q i + share_in q i) (R i)) → P (step q i)
    by_band P i x y = by_test P (leb (2 * missing q) band) (q i) (min (q i + share_in q i) (R i)) (λ t. x) (λ t. y)

    -- no request falls
    pub step_rises : (i : ℕ) → i < n → q i ≤ step q i
    step_rises i l = by_band (λ (x : ℕ). q i ≤ x) i (le_refl (q i)) (omega (arith, kept.rated i l))

    step_rated : (i : ℕ) → i < n → step q i ≤ R i
    step_rated i l = by_band (λ (x : ℕ). x ≤ R i) i (kept.rated i l) (min-le_right (q i + share_in q i) (R i))

    step_most : (i : ℕ) → i < n → step q i ≤ q i + share_in q i
    step_most i l = by_band (λ (x : ℕ). x ≤ q i + share_in q i) i (omega arith) (min-le_left (q i + share_in q i) (R i))

    step_within : factor ≤ 1000 → sum_of n (step q) ≤ D
    step_within h =
        let grown : sum_of n (step q) ≤ sum_of n (λ (i : ℕ). q i + share_in q i) = sum_le n (step q) (λ (i : ℕ). q i + share_in q i) step_most in
        let split : sum_of n (λ (i : ℕ). q i + share_in q i) ≡ sum_of n q + sum_of n (share_in q) = sum_add n q (share_in q) in
        let shares : sum_of n (share_in q) ≤ missing q = sum_shares n (missing q) factor 1000 w h weighty in
        let room : sum_of n q ≤ D = kept.within in
        omega arith

    share_le : (i j : ℕ) → w j ≤ w i → share_in q j ≤ share_in q i
    share_le i j h = div_le weighty (mul-le-mul_right factor (mul-le-mul_left (missing q) h))

    step_ahead : (i j : ℕ) → i < n → j < n → w j ≤ w i → step q i < R i → step q j ≤ step q i
    step_ahead i j l m h = at (leb (2 * missing q) band)
      where
        at : (b : Bool) → cond b (q i) (min (q i + share_in q i) (R i)) < R i
            → cond b (q j) (min (q j + share_in q j) (R j)) ≤ cond b (q i) (min (q i + share_in q i) (R i))
        at true r = kept.ahead i j l m h r
        at false r =
            let order : q j ≤ q i = kept.ahead i j l m h (omega (arith, kept.rated i l)) in
            omega (arith, share_le i j h)

    pub kept_step : factor ≤ 1000 → Kept (step q)
    kept_step h = record { within = step_within h; rated = step_rated; ahead = step_ahead }

    -- a step without effect: within the band, or each unit at its rating or with a share under one
    pub settled_step : ((i : ℕ) → i < n → step q i ≡ q i)
        → (2 * missing q ≤ band) ⊎ ((i : ℕ) → i < n → (q i ≡ R i) ⊎ (missing q * w i * factor < sum_of n w * 1000))
    settled_step = at (leb (2 * missing q) band) refl
      where
        unit : (i : ℕ) → min (q i + share_in q i) (R i) ≡ q i → (q i ≡ R i) ⊎ (q i < R i)
            → (q i ≡ R i) ⊎ (missing q * w i * factor < sum_of n w * 1000)
        unit i e (inl full) = inl full
        unit i e (inr room) =
            let none : share_in q i < 1 = omega arith in
            let small : missing q * w i * factor < 1 * (sum_of n w * 1000) = (div-lt_iff_lt-mul weighty).0 none in
            inr (rw one-mul at small)

        at : (b : Bool) → leb (2 * missing q) band ≡ b → ((i : ℕ) → i < n → cond b (q i) (min (q i + share_in q i) (R i)) ≡ q i)
            → (2 * missing q ≤ band) ⊎ ((i : ℕ) → i < n → (q i ≡ R i) ⊎ (missing q * w i * factor < sum_of n w * 1000))
        at true t same = inl (leb-true (2 * missing q) band t)
        at false t same = inr (λ i l. unit i (same i l) (eq-or-lt_of_le (kept.rated i l)))
