-- The settling law. The requests after k passes are those after k steps (`SettlingPass`), so what steps keep holds of them (`SettlingSteps`).
-- A pass that changes a request raises the sum by a watt or more, so the passes that do number at most the sum, which is within the gap and
-- within the ratings. One that changes none leaves every step without effect: the band, a rating, or a share under one watt. Assumes nothing.
use mathlib.Core.Path.{◌≡◌, refl, sym, ap, ◌∙◌, subst, subst⁻¹}
use mathlib.Core.Bool.{Bool, true, false, cond}
use mathlib.Core.List.{List}
use mathlib.Core.Logic.{◌⊎◌, inl, inr}
use Prim.Native.Nat.{ℕ, zero, suc, ◌+◌, ◌-◌, ◌*◌, ◌≤◌, ◌<◌, zero-le}
use native.Mathlib.Nat.{le_refl, le_trans, lt_irrefl}
use native.Mathlib.Omega.{arith}
use lib.Dec.{leb, le→leb, ltb→lt}
use lib.IntN.{ℤ, pos, nat_abs, ◌-ℤ◌}
use lib.ListN.{length, get_or, length-replicate, get_or-replicate}
use lib.Signed.{◌≤ℤ◌, ◌<ℤ◌}
use borrow.Author.Tests.{le-leb, lt-leb}
use Rattle.whole.specs.Over.{sum_of}
use Rattle.whole.proofs.Choice.{by_test, passed_failed}
use Rattle.settling.proofs.SumLaws.{sum_le, sum_lt}
use Rattle.whole.proofs.OverLaws.{some_at}
use Rattle.settling.proofs.DifferenceLaws.{no_smaller}
use Rattle.settling.proofs.SettlingSteps.{after, Kept, kept_none, kept_step, step_rises, settled_step}
use Rattle.settling.proofs.SettlingStill.{next_requests, still, still_after}
use Rattle.settling.proofs.SettlingPass.{Requests, sum_is, gap, step_of, measure_is, pass_steps}
use Rattle.rules.specs.declared.Settings.{Settings}
use Rattle.members.specs.Ranges.{Fleet}
use Rattle.members.specs.Sums.{differ}
use Rattle.settling.specs.Study.{study_pass}
use Rattle.settling.specs.Settling.{Premises, SettlingLaw, SettlingTheorem, Above, rating_above, requests_at, request_at, measure_at, gap_at, changes, changing}

-- ---- order of signed numbers that are no less than 0
pos_le : (a b : ℤ) (x y : ℕ) → a ≡ pos x → b ≡ pos y → x ≤ y → a ≤ℤ b
pos_le a b x y p q h = record { le = rw (p, q) (le→leb x y h) }

pub pos_lt : (a : ℤ) (x y : ℕ) → a ≡ pos x → a <ℤ pos y → x < y
pos_lt a x y p h = ltb→lt x y (rw p at h.lt)

differ_lt : (x y : ℕ) → x ≤ y → differ (pos x) (pos y) ≡ true → x < y
differ_lt x y l e = let more : ¬ (y ≤ x) = clash in omega arith
  where
    clash : y ≤ x → ⊥
    clash h = passed_failed e (simp (le-leb x y l, le-leb y x h))

-- the total weight of a fleet with any store is above 0
some_weight : (n : ℕ) (reserve stored w : ℕ → ℕ) → sum_of n reserve < sum_of n stored → ((i : ℕ) → i < n → 0 < w i) → 0 < sum_of n w * 1000
unfolding sum_of
some_weight zero reserve stored w h weights = absurd (lt_irrefl 0 h)
some_weight (suc n) reserve stored w h weights = omega (arith, weights n (le_refl (suc n)))

module _ (s : Settings) (load : ℤ) (f : Fleet) (n : ℕ) (p : Premises s load f n) where
  abbrev pub D : ℕ
  D = gap s load f n p

  -- as far as a unit can be asked: its rating, or 0
  abbrev pub R : ℕ → ℕ
  R = rating_above s load f n

  abbrev rating : ℕ → ℕ
  rating i = get_or f.rating i 0

  pub R-above : (i : ℕ) → Above s load f n i → R i ≡ rating i
  R-above i a = ap (λ (b : Bool). cond b 0 (rating i)) (lt-leb (get_or f.stored i 0) (get_or f.reserve i 0) a.1)

  R-below : (i : ℕ) → get_or f.stored i 0 ≤ get_or f.reserve i 0 → R i ≡ 0
  R-below i h = ap (λ (b : Bool). cond b 0 (rating i)) (le-leb (get_or f.stored i 0) (get_or f.reserve i 0) h)

  R-most : (i : ℕ) → R i ≤ rating i
  R-most i = by_test (λ (x : ℕ). x ≤ rating i) (leb (get_or f.stored i 0) (get_or f.reserve i 0)) 0 (rating i) (λ t. zero-le) (λ t. le_refl (rating i))

  abbrev w : ℕ → ℕ
  w i = get_or f.weight i 0

  -- what unit i carries after k passes
  abbrev pub carried : ℕ → ℕ → ℕ
  carried k = after n D s.band s.factor R w k

  abbrev KeptAt : (ℕ → ℕ) → Type 0
  KeptAt q = Kept n D s.band s.factor R w q

  weighty : 0 < sum_of n w * 1000
  weighty = some_weight n (λ (i : ℕ). get_or f.reserve i 0) (λ (i : ℕ). get_or f.stored i 0) w p.store_above_reserve p.weights_in

  pub kept : (k : ℕ) → KeptAt (carried k)
  unfolding after
  kept zero = kept_none n D s.band s.factor R w
  kept (suc k) = kept_step n D s.band s.factor R w weighty (carried k) (kept k) p.factor_in

  pub carries : (k : ℕ) → Requests n (requests_at s load f n k) (carried k)
  unfolding after requests_at
  carries zero = record { count = length-replicate n (pos 0); at = λ i l. get_or-replicate n i (pos 0) (pos 0) l }
  carries (suc k) =
      subst⁻¹ (λ (rs : List ℤ). Requests n rs (carried (suc k))) (next_requests s load f n k)
      (pass_steps s load f n p (requests_at s load f n k) (carried k) (carries k) (kept k).within)

  pub request_is : (k i : ℕ) → i < n → request_at s load f n k i ≡ pos (carried k i)
  unfolding request_at
  request_is k i l = (carries k).at i l

  -- the measure, above the target by what is missing
  above_is : (k : ℕ) → measure_at s load f n k -ℤ s.target ≡ pos (D - sum_of n (carried k))
  unfolding measure_at
  above_is k =
      ap (λ (z : ℤ). (load -ℤ z) -ℤ s.target) (sum_is n (requests_at s load f n k) (carried k) (carries k))
      ∙ measure_is s load f n p (sum_of n (carried k)) (kept k).within

  pub gap_is : (k : ℕ) → gap_at s load f n k ≡ D - sum_of n (carried k)
  unfolding gap_at
  gap_is k = ap nat_abs (above_is k)

  -- no request falls; one that a pass changes rises
  pub rises : (k i : ℕ) → i < n → carried k i ≤ carried (suc k) i
  unfolding after
  rises k = step_rises n D s.band s.factor R w weighty (carried k) (kept k)

  pub raised : (k : ℕ) → changes s load f n k ≡ true → sum_of n (carried k) < sum_of n (carried (suc k))
  unfolding changes
  raised k e = go (some_at (length (requests_at s load f n k)) differs e)
    where
      differs : ℕ → Bool
      differs i = differ (get_or (requests_at s load f n k) i (pos 0)) (get_or (study_pass s load f (requests_at s load f n k)) i (pos 0))

      more : (i : ℕ) → i < n → differs i ≡ true → carried k i < carried (suc k) i
      more i l t = differ_lt (carried k i) (carried (suc k) i) (rises k i l) (sym same ∙ t)
        where
          next : get_or (study_pass s load f (requests_at s load f n k)) i (pos 0) ≡ pos (carried (suc k) i)
          next = ap (λ (rs : List ℤ). get_or rs i (pos 0)) (sym (next_requests s load f n k)) ∙ (carries (suc k)).at i l

          same : differs i ≡ differ (pos (carried k i)) (pos (carried (suc k) i))
          same = rw ((carries k).at i l, next)

      go : (i : ℕ) × (i < length (requests_at s load f n k)) × (differs i ≡ true) → sum_of n (carried k) < sum_of n (carried (suc k))
      go found =
          let l : found.0 < n = subst (λ (m : ℕ). found.0 < m) (carries k).count found.1 in
          sum_lt n (carried k) (carried (suc k)) (rises k) found.0 l (more found.0 l found.2)

  changing_le : (k : ℕ) → changing s load f n k ≤ sum_of n (carried k)
  unfolding changing
  changing_le zero = zero-le
  changing_le (suc k) =
      by_test (λ (x : ℕ). changing s load f n k + x ≤ sum_of n (carried (suc k))) (changes s load f n k) 1 0
      (λ t. omega (arith, changing_le k, raised k t))
      (λ t. omega (arith, changing_le k, sum_le n (carried k) (carried (suc k)) (rises k)))

  -- a pass that changes none is a step without effect
  without_effect : (k : ℕ) → changes s load f n k ≡ false → (i : ℕ) → i < n → step_of s load f n p (carried k) i ≡ carried k i
  unfolding after
  without_effect k e i l =
      ap nat_abs (sym ((carries (suc k)).at i l) ∙ ap (λ (rs : List ℤ). get_or rs i (pos 0)) (sym (still s load f n k e)) ∙ (carries k).at i l)

  settled_state_lem : (k : ℕ) → changes s load f n k ≡ false
      → (2 * gap_at s load f n k ≤ s.band)
      ⊎ ((i : ℕ) → Above s load f n i → (request_at s load f n k i ≡ pos (rating i)) ⊎ (gap_at s load f n k * w i * s.factor < sum_of n w * 1000))
  settled_state_lem k e = rw (gap_is k) (go (settled_step n D s.band s.factor R w weighty (carried k) (kept k) (without_effect k e)))
    where
      missing : ℕ
      missing = D - sum_of n (carried k)

      unit : (i : ℕ) → Above s load f n i → (carried k i ≡ R i) ⊎ (missing * w i * s.factor < sum_of n w * 1000)
          → (request_at s load f n k i ≡ pos (rating i)) ⊎ (missing * w i * s.factor < sum_of n w * 1000)
      unit i a (inl full) = inl (request_is k i a.0 ∙ ap pos (full ∙ R-above i a))
      unit i a (inr small) = inr small

      go : (2 * missing ≤ s.band) ⊎ ((i : ℕ) → i < n → (carried k i ≡ R i) ⊎ (missing * w i * s.factor < sum_of n w * 1000))
          → (2 * missing ≤ s.band) ⊎ ((i : ℕ) → Above s load f n i → (request_at s load f n k i ≡ pos (rating i)) ⊎ (missing * w i * s.factor < sum_of n w * 1000))
      go (inl near) = inl near
      go (inr each) = inr (λ i a. unit i a (each i a.0))

  law : SettlingLaw s load f n
  law =
      record {
        measure_never_below = λ k. no_smaller s.target (measure_at s load f n k) (D - sum_of n (carried k)) (above_is k);
        no_request_falls = λ k i l.
            pos_le (request_at s load f n k i) (request_at s load f n (suc k) i) (carried k i) (carried (suc k) i)
            (request_is k i l) (request_is (suc k) i l) (rises k i l);
        none_exceeds = λ k i l. pos_le (request_at s load f n k i) (pos (rating i)) (carried k i) (rating i) (request_is k i l) refl (le_trans ((kept k).rated i l) (R-most i));
        carries_no_less = λ k i j a b h r.
            pos_le (request_at s load f n k j) (request_at s load f n k i) (carried k j) (carried k i)
            (request_is k j b.0) (request_is k i a.0)
            ((kept k).ahead i j a.0 b.0 h (subst⁻¹ (λ (x : ℕ). carried k i < x) (R-above i a) (pos_lt (request_at s load f n k i) (carried k i) (rating i) (request_is k i a.0) r)));
        changing_within_gap = λ k. le_trans (changing_le k) (kept k).within;
        changing_within_ratings = λ k. le_trans (changing_le k) (sum_le n (carried k) R (kept k).rated);
        settled_for_good = still_after s load f n;
        settled_state = settled_state_lem;
        others_stay = λ k i l h.
            let most : carried k i ≤ R i = (kept k).rated i l in
            let none : carried k i ≡ 0 = omega (arith, R-below i h) in
            request_is k i l ∙ ap pos none;
      }

pub settling : SettlingTheorem
settling = law
