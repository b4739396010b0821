-- A pass of the study, on requests that are no less than 0 and come to no more than the watts from target to load, is a step in whole numbers
-- without a sign (`SettlingSteps`). Mode 1 is not by current, so all units share one need (`one-need`). No request is below 0, so rule 2 adds nothing; an idle fleet has a need above 0, so rule 3 does not stop
-- it; the store is above the reserve, so rule 4 does not; rules 5 and 6 are the step. Assumes nothing.
use mathlib.Core.Path.{◌≡◌, refl, sym, ap, ◌∙◌, subst⁻¹}
use mathlib.Core.Bool.{Bool, true, false, not, cond, ◌&&◌}
use mathlib.Core.List.{List}
use Prim.Native.Nat.{ℕ, zero, suc, ◌+◌, ◌-◌, ◌*◌, ◌/◌, ◌≤◌, ◌<◌, min}
use native.Mathlib.Nat.{lt_irrefl}
use native.Mathlib.Omega.{arith}
use lib.Dec.{leb, ltb, eqb, leb-suc-zero}
use lib.IntN.{ℤ, pos, nat_abs, ◌+ℤ◌, ◌-ℤ◌}
use lib.ListN.{length, get_or}
use lib.Signed.{lt_z}
use borrow.Author.Tests.{lt-leb, ltb-false}
use Rattle.whole.specs.Over.{sum_of, sum_ofℤ, some_of, each}
use Rattle.settling.proofs.SumLaws.{sum_none, sumℤ_pos}
use Rattle.whole.proofs.OverLaws.{none_at, none_of, each_at}
use Rattle.settling.proofs.DifferenceLaws.{above_by, less_by}
use Rattle.settling.proofs.SettlingSteps.{step}
use Rattle.settling.proofs.SettlingStill.{studied_length}
use Rattle.rules.specs.declared.Settings.{Settings}
use Rattle.members.specs.Ranges.{Fleet, some_above, some_below}
use Rattle.rules.specs.Rules.{charges, by_current, plain_need, in_band}
use Rattle.members.specs.Sums.{total, sum_of_all}
use Rattle.controller.specs.Pass.{with_sum, need_of, rests, spent, all_in_band, request_after, pass_by}
use Rattle.controller.proofs.AlikeLaws.{rests_is, band_is}
use Rattle.controller.proofs.OneNeedProved.{one_need}
use Rattle.settling.specs.Study.{study_pass}
use Rattle.settling.specs.Settling.{Premises, rating_above}

-- the n requests are q, none below 0
pub record Requests (n : ℕ) (rs : List ℤ) (q : ℕ → ℕ) : Type 0 where
  pub count : length rs ≡ n
  pub at : (i : ℕ) → i < n → get_or rs i (pos 0) ≡ pos (q i)

module _ (n : ℕ) (rs : List ℤ) (q : ℕ → ℕ) (is : Requests n rs q) where
  pub sum_is : sum_of_all rs ≡ pos (sum_of n q)
  unfolding sum_of_all
  sum_is = ap (λ (m : ℕ). sum_ofℤ m (λ (i : ℕ). get_or rs i (pos 0))) is.count ∙ sumℤ_pos n (λ (i : ℕ). get_or rs i (pos 0)) q is.at

  pub none_below : some_below rs ≡ false
  unfolding some_below
  none_below =
      ap (λ (m : ℕ). some_of m (λ (i : ℕ). lt_z (get_or rs i (pos 0)) (pos 0))) is.count
      ∙ none_of n (λ (i : ℕ). lt_z (get_or rs i (pos 0)) (pos 0)) (λ i l. ap (λ (z : ℤ). lt_z z (pos 0)) (is.at i l) ∙ leb-suc-zero (q i))

  -- none above 0: the sum is 0
  idle_sum : some_above rs ≡ false → sum_of n q ≡ 0
  unfolding some_above
  idle_sum e = sum_none n q (λ i l. let low : q i ≤ 0 = ltb-false 0 (q i) (none i l) in omega arith)
    where
      none : (i : ℕ) → i < n → ltb 0 (q i) ≡ false
      none i l =
          ap (lt_z (pos 0)) (sym (is.at i l))
          ∙ none_at (length rs) (λ (j : ℕ). lt_z (pos 0) (get_or rs j (pos 0))) e i (subst⁻¹ (λ (m : ℕ). i < m) is.count l)

-- ---- the rules, over plain values, for a mode that is 1
pub one_plain : (mode : ℕ) (above low : Bool) (a b c : ℤ) → mode ≡ 1 → low ≡ false
    → cond (by_current mode) (cond (eqb mode 2) a b) (cond (cond (charges mode) above low) (cond (eqb mode 2) a b +ℤ c) (cond (eqb mode 2) a b)) ≡ b
one_plain mode above low a b c e h = simp (e, h)

one_rests : (mode : ℕ) (above low other : Bool) (x : ℕ) → mode ≡ 1 → (above ≡ false → 0 < x)
    → (not (cond (charges mode) low above) && cond (charges mode) other (leb x 0)) ≡ false
one_rests mode above low other x e h = simp e (go above h)
  where
    go : (above : Bool) → (above ≡ false → 0 < x) → (not above && leb x 0) ≡ false
    go true h = refl
    go false h = lt-leb x 0 (h refl)

one_keeps : (mode u : ℕ) → mode ≡ 1 → cond (cond (charges mode) (ltb 0 u) (ltb u 0)) (pos 0) (pos u) ≡ pos u
one_keeps mode u e = simp (e, leb-suc-zero u)

-- a unit is asked for 0, or as far as R goes
one_unable : (mode : ℕ) (full empty : Bool) (u : ℕ → ℕ) (R : ℕ) → mode ≡ 1 → u 0 ≡ 0
    → cond (cond (charges mode) full empty) (pos 0) (cond (cond (charges mode) (ltb 0 (u R)) (ltb (u R) 0)) (pos 0) (pos (u R))) ≡ pos (u (cond empty 0 R))
one_unable mode full empty u R e z = ap (λ (t : ℤ). cond (cond (charges mode) full empty) (pos 0) t) (one_keeps mode (u R) e) ∙ simp e (go empty)
  where
    go : (empty : Bool) → cond empty (pos 0) (pos (u R)) ≡ pos (u (cond empty 0 R))
    go true = ap pos (sym z)
    go false = refl

-- rules 3 and 4 do not stop the pass
goes_on : (a b : Bool) (rs x y : List ℤ) → a ≡ false → b ≡ false → cond a rs (cond b x y) ≡ y
goes_on a b rs x y p q = simp (p, q)

-- a larger sum is one of some numbers
some_units : (n : ℕ) (a b : ℕ → ℕ) → sum_of n a < sum_of n b → 1 ≤ n
unfolding sum_of
some_units zero a b h = absurd (lt_irrefl 0 h)
some_units (suc n) a b h = omega arith

-- one request of the two lists that a pass may give
pick : (b : Bool) (x y : List ℤ) (i a c : ℕ) → get_or x i (pos 0) ≡ pos a → get_or y i (pos 0) ≡ pos c → get_or (cond b x y) i (pos 0) ≡ pos (cond b a c)
pick true x y i a c p q = p
pick false x y i a c p q = q

module _ (s : Settings) (load : ℤ) (f : Fleet) (n : ℕ) (p : Premises s load f n) where
  -- the watts from target to load, and the step that they make with the fleet's ratings and weights
  abbrev pub gap : ℕ
  gap = nat_abs (load -ℤ s.target)

  abbrev pub step_of : (ℕ → ℕ) → ℕ → ℕ
  step_of = step n gap s.band s.factor (rating_above s load f n) (λ (i : ℕ). get_or f.weight i 0)

  -- there is a unit, since there is a store
  pub some : 1 ≤ n
  some = some_units n (λ (i : ℕ). get_or f.reserve i 0) (λ (i : ℕ). get_or f.stored i 0) p.store_above_reserve

  -- request a of unit i with its share of x, up to R
  abbrev with_share : ℕ → ℕ → ℕ → ℕ → ℕ
  with_share R x a i = min (a + x * get_or f.weight i 0 * s.factor / (total n f.weight * 1000)) R

  abbrev after_share : ℕ → ℕ → ℕ → ℕ
  after_share x a i = with_share (rating_above s load f n i) x a i

  -- a unit that is not above its reserve goes as one with a rating of 0
  request_is : (x a i : ℕ) → request_after s n f (λ (j : ℕ). pos x) i (pos a) ≡ pos (after_share x a i)
  unfolding request_after
  request_is x a i =
      one_unable s.mode (eqb (get_or f.stored i 0) (get_or f.rated i 0)) (leb (get_or f.stored i 0) (get_or f.reserve i 0)) (λ (R : ℕ). with_share R x a i) (get_or f.rating i 0) p.peak_shaving
      (omega arith)

  -- the measure is above the target by what is missing
  pub measure_is : (x : ℕ) → x ≤ gap → (load -ℤ pos x) -ℤ s.target ≡ pos (gap - x)
  measure_is x h = less_by load s.target gap x (above_by s.target load p.load_above_target).0 h

  module _ (rs : List ℤ) (q : ℕ → ℕ) (is : Requests n rs q) (within : sum_of n q ≤ gap) where
    pub need_is : need_of s (load -ℤ sum_of_all rs) rs ≡ pos (gap - sum_of n q)
    unfolding need_of with_sum plain_need
    need_is =
        one_plain s.mode (some_above rs) (some_below rs)
        ((load -ℤ sum_of_all rs) +ℤ s.target) ((load -ℤ sum_of_all rs) -ℤ s.target) (sum_of_all rs)
        p.peak_shaving (none_below n rs q is)
        ∙ ap (λ (z : ℤ). (load -ℤ z) -ℤ s.target) (sum_is n rs q is)
        ∙ measure_is (sum_of n q) within

    not_resting : rests s (λ (i : ℕ). pos (gap - sum_of n q)) rs ≡ false
    not_resting =
        rests_is s (pos (gap - sum_of n q)) rs (subst⁻¹ (λ (m : ℕ). 1 ≤ m) is.count some)
        ∙ one_rests s.mode (some_above rs) (some_below rs) (leb 0 (gap - sum_of n q)) (gap - sum_of n q) p.peak_shaving
        (λ e. omega (arith, idle_sum n rs q is e, (above_by s.target load p.load_above_target).1))

    not_spent : spent (charges s.mode) n f ≡ false
    unfolding spent
    not_spent = rw p.peak_shaving (lt-leb (total n f.stored) (total n f.reserve) p.store_above_reserve)

    -- what the rules give for a need and a number of units
    abbrev given : ℤ → ℕ → List ℤ
    given need k =
        cond (rests s (λ (i : ℕ). need) rs) rs
        (cond (spent (charges s.mode) k f) (each (λ (i : ℕ) (r : ℤ). pos 0) rs)
        (cond (all_in_band k (λ (i : ℕ). s.band) (λ (i : ℕ). need)) rs (each (request_after s k f (λ (i : ℕ). need)) rs)))

    -- mode 1 is not by current
    read : study_pass s load f rs ≡ given (need_of s (load -ℤ sum_of_all rs) rs) (length rs)
    unfolding study_pass pass_by
    read = one_need s (load -ℤ sum_of_all rs) f rs (ap by_current p.peak_shaving)

    -- rules 5 and 6 for what is missing
    abbrev missing : ℤ
    missing = pos (gap - sum_of n q)

    abbrev shared : List ℤ
    shared = each (request_after s n f (λ (i : ℕ). missing)) rs

    pass_is : study_pass s load f rs ≡ cond (in_band s.band missing) rs shared
    pass_is =
        read ∙ ap (λ (z : ℤ). given z (length rs)) need_is ∙ ap (given missing) is.count
        ∙ goes_on (rests s (λ (i : ℕ). missing) rs) (spent (charges s.mode) n f) rs (each (λ (i : ℕ) (r : ℤ). pos 0) rs)
        (cond (all_in_band n (λ (i : ℕ). s.band) (λ (i : ℕ). missing)) rs shared) not_resting not_spent
        ∙ ap (λ (b : Bool). cond b rs shared) (band_is n s.band missing some)

    shared_at : (i : ℕ) → i < n → get_or shared i (pos 0) ≡ request_after s n f (λ (j : ℕ). missing) i (pos (q i))
    shared_at i l =
        each_at (request_after s n f (λ (j : ℕ). missing)) rs i (pos 0) (subst⁻¹ (λ (m : ℕ). i < m) is.count l)
        ∙ ap (request_after s n f (λ (j : ℕ). missing) i) (is.at i l)

    pub pass_steps : Requests n (study_pass s load f rs) (step_of q)
    unfolding in_band
    pass_steps =
        record {
          count = studied_length s load f rs ∙ is.count;
          at = λ i l.
              ap (λ (x : List ℤ). get_or x i (pos 0)) pass_is
              ∙ pick (in_band s.band missing) rs shared i (q i) (after_share (gap - sum_of n q) (q i) i)
              (is.at i l) (shared_at i l ∙ request_is (gap - sum_of n q) (q i) i);
        }
