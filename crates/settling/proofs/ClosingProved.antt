-- How quickly the gap closes. The requests after k passes are those after k steps, so that what a step gains (`ClosingSteps`) is what the gap loses. A pass
-- that changes a request raises the sum of the requests by a watt or more, and that sum stays within the gap and within the ratings: so from any pass on the
-- changing ones number at most what is left to either. Assumes nothing.
use mathlib.Core.Path.{◌≡◌, refl, sym, ap, ap₂, ◌∙◌, subst, subst⁻¹}
use mathlib.Core.Bool.{Bool, true, false, cond, ◌&&◌}
use Prim.Native.Nat.{ℕ, zero, suc, ◌+◌, ◌-◌, ◌*◌, ◌/◌, ◌≤◌, ◌<◌, min}
use native.Mathlib.Nat.{le_refl, le_step, add-zero, add-suc}
use native.Mathlib.Omega.{arith}
use lib.Dec.{leb, ltb, leb-suc-zero}
use lib.IntN.{ℤ, pos, nat_abs}
use lib.ListN.{get_or}
use lib.Signed.{lt_z}
use borrow.Author.Tests.{le-leb, le-ltb, lt-ltb, leb-true, leb-false}
use Rattle.whole.specs.Over.{sum_of}
use Rattle.whole.proofs.Choice.{by_test}
use Rattle.settling.proofs.SumLaws.{sum_same, sum_le, sum_add}
use Rattle.settling.proofs.ClosingSteps.{step_gains, step_whole}
use Rattle.settling.proofs.ClosedLaws.{remainder}
use Rattle.settling.proofs.SettlingSteps.{after, share_in}
use Rattle.settling.proofs.SettlingStill.{still_after}
use Rattle.settling.proofs.SettlingPass.{some, need_is}
use Rattle.settling.proofs.SettlingProved.{pos_lt, D, R, carried, kept, carries, request_is, gap_is, rises, raised, R-above}
use Rattle.rules.specs.declared.Settings.{Settings}
use Rattle.members.specs.Ranges.{Fleet}
use Rattle.controller.specs.Pass.{need_of}
use Rattle.settling.specs.Settling.{Premises, requests_at, measure_at, rating_of, weight_of, request_at, gap_at, changes}
use Rattle.settling.specs.Closing.{ClosingLaw, ClosingTheorem, EqualWeights, AllAbove, NoneAtRating, Outside, WideBand, even_share, has_room, with_room, left_of, changing_after, closed, closed_by}

-- a gap below n is within a band of 2n
within_wide : (s : Settings) (load : ℤ) (f : Fleet) (n : ℕ) → WideBand s load f n → (gap : ℕ) → gap < n → 2 * gap ≤ s.band
within_wide s load f n wide gap less = omega arith

module _ (s : Settings) (load : ℤ) (f : Fleet) (n : ℕ) (p : Premises s load f n) where
  abbrev at : ℕ → ℕ → ℕ
  at = carried s load f n p

  abbrev asked : ℕ → ℕ
  asked k = sum_of n (at k)

  abbrev gap : ℕ → ℕ
  gap k = gap_at s load f n k

  abbrev limit : ℕ → ℕ
  limit = R s load f n p

  abbrev w : ℕ → ℕ
  w = weight_of s load f n

  abbrev total : ℕ
  total = D s load f n p

  within : (k : ℕ) → asked k ≤ total
  within k = (kept s load f n p k).within

  -- what the requests and the gap come to is always the same
  whole_is : (k : ℕ) → gap k + asked k ≡ total
  whole_is k = let is : gap k ≡ total - asked k = gap_is s load f n p k in let most = within k in omega arith

  need_of_lem : (k : ℕ) → need_of s (measure_at s load f n k) (requests_at s load f n k) ≡ pos (gap k)
  unfolding measure_at
  need_of_lem k = need_is s load f n p (requests_at s load f n k) (at k) (carries s load f n p k) (within k) ∙ ap pos (sym (gap_is s load f n p k))

  -- a unit with room is one below the limit
  room_is : (k i : ℕ) → i < n → has_room s load f n k i ≡ ltb (at k i) (limit i)
  room_is k i l =
      by_test (λ (x : ℕ). (ltb reserve stored && lt_z (request_at s load f n k i) (pos rating)) ≡ ltb (at k i) x) (leb stored reserve) 0 rating
      (λ t. ap (λ (b : Bool). b && lt_z (request_at s load f n k i) (pos rating)) (le-ltb reserve stored (leb-true stored reserve t)) ∙ sym (leb-suc-zero (at k i)))
      (λ t. ap₂ (λ (b : Bool) (z : ℤ). b && lt_z z (pos rating)) (lt-ltb reserve stored (leb-false stored reserve t)) (request_is s load f n p k i l))
    where
      reserve : ℕ
      reserve = get_or f.reserve i 0

      stored : ℕ
      stored = get_or f.stored i 0

      rating : ℕ
      rating = rating_of s load f n i

  with_room_lem : (k : ℕ) → with_room s load f n k ≡ sum_of n (λ (i : ℕ). cond (ltb (at k i) (limit i)) 1 0)
  unfolding with_room
  with_room_lem k =
      sum_same n (λ (i : ℕ). cond (has_room s load f n k i) 1 0) (λ (i : ℕ). cond (ltb (at k i) (limit i)) 1 0)
      (λ i l. ap (λ (b : Bool). cond b 1 0) (room_is k i l))

  -- ---- the counts from any pass on
  counted : (k m : ℕ) → asked k + changing_after s load f n k m ≤ asked (k + m)
  unfolding changing_after sum_of
  counted k zero = rw (add-zero k) (omega arith)
  counted k (suc m) =
      rw (add-suc k m)
      (by_test (λ (x : ℕ). asked k + (changing_after s load f n k m + x) ≤ asked (suc (k + m))) (changes s load f n (k + m)) 1 0
      (λ t. omega (arith, counted k m, raised s load f n p (k + m) t))
      (λ t. omega (arith, counted k m, sum_le n (at (k + m)) (at (suc (k + m))) (rises s load f n p (k + m)))))

  changing_gap : (k m : ℕ) → changing_after s load f n k m ≤ gap k
  changing_gap k m = omega (arith, counted k m, whole_is k, within (k + m))

  changing_room : (k m : ℕ) → changing_after s load f n k m ≤ sum_of n (left_of s load f n k)
  changing_room k m =
      let most : asked (k + m) ≤ sum_of n (λ (i : ℕ). at k i + left_of s load f n k i) = sum_le n (at (k + m)) (λ (i : ℕ). at k i + left_of s load f n k i) upto in
      let split : sum_of n (λ (i : ℕ). at k i + left_of s load f n k i) ≡ asked k + sum_of n (left_of s load f n k) = sum_add n (at k) (left_of s load f n k) in
      omega (arith, counted k m)
    where
      upto : (i : ℕ) → i < n → at (k + m) i ≤ at k i + left_of s load f n k i
      upto i l =
          let size : nat_abs (request_at s load f n k i) ≡ at k i = ap nat_abs (request_is s load f n p k i l) in
          let rated : at (k + m) i ≤ limit i = (kept s load f n p (k + m)).rated i l in
          omega arith

  -- ---- within the band
  stays : (k : ℕ) → 2 * gap k ≤ s.band → (i : ℕ) → at (suc k) i ≡ at k i
  unfolding after
  stays k h i =
      ap (λ (b : Bool). cond b (at k i) (min (at k i + share_in n total s.band s.factor limit w (at k) i) (limit i)))
      (le-leb (2 * (total - asked k)) s.band (subst (λ (x : ℕ). 2 * x ≤ s.band) (gap_is s load f n p k) h))

  in_band_lem : (k : ℕ) → 2 * gap k ≤ s.band → changes s load f n k ≡ false
  in_band_lem k h = go (changes s load f n k) refl
    where
      go : (b : Bool) → changes s load f n k ≡ b → b ≡ false
      go true t =
          let more : asked k < asked (suc k) = raised s load f n p k t in
          let same : asked (suc k) ≡ asked k = sum_same n (at (suc k)) (at k) (λ i l. stays k h i) in
          absurd (omega arith)
      go false t = refl

  in_band_after : (k m : ℕ) → 2 * gap k ≤ s.band → k ≤ m → changes s load f n m ≡ false
  in_band_after k m h l = still_after s load f n k m l (in_band_lem k h)

  -- ---- equal weights
  module _ (equal : EqualWeights s load f n) where
    as_first : (i : ℕ) → i < n → w i ≡ w 0
    as_first i l = equal i 0 l (some s load f n p)

    first_weight : 0 < w 0
    first_weight = p.weights_in 0 (some s load f n p)

    abbrev share : ℕ → ℕ
    share = even_share s load f n

    -- the share as a step has it
    share_is : (k : ℕ) → share k ≡ (total - asked k) * s.factor / (n * 1000)
    share_is k = ap (λ (x : ℕ). x * s.factor / (n * 1000)) (gap_is s load f n p k)

    outside_is : (k : ℕ) → Outside s load f n k → s.band < 2 * (total - asked k)
    outside_is k out = subst (λ (x : ℕ). s.band < 2 * x) (gap_is s load f n p k) out

    pass_closes_lem : (k : ℕ) → Outside s load f n k → gap (suc k) + with_room s load f n (suc k) * share k ≤ gap k
    unfolding after
    pass_closes_lem k out =
        let gained = step_gains n total s.band s.factor limit w (w 0) first_weight as_first (at k) (kept s load f n p k) (outside_is k out) in
        let product : with_room s load f n (suc k) * share k ≡ sum_of n (λ (i : ℕ). cond (ltb (at (suc k) i) (limit i)) 1 0) * ((total - asked k) * s.factor / (n * 1000)) =
        ap₂ (λ (x y : ℕ). x * y) (with_room_lem (suc k)) (share_is k) in
        omega (arith, whole_is k, whole_is (suc k))

    -- no unit at its rating, all of them above their reserves
    module _ (above : AllAbove s load f n) where
      below_is : (k : ℕ) → NoneAtRating s load f n k → (i : ℕ) → i < n → at k i < limit i
      below_is k none i l =
          subst⁻¹ (λ (x : ℕ). at k i < x) (R-above s load f n p i (above i l))
          (pos_lt (request_at s load f n k i) (at k i) (rating_of s load f n i) (request_is s load f n p k i l) (none i l))

      closed_is : (k : ℕ) → Outside s load f n k → ((i : ℕ) → i < n → at (suc k) i < limit i) → gap (suc k) ≡ closed n s.factor (gap k)
      unfolding after closed
      closed_is k out below =
          let raised_by = step_whole n total s.band s.factor limit w (w 0) first_weight as_first (at k) (kept s load f n p k) (outside_is k out) below in
          let shares : n * share k ≡ n * ((total - asked k) * s.factor / (n * 1000)) = ap (λ (x : ℕ). n * x) (share_is k) in
          omega (arith, whole_is k, whole_is (suc k))

      closes_to_lem : (k j : ℕ) → ((i : ℕ) → i < j → Outside s load f n (k + i)) → ((i : ℕ) → i < n → at (k + j) i < limit i)
          → gap (k + j) ≡ closed_by n s.factor j (gap k)
      unfolding closed_by
      closes_to_lem k zero out below = ap gap (add-zero k)
      closes_to_lem k (suc j) out below =
          let last : (i : ℕ) → i < n → at (suc (k + j)) i < limit i = λ i l. subst (λ (m : ℕ). at m i < limit i) (add-suc k j) (below i l) in
          ap gap (add-suc k j)
          ∙ closed_is (k + j) (out j (le_refl (suc j))) last
          ∙ ap (closed n s.factor) (closes_to_lem k j (λ i l. out i (le_step l)) (λ i l. omega (arith, last i l, rises s load f n p (k + j) i l)))

      first_suffices_lem : s.factor ≡ 1000 → WideBand s load f n → NoneAtRating s load f n 1 → 2 * gap 1 ≤ s.band
      first_suffices_lem e wide none = go (leb (2 * gap 0) s.band) refl
        where
          go : (b : Bool) → leb (2 * gap 0) s.band ≡ b → 2 * gap 1 ≤ s.band
          go true t =
              let near : 2 * gap 0 ≤ s.band = leb-true (2 * gap 0) s.band t in
              omega (arith, whole_is 0, whole_is 1, sum_le n (at 0) (at 1) (rises s load f n p 0))
          go false t =
              within_wide s load f n wide (gap 1)
              (subst⁻¹ (λ (x : ℕ). x < n) (closed_is 0 (leb-false (2 * gap 0) s.band t) (below_is 1 none))
              (subst⁻¹ (λ (x : ℕ). closed n x (gap 0) < n) e (remainder n (gap 0) (some s load f n p))))

  closing : ClosingLaw s load f n
  closing =
      record {
        gap_is_need = need_of_lem;
        pass_closes = pass_closes_lem;
        first_suffices = λ equal e wide above none. first_suffices_lem equal above e wide none;
        none_after_first = λ equal e wide above none m l. in_band_after 1 m (first_suffices_lem equal above e wide none) l;
        closes_to = λ equal above k j out none. closes_to_lem equal above k j out (below_is equal above (k + j) none);
        changing_within_left = changing_gap;
        changing_within_room = changing_room;
        still_in_band = in_band_after;
      }

pub closing_law : ClosingTheorem
closing_law = closing
