-- How quickly the gap closes (rules S17 to S24). The premises are the settling law's; the gap is how far the measure is above the target.
use Rattle.std.specs.Prelude.{ℕ, zero, suc, ◌+◌, ◌-◌, ◌*◌, ◌/◌, ◌^◌, ◌≤◌, ◌<◌, Bool, false, ◌&&◌, ◌≡◌, ltb, ℤ, pos, nat_abs, get_or, ◌<ℤ◌}
use Rattle.std.proofs.Math.Bool.{cond}
use Rattle.std.specs.Int.Signed.{lt_z}
use Rattle.whole.specs.Over.{sum_of}
use Rattle.rules.specs.declared.Settings.{Settings}
use Rattle.members.specs.Ranges.{Fleet}
use Rattle.members.specs.Sums.{total}
use Rattle.controller.specs.Pass.{need_of}
use Rattle.settling.specs.Study.{study_of}
use Rattle.settling.specs.Settling.{Premises, requests_at, request_at, measure_at, gap_at, changes, Above, rating_of, rating_above, weight_of}

module _ (s : Settings) (load : ℤ) (f : Fleet) (n : ℕ) where
  -- the weights of all units are equal
  abbrev pub EqualWeights : Type 0
  EqualWeights = (i j : ℕ) → i < n → j < n → weight_of s load f n i ≡ weight_of s load f n j

  -- every unit is above its reserve
  abbrev pub AllAbove : Type 0
  AllAbove = (i : ℕ) → i < n → Above s load f n i

  -- no unit has reached its rating after k passes
  abbrev pub NoneAtRating : ℕ → Type 0
  NoneAtRating k = (i : ℕ) → i < n → request_at s load f n k i <ℤ pos (rating_of s load f n i)

  -- the pass after k passes is outside the band
  abbrev pub Outside : ℕ → Type 0
  Outside k = s.band < 2 * gap_at s load f n k

  -- the band is at least 2n
  abbrev pub WideBand : Type 0
  WideBand = 2 * n ≤ s.band

  -- a unit's share of the gap after k passes where all weights are equal
  abbrev pub even_share : ℕ → ℕ
  even_share k = gap_at s load f n k * s.factor / (n * 1000)

  -- unit i is above its reserve and below its rating after k passes, and how many units are
  abbrev pub has_room : ℕ → ℕ → Bool
  has_room k i = ltb (get_or f.reserve i 0) (get_or f.stored i 0) && lt_z (request_at s load f n k i) (pos (rating_of s load f n i))

  unfoldable pub with_room : ℕ → ℕ
  unfolding request_at sum_of
  with_room k = sum_of n (λ (i : ℕ). cond (has_room k i) 1 0)

  -- what is left of unit i's rating after k passes, and 0 where it is not above its reserve
  abbrev pub left_of : ℕ → ℕ → ℕ
  left_of k i = rating_above s load f n i - nat_abs (request_at s load f n k i)

  -- how many of the m passes that come after k passes change a request
  unfoldable pub changing_after : ℕ → ℕ → ℕ
  unfolding changes sum_of
  changing_after k m = sum_of m (λ (j : ℕ). cond (changes s load f n (k + j)) 1 0)

-- what one pass leaves of a gap where each of n units takes its whole share
unfoldable pub closed : ℕ → ℕ → ℕ → ℕ
closed n factor gap = gap - n * (gap * factor / (n * 1000))

-- and what j such passes leave
unfoldable pub closed_by : ℕ → ℕ → ℕ → ℕ → ℕ
unfolding closed
closed_by n factor zero gap = gap
closed_by n factor (suc j) gap = closed n factor (closed_by n factor j gap)

pub record ClosingLaw (s : Settings) (load : ℤ) (f : Fleet) (n : ℕ) : Type 0 where
  -- the gap is the need of the next pass
  pub gap_is_need : (k : ℕ) → need_of s (measure_at s load f n k) (requests_at s load f n k) ≡ pos (gap_at s load f n k)
  -- S17: a pass outside the band lowers the gap by at least a whole share for each unit above its reserve that is then below its rating
  pub pass_closes : EqualWeights s load f n → (k : ℕ) → Outside s load f n k
      → gap_at s load f n (suc k) + with_room s load f n (suc k) * even_share s load f n k ≤ gap_at s load f n k
  -- S18: the first pass suffices: after it the gap is within the band, and no later pass changes a request
  pub first_suffices : EqualWeights s load f n → s.factor ≡ 1000 → WideBand s load f n → AllAbove s load f n → NoneAtRating s load f n 1
      → 2 * gap_at s load f n 1 ≤ s.band
  pub none_after_first : EqualWeights s load f n → s.factor ≡ 1000 → WideBand s load f n → AllAbove s load f n → NoneAtRating s load f n 1
      → (m : ℕ) → 1 ≤ m → changes s load f n m ≡ false
  -- S19: j passes outside the band after which no unit has reached its rating leave what j-fold closing does
  pub closes_to : EqualWeights s load f n → AllAbove s load f n → (k j : ℕ) → ((i : ℕ) → i < j → Outside s load f n (k + i)) → NoneAtRating s load f n (k + j)
      → gap_at s load f n (k + j) ≡ closed_by n s.factor j (gap_at s load f n k)
  -- S21: of the passes after any k, those that change a request are at most the watts from the target to the measure then
  pub changing_within_left : (k m : ℕ) → changing_after s load f n k m ≤ gap_at s load f n k
  -- S22: and at most what is left then to the ratings of the units above their reserves
  pub changing_within_room : (k m : ℕ) → changing_after s load f n k m ≤ sum_of n (left_of s load f n k)
  -- S23: where the gap is within half the band, no pass from there on changes a request
  pub still_in_band : (k m : ℕ) → 2 * gap_at s load f n k ≤ s.band → k ≤ m → changes s load f n m ≡ false

-- the theorem, under the premises of the settling law
abbrev pub ClosingTheorem : Type 0
ClosingTheorem = (s : Settings) (load : ℤ) (f : Fleet) (n : ℕ) → Premises s load f n → ClosingLaw s load f n

-- S20: what j-fold closing leaves, times the factor, is at most gap × factor × (1 - factor / 1,000)^j + n × 1,000, here without quotients
abbrev pub ClosedLaw : Type 0
ClosedLaw =
    (n factor j gap : ℕ) → 1 ≤ n → factor ≤ 1000
    → closed_by n factor j gap * factor * 1000 ^ j ≤ gap * factor * (1000 - factor) ^ j + n * 1000 * 1000 ^ j

-- S24: a study in mode 1 of one pass or more that its budget stopped has its load above its target and its total store above its total reserve, so that
-- the laws are about it too
abbrev pub StoppedLaw : Type 0
StoppedLaw =
    (s : Settings) (load : ℤ) (f : Fleet) (budget n : ℕ) → s.mode ≡ 1 → 1 ≤ budget → (study_of s load f budget n).settled ≡ false
    → (s.target <ℤ load) × (total n f.reserve < total n f.stored)
