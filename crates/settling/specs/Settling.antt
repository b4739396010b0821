-- The settling law (rules S7 to S16). A peak-shaving fleet of n units, requests all zero at first, total store above total reserve, a fixed load above
-- the target, each pass on a measure of the load less the sum of requests, no time passing. The law is about the units above their reserves; the others
-- stay at 0.
use Rattle.std.specs.Prelude.{ℕ, suc, ◌*◌, ◌≤◌, ◌<◌, Bool, true, false, List, ◌⊎◌, ◌≡◌, leb, ℤ, pos, ◌-ℤ◌, replicate, ◌≤ℤ◌, ◌<ℤ◌}
use Rattle.std.proofs.Math.Bool.{cond}
use Rattle.std.proofs.Math.IntN.{nat_abs}
use Rattle.std.proofs.Math.ListN.{get_or}
use Rattle.whole.specs.Over.{sum_of}
use Rattle.rules.specs.declared.Settings.{Settings}
use Rattle.members.specs.Ranges.{Fleet}
use Rattle.members.specs.Sums.{total, sum_of_all, changed_of}
use Rattle.settling.specs.Study.{study_pass, passes, study_of}

-- the premises; of the ranges only what is needed: a factor of at most 1,000 thousandths and weights from 1 up
pub record Premises (s : Settings) (load : ℤ) (f : Fleet) (n : ℕ) : Type 0 where
  pub peak_shaving : s.mode ≡ 1
  pub factor_in : s.factor ≤ 1000
  pub weights_in : (i : ℕ) → i < n → 0 < get_or f.weight i 0
  pub store_above_reserve : total n f.reserve < total n f.stored
  pub load_above_target : s.target <ℤ load

module _ (s : Settings) (load : ℤ) (f : Fleet) (n : ℕ) where
  -- the requests after k passes from zero, and unit i's among them
  unfoldable pub requests_at : ℕ → List ℤ
  unfolding passes
  requests_at k = passes s load f k (replicate n (pos 0))

  unfoldable pub request_at : ℕ → ℕ → ℤ
  unfolding requests_at
  request_at k i = get_or (requests_at k) i (pos 0)

  -- the measure after k passes, and how far it is above the target
  unfoldable pub measure_at : ℕ → ℤ
  unfolding requests_at sum_of_all
  measure_at k = load -ℤ sum_of_all (requests_at k)

  unfoldable pub gap_at : ℕ → ℕ
  unfolding measure_at
  gap_at k = nat_abs (measure_at k -ℤ s.target)

  -- whether the pass after k passes changes a request, and how many of the first k do
  unfoldable pub changes : ℕ → Bool
  unfolding requests_at study_pass changed_of
  changes k = changed_of (requests_at k) (study_pass s load f (requests_at k))

  unfoldable pub changing : ℕ → ℕ
  unfolding changes sum_of
  changing k = sum_of k (λ (j : ℕ). cond (changes j) 1 0)

  -- unit i is above its reserve
  abbrev pub Above : ℕ → Type 0
  Above i = (i < n) × (get_or f.reserve i 0 < get_or f.stored i 0)

  -- unit i's rating, and 0 for it where it is not above its reserve
  abbrev pub rating_of : ℕ → ℕ
  rating_of i = get_or f.rating i 0

  abbrev pub rating_above : ℕ → ℕ
  rating_above i = cond (leb (get_or f.stored i 0) (get_or f.reserve i 0)) 0 (rating_of i)

  -- its weight

  abbrev pub weight_of : ℕ → ℕ
  weight_of i = get_or f.weight i 0

-- the law, sentence by sentence, after any number k of passes
pub record SettlingLaw (s : Settings) (load : ℤ) (f : Fleet) (n : ℕ) : Type 0 where
  -- S8: the measure never falls below the target
  pub measure_never_below : (k : ℕ) → s.target ≤ℤ measure_at s load f n k
  -- S9: no request falls, none exceeds its rating
  pub no_request_falls : (k i : ℕ) → i < n → request_at s load f n k i ≤ℤ request_at s load f n (suc k) i
  pub none_exceeds : (k i : ℕ) → i < n → request_at s load f n k i ≤ℤ pos (rating_of s load f n i)
  -- S10: of the units above their reserves, one below its rating carries no less than any of equal or smaller weight
  pub carries_no_less : (k i j : ℕ) → Above s load f n i → Above s load f n j → weight_of s load f n j ≤ weight_of s load f n i
      → request_at s load f n k i <ℤ pos (rating_of s load f n i) → request_at s load f n k j ≤ℤ request_at s load f n k i
  -- S11, S12: the passes that change a request are at most the watts from target to load, and at most the sum of the ratings of the units above their reserves
  pub changing_within_gap : (k : ℕ) → changing s load f n k ≤ nat_abs (load -ℤ s.target)
  pub changing_within_ratings : (k : ℕ) → changing s load f n k ≤ sum_of n (rating_above s load f n)
  -- S13: after one pass that changes none, none ever does
  pub settled_for_good : (k m : ℕ) → k ≤ m → changes s load f n k ≡ false → changes s load f n m ≡ false
  -- S14: and then the measure is within half the band of the target, or each unit above its reserve is at its rating or has a share under one watt
  pub settled_state : (k : ℕ) → changes s load f n k ≡ false
      → (2 * gap_at s load f n k ≤ s.band)
      ⊎ ((i : ℕ) → Above s load f n i → (request_at s load f n k i ≡ pos (rating_of s load f n i))
      ⊎ (gap_at s load f n k * weight_of s load f n i * s.factor < total n f.weight * 1000))
  -- S16: a unit at or below its reserve stays at 0
  pub others_stay : (k i : ℕ) → i < n → get_or f.stored i 0 ≤ get_or f.reserve i 0 → request_at s load f n k i ≡ pos 0

-- S15: a study with any budget is such passes, stopped at the first that changes none or at its budget: so the law is the study's too
pub record StudyLaw (s : Settings) (load : ℤ) (f : Fleet) (budget n : ℕ) : Type 0 where
  -- it returns the requests after as many passes as changed one
  pub requests_are : (study_of s load f budget n).requests ≡ requests_at s load f n (study_of s load f budget n).changing
  -- the count is the number of changing passes among the first `budget`
  pub count_is : (study_of s load f budget n).changing ≡ changing s load f n budget
  -- settled: the next pass changes none; not settled: every pass of the budget changed one
  pub settled_is : (study_of s load f budget n).settled ≡ true → changes s load f n (study_of s load f budget n).changing ≡ false
  pub unsettled_is : (study_of s load f budget n).settled ≡ false → (study_of s load f budget n).changing ≡ budget

-- the theorem, which is demand 3
abbrev pub SettlingTheorem : Type 0
SettlingTheorem = (s : Settings) (load : ℤ) (f : Fleet) (n : ℕ) → Premises s load f n → SettlingLaw s load f n
