-- The settling study (rules S1 to S6): passes in mode 1 from requests of zero, each on a measure of the load less the sum of requests, up to the first
-- that changes nothing or to the budget.
use Rattle.std.specs.Prelude.{ℕ, zero, suc, ◌+◌, Bool, true, false, not, cond, ◌&&◌, List, ℤ, pos, ◌-ℤ◌, replicate}
use Rattle.std.specs.Int.Signed.{le_z}
use Rattle.whole.specs.Over.{all_of}
use Rattle.rules.specs.declared.Settings.{Settings}
use Rattle.whole.specs.Interval.{between}
use Rattle.settling.specs.declared.Trial.{Trial}
use Rattle.rules.specs.Ranges.{settings_in}
use Rattle.members.specs.Ranges.{Fleet, member_at, lengths_ok, lengths_in}
use Rattle.members.specs.Sums.{sum_of_all, changed_of}
use Rattle.controller.specs.Pass.{pass_of}

-- the settings of a study: mode 1, whatever mode they have
abbrev pub shaving : Settings → Settings
shaving s = record { mode = 1; target = s.target; band = s.band; factor = s.factor }

-- one pass of a study: it reads the load less the sum of requests
unfoldable pub study_pass : Settings → ℤ → Fleet → List ℤ → List ℤ
unfolding sum_of_all pass_of
study_pass s load f rs = pass_of s (load -ℤ sum_of_all rs) f rs

-- the requests after k passes from these, whether or not they change any
unfoldable pub passes : Settings → ℤ → Fleet → ℕ → List ℤ → List ℤ
unfolding study_pass
passes s load f zero rs = rs
passes s load f (suc k) rs = passes s load f k (study_pass s load f rs)

-- what a study returns
pub record Study : Type 0 where
  pub requests : List ℤ
  pub settled : Bool
  pub changing : ℕ

-- a study with k passes left, after `count` that changed a request
unfoldable pub study_from : Settings → ℤ → Fleet → ℕ → ℕ → List ℤ → Study
unfolding study_pass changed_of
study_from s load f zero count rs = record { requests = rs; settled = false; changing = count }
study_from s load f (suc k) count rs =
    let after = study_pass s load f rs in
    let more = study_from s load f k (count + 1) after in
    cond (changed_of rs after) more (record { requests = rs; settled = true; changing = count })

-- the study of a fleet of n units from requests of zero
unfoldable pub study_of : Settings → ℤ → Fleet → ℕ → ℕ → Study
unfolding study_from
study_of s load f budget n = study_from s load f budget 0 (replicate n (pos 0))

-- settings, a load of 0 to 10^8 W and a budget of 1 to 10,000 passes (rules Q17 to Q20, Q24 and Q25)
unfoldable pub trial_in : Trial → Bool
unfolding settings_in
trial_in q =
    settings_in (shaving q.settings) && (le_z (pos 0) q.load && le_z q.load (pos 100000000)) && between 1 10000 q.budget

-- what a study of n requests refuses: lengths (10), then values (5); 0 for nothing
unfoldable pub study_refusal : Trial → Fleet → ℕ → ℕ
unfolding trial_in member_at lengths_ok all_of
study_refusal q f n = cond (not (lengths_in f n)) 10 (cond (not (trial_in q && all_of n (member_at f))) 5 0)
