-- Nobody has to believe this file: the parts of contracts by name.
use Rattle.std.specs.Prelude.{ℕ, ◌≤◌, List, ◌≡◌, ℤ, nat_abs, ◌-ℤ◌}
use Rattle.rules.specs.declared.Settings.{Settings}
use Rattle.members.specs.Ranges.{Fleet}
use Rattle.members.specs.Sums.{sum_of_all}
use Rattle.controller.specs.Posts.{Sound}
use Rattle.settling.specs.declared.Trial.{Trial}
use Rattle.settling.specs.declared.Studied.{Studied}
use Rattle.settling.specs.Study.{shaving, study_of}

-- what a study may count on
pub record Trying (q : Trial) (f : Fleet) (n : ℕ) : Type 0 where
  pub sound : Sound (shaving q.settings) q.load f n
  pub load_small : nat_abs q.load ≤ 100000000

-- what a study leaves: the definition's requests, whether it settled and the changing passes
pub record DoneStudy (s : Settings) (load : ℤ) (f : Fleet) (budget n : ℕ) (after : List ℤ) (r : Studied) : Type 0 where
  pub requests : after ≡ (study_of s load f budget n).requests
  pub settled : r.settled ≡ (study_of s load f budget n).settled
  pub passes : r.passes ≡ (study_of s load f budget n).changing

-- that of a trial
abbrev pub DoneTrial : Trial → Fleet → ℕ → List ℤ → Studied → Type 0
DoneTrial q f n after r = DoneStudy (shaving q.settings) q.load f q.budget n after r

-- the measure of a study, with its bound
pub record Measured (load : ℤ) (rs : List ℤ) (m : ℤ) : Type 0 where
  pub is : m ≡ load -ℤ sum_of_all rs
  pub small : nat_abs m ≤ 200000000000
