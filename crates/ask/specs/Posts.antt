-- Nobody has to believe this file: the parts of contracts by name.
use Rattle.std.specs.Prelude.{ℕ, true, List, ◌≡◌, ℤ, length}
use Rattle.settling.specs.declared.Trial.{Trial}
use Rattle.settling.specs.declared.Studied.{Studied}
use Rattle.settling.specs.Study.{shaving, trial_in}
use Rattle.settling.specs.Posts.{DoneStudy}
use Rattle.site.specs.Site.{count}
use Rattle.stick.specs.Site.{site_of}
use Rattle.stick.specs.Check.{Accepted}
use Rattle.ask.specs.Says.{fleet_said}

-- an accepted file, a trial in its ranges that is the file's, and a request for each unit
pub record Studying (file : List ℕ) (q : Trial) (requests : List ℤ) : Type 0 where
  pub accepted : Accepted file
  pub trial : trial_in q ≡ true
  pub settings_are : q.settings ≡ (site_of file).head.settings
  pub requests_there : length requests ≡ count (site_of file)

-- what the study over the file's fleet leaves
abbrev pub Surveyed : List ℕ → Trial → List ℤ → List ℤ → Studied → Type 0
Surveyed file q before after r = DoneStudy (shaving q.settings) q.load (fleet_said file) q.budget (length before) after r
