-- What holds of every run of an accepted file (rules O5, T5, M6 and P9). `run-law` proves it.
use Rattle.std.specs.Prelude.{ℕ, ◌<◌, List, ◌≡◌, ℤ, length, get_or, take, Ok}
use Rattle.reading.specs.declared.Phases.{Phases}
use Rattle.reading.specs.declared.Reading.TheVariants.{Missing, Power, Current}
use Rattle.reading.specs.Choice.{measure_of, current_of}
use Rattle.controller.specs.OneSign.{OneSign}
use Rattle.site.specs.Site.{none_yet, step_with}
use Rattle.stick.specs.Check.{Accepted}
use Rattle.stick.specs.Site.{site_of, plant_of, steps_of}
use Rattle.stretch.specs.Stretch.{stands_first, stands_after}
use Rattle.season.specs.Run.{result_of}
use Rattle.season.specs.Answers.{needed}

pub record RunLaw (file : List ℕ) : Type 0 where
  -- the result has as many bytes as the room is asked for
  pub result_length : length (result_of file) ≡ needed file
  -- every power that the file has gives a measure, and every current
  pub none_refused : (k : ℕ) → k < length (steps_of file) → (p : Phases) → (get_or (steps_of file) k (step_with Missing none_yet)).reading ≡ Power p
      → (m : ℤ) × (measure_of p (site_of file).head.phase ≡ Ok m)
  pub no_current_refused : (k : ℕ) → k < length (steps_of file) → (p : Phases) → (get_or (steps_of file) k (step_with Missing none_yet)).reading ≡ Current p
      → (m : ℤ) × (current_of p (site_of file).head.phase ≡ Ok m)
  -- after any number of steps the requests are not of both signs
  pub one_sign : (k : ℕ) → OneSign (stands_after (plant_of file) (stands_first (plant_of file)) (take k (steps_of file))).units.requests

-- the theorem: of every accepted file
abbrev pub RunTheorem : Type 0
RunTheorem = (file : List ℕ) → Accepted file → RunLaw file
