-- Nobody has to believe this file: the parts of contracts by name.
use Rattle.std.specs.Prelude.{ℕ, ◌+◌, Bool, List, ◌≡◌, ℤ, length}
use Rattle.rows.specs.declared.Row.{Row}
use Rattle.stick.specs.Check.{check_of, Accepted}
use Rattle.stick.specs.Site.{site_of, roofs_of, plant_of}
use Rattle.stick.specs.Posts.{steps_place}
use Rattle.site.specs.Site.{count, none_yet}
use Rattle.fleet.specs.Posts.{site_in}
use Rattle.stretch.specs.declared.Track.{Track}
use Rattle.stretch.specs.Posts.{Planted, Holding, plant_by, stands_by}
use Rattle.stretch.specs.Stretch.{stands_first}

-- a file that the check accepts with so many steps
pub record Counted (file : List ℕ) (steps : ℕ) : Type 0 where
  pub accepted : Accepted file
  pub counted : (check_of file).steps ≡ steps

-- a list, or rows, for each unit of a file, a flag for each inverter, and vars for each of both
pub record Lengths (file : List ℕ) (rows : List Row) (stored : List ℕ) (requests vars : List ℤ) (on : List Bool) : Type 0 where
  pub rows_there : length rows ≡ count (site_of file)
  pub stored_there : length stored ≡ count (site_of file)
  pub requests_there : length requests ≡ count (site_of file)
  pub flags_there : length on ≡ length (roofs_of file)
  pub vars_there : length vars ≡ count (site_of file) + length (roofs_of file)

-- where a run over a file sets out: the file's plant in a track and rows, what stands at first, and the first step's place
pub record SetOut (file : List ℕ) (t : Track) (rows : List Row) (stored : List ℕ) (requests vars : List ℤ) (on : List Bool) : Type 0 where
  pub planted : Planted t rows file (length on)
  pub plant_is : plant_by t rows file (length on) ≡ plant_of file
  pub held : Holding (site_in t.frame rows) stored requests vars on
  pub stands : stands_by stored requests vars on ≡ stands_first (plant_of file)
  pub place_is : t.at ≡ steps_place file
  pub none_out : t.out ≡ 0
  pub none_yet_is : t.way.due ≡ none_yet
  pub none_done : t.way.step ≡ 0
