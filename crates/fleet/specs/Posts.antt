-- Nobody has to believe this file: the parts of contracts by name, and what a step may count on.
use Rattle.std.specs.Prelude.{ℕ, ◌≤◌, ◌<◌, false, List, ◌≡◌, ℤ, pos, nat_abs, length, get_or}
use Rattle.rows.specs.declared.Row.{Row}
use Rattle.rows.specs.Rows.{units_by}
use Rattle.members.specs.Posts.{TotalsOf}
use Rattle.storage.specs.Posts.{Rested}
use Rattle.lead.specs.declared.Lead.{Lead}
use Rattle.site.specs.declared.Head.{Head}
use Rattle.site.specs.Site.{Site, count, unit_of}
use Rattle.site.specs.Ranges.{Sited}
use Rattle.fleet.specs.declared.Frame.{Frame}

-- the site of a head and of rows, and of a frame and of rows
abbrev pub site_by : Head → List Row → Site
site_by head rows = record { head = head; units = units_by rows }

abbrev pub site_in : Frame → List Row → Site
site_in f rows = site_by f.head rows

-- a site in its ranges, the sums over its fleet, and what each unit does while it idles
pub record Ready (f : Frame) (rows : List Row) : Type 0 where
  pub sited : Sited (site_in f rows)
  pub totals : TotalsOf rows f.totals
  pub rested : Rested f.head.seconds rows

-- no store above rated
abbrev pub Stored : Site → List ℕ → Type 0
Stored site stored = (i : ℕ) → i < count site → get_or stored i 0 ≤ (unit_of site i).rated

-- a store, a request and vars for each unit, no store above rated, no vars beyond their bounds
pub record Held (site : Site) (stored : List ℕ) (requests vars : List ℤ) : Type 0 where
  pub stores : length stored ≡ count site
  pub asks : length requests ≡ count site
  pub leads : length vars ≡ count site
  pub within : Stored site stored
  pub small : (i : ℕ) → i < count site → nat_abs (get_or vars i (pos 0)) ≤ 100000000

-- nothing leads: no function, no base after the watts, no voltage of this step
pub record Unled (l : Lead) : Type 0 where
  pub no_function : l.leads ≡ false
  pub no_base : l.after ≡ false
  pub no_voltage : l.fresh ≡ false
