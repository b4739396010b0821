-- A unit of a site in its ranges is in its own, with the site's seconds. Assumes nothing.
use Prim.Native.Nat.{ℕ, ◌<◌}
use Rattle.unit.specs.Ranges.{Ranged}
use Rattle.site.specs.Site.{Site, count, unit_of}
use Rattle.site.specs.Ranges.{Sited}

pub unit_ranged : (site : Site) → Sited site → (i : ℕ) → i < count site → Ranged (unit_of site i) site.head.seconds
unit_ranged site h i l = record { unit = h.units i l; seconds_in_is = h.seconds }
