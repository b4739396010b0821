-- Every row is as it is stated: the definitions compute it. Assumes nothing.
use mathlib.Core.List.{List, map}
use mathlib.Core.Path.{◌≡◌, refl}
use lib.Ieee.{of_bits, to_bits, div, of_int}
use Rattle.reading.specs.Conversion.{watts_of}
use Rattle.reading.specs.Choice.{choice_of}
use Rattle.figures.specs.Rows.{Row}
use Rattle.figures.specs.Table.{table}
use Rattle.figures.specs.Further.{further}
use Rattle.figures.specs.Roofs.{roofs}
use Rattle.figures.specs.Limits.{limits}
use Rattle.figures.specs.Currents.{currents}
use Rattle.figures.specs.Voltages.{voltages}
use Rattle.figures.specs.Partners.{partners}
use Rattle.figures.specs.Calls.{mended, rescues, unsaved, calls}
use Rattle.figures.specs.Seasons.{seasons}

-- the rows of a list
abbrev Hold : List Row → Type 0
Hold rows = map (λ (r : Row). r.given) rows ≡ map (λ (r : Row). r.stated) rows

-- those of the figures, and those that pin what no figure does
pub table_hold : Hold table
unfolding table to_bits div of_int watts_of choice_of
table_hold = refl

pub further_hold : Hold further
unfolding further to_bits div of_int watts_of choice_of
further_hold = refl

pub roofs_hold : Hold roofs
unfolding roofs to_bits div of_int watts_of choice_of
roofs_hold = refl

pub limits_hold : Hold limits
unfolding limits to_bits div of_int watts_of choice_of
limits_hold = refl

pub currents_hold : Hold currents
unfolding currents to_bits div of_int watts_of choice_of
currents_hold = refl

pub voltages_hold : Hold voltages
unfolding voltages to_bits div of_int watts_of choice_of
voltages_hold = refl

-- and those about a partner's result, each of which is a check and a run of its own
pub partners_hold : Hold partners
unfolding partners of_bits to_bits div of_int watts_of choice_of
partners_hold = refl

-- and those about rescues, questions to a file, and states
pub mended_hold : Hold mended
unfolding mended of_bits to_bits div of_int watts_of choice_of
mended_hold = refl

pub rescues_hold : Hold rescues
unfolding rescues of_bits to_bits div of_int watts_of choice_of
rescues_hold = refl

pub unsaved_hold : Hold unsaved
unfolding unsaved of_bits to_bits div of_int watts_of choice_of
unsaved_hold = refl

pub calls_hold : Hold calls
unfolding calls of_bits to_bits div of_int watts_of choice_of
calls_hold = refl

-- and those about the figures of a season
pub seasons_hold : Hold seasons
unfolding seasons of_bits to_bits div of_int watts_of choice_of
seasons_hold = refl
