-- Each kind of reading by itself: no mode goes by a missing one, those below 4 go by powers, the others by currents.
use mathlib.Core.Path.{sym, ap, ◌∙◌}
use Rattle.reading.specs.declared.Reading.{Reading}
use Rattle.peaks.specs.Posts.{of_kind}
use Rattle.peaks.proofs.FleetLaws.{by_watts_lem}
use Rattle.peaks.proofs.fleets.fits.Goals as goal
use Rattle.peaks.proofs.fleets.fits.Goals.{Start}

pub returns-in-Missing : goal.returns-in-Missing
unfolding of_kind
returns-in-Missing c = sym (ap (λ (r : Reading). of_kind r c.args.mode) c.in-Missing.is)

pub returns-in-Power : goal.returns-in-Power
unfolding of_kind
returns-in-Power c = by_watts_lem c.args.mode ∙ sym (ap (λ (r : Reading). of_kind r c.args.mode) c.in-Power.is)

pub returns-in-Current : goal.returns-in-Current
unfolding of_kind
returns-in-Current c = sym (ap (λ (r : Reading). of_kind r c.args.mode) c.in-Current.is)
