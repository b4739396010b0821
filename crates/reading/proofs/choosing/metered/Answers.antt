-- Each kind of reading by itself: a missing one is not shown, powers and currents are chosen from by their own conversions.
use mathlib.Core.Path.{sym, ap, ◌∙◌}
use Rattle.reading.specs.declared.Reading.{Reading}
use Rattle.reading.specs.Choice.{meter_of}
use Rattle.reading.proofs.choosing.metered.Goals as goal

pub returns-in-Missing : goal.returns-in-Missing
unfolding meter_of
returns-in-Missing c = sym (ap (λ (r : Reading). meter_of r c.args.phase) c.in-Missing.is)

pub returns-in-Power : goal.returns-in-Power
unfolding meter_of
returns-in-Power c =
    let is = sym (ap (λ (r : Reading). meter_of r c.args.phase) c.in-Power.is) in
    c.shown.ensures ∙ cc (c.converted-in-Power-2.ensures, c.converted-in-Power.ensures, c.converted.ensures) ∙ is

pub returns-in-Current : goal.returns-in-Current
unfolding meter_of
returns-in-Current c =
    let is = sym (ap (λ (r : Reading). meter_of r c.args.phase) c.in-Current.is) in
    c.shown-in-Current.ensures ∙ cc (c.milliamperes-in-Current-2.ensures, c.milliamperes-in-Current.ensures, c.milliamperes.ensures) ∙ is
