-- The array holds the figures in their order, and the copy is the whole list.
use mathlib.Core.Path.{◌∙◌}
use Rattle.tally.proofs.ListLaws.{listed}
use Rattle.tally.proofs.listing.put.Goals as goal

pub returns : goal.returns
returns c =
    let f = c.args.f in
    let g = c.well_formed.0.1.1 in
    let m = g.1.1.0.1.1 in
    let n = g.1.1.1.0.1.1 in
    c.copy_from_slice.ensures.after
    ∙ listed f c.requires.few
    (record { least_fits = m.0.1; lower_fits = m.1.0.1; most_fits = m.1.1.0.1; upper_fits = m.1.1.1.0.1 })
    (record { least_fits = n.0.1; lower_fits = n.1.0.1; most_fits = n.1.1.0.1; upper_fits = n.1.1.1.0.1 })
    g.1.1.1.1.1.0.1
