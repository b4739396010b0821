-- The kept stage chooses what the site part must have come to.
use mathlib.Core.Path.{◌≡◌, sym, ◌∙◌}
use mathlib.Core.Bool.{cond, ◌&&◌}
use lib.Dec.{eqb}
use Rattle.fields.specs.Fields.{at_end}
use Rattle.kept.specs.Kept.{begun_at}
use Rattle.kept.proofs.FitLaws.{pick_true, pick_false, site_fits_is}
use Rattle.kept.proofs.tests.site_fits.Goals as goal
use Rattle.kept.proofs.tests.site_fits.Goals.{else-begun_at, then-begun_at, After-begun_at, Joined-begun_at}

pub returns : goal.returns
returns c =
    let a = c.args in
    let at = a.r.state.stage in
    let closed = eqb at at_end in
    let there = eqb at a.stage && eqb a.steps 0 in
    let e : c.if-begun_at.fits ≡ cond (begun_at a.stage) closed there =
    elim c.if-begun_at.branch [ then-begun_at w ↦ pick_true (begun_at a.stage) closed there c.if-begun_at.fits (sym c.begun_at.ensures ∙ w.if-begun_at.true) w.fits-is | else-begun_at w ↦ pick_false (begun_at a.stage) closed there c.if-begun_at.fits (sym c.begun_at.ensures ∙ w.if-begun_at.false) w.fits-is ] in
    site_fits_is a.r a.stage a.steps c.if-begun_at.fits e
