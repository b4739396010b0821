use native.Mathlib.Omega.{arith}
use mathlib.Core.Path.{refl, sym, ap₂, ◌∙◌}
use mathlib.Core.Bool.{◌&&◌}
use lib.IntN.{pos}
use lib.ListN.{get_or}
use Rattle.whole.specs.Over.{all_of}
use Rattle.whole.proofs.OverLaws.{all_next}
use Rattle.whole.proofs.SignLaws.{sized}
use Rattle.stick.specs.Site.{site_of}
use Rattle.kept.specs.Formed.{unit_fits}
use Rattle.kept.proofs.FitLaws.{unit_fits_is}
use Rattle.kept.proofs.tests.within.Goals as goal

pub loop-i-init : goal.loop-i-init
unfolding all_of
loop-i-init c = (omega arith, refl)

pub loop-i-preserved : goal.loop-i-preserved
loop-i-preserved c =
    let a = c.args in
    let i = c.loop-i.i in
    let site = site_of a.site.now in
    let stored = a.stored.now in
    let rs = a.requests.now in
    let e = sized (get_or rs i (pos 0)) c.unsigned_abs-size.result (omega arith) c.unsigned_abs-size.ensures.value in (
      omega arith,
      ap₂ ◌&&◌ c.loop-i.invariant.1 (unit_fits_is site stored rs i c.unit-u.result c.unsigned_abs-size.result c.unit-u.ensures e) ∙ sym (all_next i (unit_fits site stored rs)),
    )
