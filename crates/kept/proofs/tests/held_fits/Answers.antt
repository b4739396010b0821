-- The two tests are the definition's; an accepted site has few enough units for the sum of their requests.
use native.Mathlib.Omega.{arith}
use mathlib.Core.Path.{ap₂}
use mathlib.Core.Bool.{Bool, not, ◌&&◌}
use Rattle.kept.specs.Formed.{held_fits}
use Rattle.kept.proofs.ListLaws.{few_units}
use Rattle.kept.proofs.tests.held_fits.Goals as goal
use Rattle.kept.proofs.tests.held_fits.Goals.{Start}

pub asked-a-requires : goal.asked-a-requires
asked-a-requires c = omega (arith, c.requires.requests_len, few_units c.args.site.now c.requires.accepted)

pub returns : goal.returns
unfolding held_fits
returns c =
    let a = c.asked-a.ensures in
    ap₂ (λ (w t : Bool). w && not t) c.within.ensures (ap₂ ◌&&◌ a.above a.below)
