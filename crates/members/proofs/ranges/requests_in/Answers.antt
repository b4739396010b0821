-- The two tests are the definition's.
use mathlib.Core.Path.{ap₂}
use mathlib.Core.Bool.{Bool, not, ◌&&◌}
use Rattle.members.specs.Ranges.{requests_ok}
use Rattle.members.proofs.ranges.requests_in.Goals as goal

pub returns : goal.returns
unfolding requests_ok
returns c =
    let a = c.asked-a.ensures in
    ap₂ (λ (w t : Bool). w && not t) c.within_ratings.ensures (ap₂ ◌&&◌ a.above a.below)
