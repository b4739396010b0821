-- The code's tests are the definition's, one by one.
use mathlib.Core.Path.{refl}
use Rattle.members.specs.Ranges.{lengths_ok}
use Rattle.members.proofs.ranges.lengths_in.Goals as goal

pub returns : goal.returns
unfolding lengths_ok
returns c = refl
