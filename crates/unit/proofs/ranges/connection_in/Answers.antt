-- The code's tests are the definition's, one by one.
use mathlib.Core.Path.{refl}
use Rattle.unit.specs.Ranges.{connection_in}
use Rattle.unit.proofs.ranges.connection_in.Goals as goal

pub returns : goal.returns
unfolding connection_in
returns c = refl
