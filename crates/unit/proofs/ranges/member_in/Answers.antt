-- The code's tests are the definition's, one by one.
use mathlib.Core.Path.{refl}
use Rattle.unit.specs.Ranges.{member_in}
use Rattle.unit.proofs.ranges.member_in.Goals as goal

pub returns : goal.returns
unfolding member_in
returns c = refl
