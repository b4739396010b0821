-- The code has the tests of the definition, in its order.
use mathlib.Core.Path.{refl}
use Rattle.rescue.specs.Saved.{due}
use Rattle.rescue.proofs.calls.is_due.Goals as goal

pub returns : goal.returns
unfolding due
returns c = refl
