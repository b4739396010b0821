-- The code is the definition; the idle loss times 10,000 fits 64 bits, since a `u32` does 32.
use Rattle.unit.specs.Ranges.{idle_draw}
use Rattle.unit.proofs.ranges.idle_draw.Goals as goal

pub returns : goal.returns
unfolding idle_draw
returns c = c.ceil.ensures
