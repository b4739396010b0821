-- The machine compares what it reads back, which are the two numbers.
use mir.Syntax.{w64}
use Rattle.reading.proofs.ChoiceLaws.{smaller_first, smaller_second}
use Rattle.reading.proofs.choosing.smaller.Goals as goal

pub returns-then-a-b : goal.returns-then-a-b
returns-then-a-b c = smaller_first w64 c.args.a c.args.b c.ranges.a c.ranges.b c.if-a-b.true

pub returns-else-a-b : goal.returns-else-a-b
returns-else-a-b c = smaller_second w64 c.args.a c.args.b c.ranges.a c.ranges.b c.if-a-b.false
