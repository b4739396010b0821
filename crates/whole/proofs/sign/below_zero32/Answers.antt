-- The machine's test reads the number back from its bits, and that number is x.
use mir.Syntax.{w32}
use Rattle.whole.proofs.SignLaws.{sign_is}
use Rattle.whole.proofs.sign.below_zero32.Goals as goal

pub returns : goal.returns
returns c = sign_is w32 c.args.x c.ranges.x
