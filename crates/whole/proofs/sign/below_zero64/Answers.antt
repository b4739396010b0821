-- The machine's test reads the number back from its bits, and that number is x.
use mir.Syntax.{w64}
use Rattle.whole.proofs.SignLaws.{sign_is}
use Rattle.whole.proofs.sign.below_zero64.Goals as goal

pub returns : goal.returns
returns c = sign_is w64 c.args.x c.ranges.x
