-- Point i lies 8 i bytes behind the count, its y second.
use borrow.Author.Rules.{rules}
use Rattle.curve.specs.Layout.{y_at}
use Rattle.curve.proofs.points.y_at.Goals as goal

pub returns : goal.returns
unfolding y_at
returns c = search rules
