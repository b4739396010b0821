-- Point i lies 8 i bytes behind the count, its x first.
use borrow.Author.Rules.{rules}
use Rattle.curve.specs.Layout.{x_at}
use Rattle.curve.proofs.points.x_at.Goals as goal

pub returns : goal.returns
unfolding x_at
returns c = search rules
