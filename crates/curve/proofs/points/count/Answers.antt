-- The byte at the place is the count.
use borrow.Author.Rules.{rules}
use Rattle.curve.specs.Layout.{count_at}
use Rattle.curve.proofs.points.count.Goals as goal

pub returns : goal.returns
unfolding count_at
returns c = search rules
