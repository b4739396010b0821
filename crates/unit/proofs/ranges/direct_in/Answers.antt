-- The test is the definition's.
use mathlib.Core.Path.{sym, ap}
use mathlib.Core.Bool.{Bool, cond}
use borrow.Author.Tests.{le-leb, lt-leb}
use Rattle.unit.proofs.ranges.direct_in.Goals as goal

pub returns-then-edition-ge3 : goal.returns-then-edition-ge3
returns-then-edition-ge3 c = let x = c.args in sym (ap (λ (b : Bool). cond b 0 x.loss) (le-leb 3 x.edition c.if-edition-ge3.true))

pub returns-else-edition-ge3 : goal.returns-else-edition-ge3
returns-else-edition-ge3 c = let x = c.args in sym (ap (λ (b : Bool). cond b 0 x.loss) (lt-leb 3 x.edition c.if-edition-ge3.false))
