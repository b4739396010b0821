-- The test is the definition's.
use mathlib.Core.Path.{sym, ap}
use mathlib.Core.Bool.{Bool, cond}
use borrow.Author.Tests.{le-leb, lt-leb}
use Rattle.unit.proofs.ranges.limit_in.Goals as goal

pub returns-then-edition-ge2 : goal.returns-then-edition-ge2
returns-then-edition-ge2 c = let x = c.args in sym (ap (λ (b : Bool). cond b x.own x.kva) (le-leb 2 x.edition c.if-edition-ge2.true))

pub returns-else-edition-ge2 : goal.returns-else-edition-ge2
returns-else-edition-ge2 c = let x = c.args in sym (ap (λ (b : Bool). cond b x.own x.kva) (lt-leb 2 x.edition c.if-edition-ge2.false))
