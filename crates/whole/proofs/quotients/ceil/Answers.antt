-- The quotient is exact where no remainder is left, and one more otherwise. It cannot wrap, since a remainder means a divisor above 1.
use native.Mathlib.Nat.{pos_of_ne-zero}
use native.Mathlib.Omega.{arith}
use Rattle.whole.proofs.QuotientLaws.{ceil_exact, ceil_more, ceil_none, ceil_below}
use Rattle.whole.proofs.quotients.ceil.Goals as goal

pub returns-then-b-eq0 : goal.returns-then-b-eq0
returns-then-b-eq0 c = ceil_none c.args.a c.args.b c.if-b-eq0.true

pub overflow_add-result : goal.overflow_add-result
overflow_add-result c = let x = c.args in omega (arith, ceil_below x.a x.b (pos_of_ne-zero c.if-b-eq0.false) c.if-a-b-eq0.false)

pub returns-then-a-b-eq0 : goal.returns-then-a-b-eq0
returns-then-a-b-eq0 c = let x = c.args in ceil_exact x.a x.b (pos_of_ne-zero c.if-b-eq0.false) c.if-a-b-eq0.true

pub returns-else-a-b-eq0 : goal.returns-else-a-b-eq0
returns-else-a-b-eq0 c = let x = c.args in ceil_more x.a x.b (pos_of_ne-zero c.if-b-eq0.false) c.if-a-b-eq0.false
