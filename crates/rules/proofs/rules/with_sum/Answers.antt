-- The sum of two numbers of these sizes fits 64 bits.
use Rattle.rules.proofs.RuleLaws.{joined_fits, joined_is, alone_is}
use Rattle.rules.proofs.rules.with_sum.Goals as goal

pub overflow_add-result : goal.overflow_add-result
overflow_add-result c = joined_fits c.args.other c.args.plain c.args.sum c.requires.plain_bound c.requires.sum_bound

pub returns-then-other : goal.returns-then-other
returns-then-other c = joined_is c.args.other c.args.plain c.args.sum c.requires.plain_bound c.requires.sum_bound c.if-other.true

pub returns-else-other : goal.returns-else-other
returns-else-other c = alone_is c.args.other c.args.plain c.args.sum c.requires.plain_bound c.requires.sum_bound c.if-other.false
