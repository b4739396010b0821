-- Measure and target are added or subtracted in 64 bits, which never wraps at these sizes.
use Rattle.whole.proofs.SignLaws.{wide_fits}
use Rattle.rules.proofs.RuleLaws.{added_fits, added_is, taken_fits, taken_is}
use Rattle.rules.proofs.rules.plain_need.Goals as goal

pub overflow_cast-target : goal.overflow_cast-target
overflow_cast-target c = wide_fits c.args.s.target c.struct_told-1.given.1.0.1

pub overflow_add-result : goal.overflow_add-result
overflow_add-result c = added_fits c.args.s c.args.measure c.requires c.struct_told-1.given.1.0.1

pub overflow_sub-result : goal.overflow_sub-result
overflow_sub-result c = taken_fits c.args.s c.args.measure c.requires c.struct_told-1.given.1.0.1

pub returns-then-s-eq2 : goal.returns-then-s-eq2
returns-then-s-eq2 c = added_is c.args.s c.args.measure c.requires c.struct_told-1.given.1.0.1 c.if-s-eq2.true

pub returns-else-s-eq2 : goal.returns-else-s-eq2
returns-else-s-eq2 c = taken_is c.args.s c.args.measure c.requires c.struct_told-1.given.1.0.1 c.if-s-eq2.false
