-- By current need and link are multiplied in 64 bits, which never wraps at these sizes, and the product is cut toward zero.
use Rattle.rules.proofs.RuleLaws.{linked_fits, linked_is, plainly_is}
use mathlib.Core.Path.{ap}
use mathlib.Core.Bool.{not}
use Rattle.rules.proofs.rules.in_watts.Goals as goal

pub returns-then-not-current : goal.returns-then-not-current
returns-then-not-current c = plainly_is c.args.link c.args.need c.requires.link_bound c.requires.need_bound c.args.current (ap not c.if-not-current.true)

pub overflow_mul-need : goal.overflow_mul-need
overflow_mul-need c = linked_fits c.args.link c.args.need c.requires.link_bound c.requires.need_bound

pub returns : goal.returns
returns c =
    linked_is c.args.link c.args.need c.requires.link_bound c.requires.need_bound c.args.current (ap not c.if-not-current.false) c.cut.result c.cut.type_inv c.cut.ensures
