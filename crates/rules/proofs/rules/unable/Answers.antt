-- One test for each direction.
use Rattle.rules.proofs.RuleLaws.{full_is, empty_is}
use Rattle.rules.proofs.rules.unable.Goals as goal

pub returns-then-charging : goal.returns-then-charging
returns-then-charging c = let a = c.args in full_is a.charging a.rated a.reserve a.stored c.if-charging.true

pub returns-else-charging : goal.returns-else-charging
returns-else-charging c = let a = c.args in empty_is a.charging a.rated a.reserve a.stored c.if-charging.false
