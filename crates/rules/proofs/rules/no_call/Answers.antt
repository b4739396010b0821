-- What is compared is the need that is read back.
use Rattle.rules.proofs.RuleLaws.{idle_charging, idle_discharging}
use Rattle.rules.proofs.rules.no_call.Goals as goal

pub returns-then-charging : goal.returns-then-charging
returns-then-charging c = idle_charging c.args.charging c.args.need c.ranges.need.sfits c.if-charging.true

pub returns-else-charging : goal.returns-else-charging
returns-else-charging c = idle_discharging c.args.charging c.args.need c.ranges.need.sfits c.if-charging.false
