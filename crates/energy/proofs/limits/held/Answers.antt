-- The circle's watts, of the request's size beside the limited vars.
use Rattle.energy.proofs.LimitLaws.{held_is}
use Rattle.energy.proofs.limits.held.Goals as goal

pub returns : goal.returns
returns c =
    held_is c.args.u c.args.request c.ranges.request.sfits c.limited.result c.unsigned_abs.result c.watts_in.result c.limited.ensures c.unsigned_abs.ensures.value c.watts_in.ensures
