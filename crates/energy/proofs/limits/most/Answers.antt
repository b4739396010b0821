-- The circle's watts, of S watts beside the limited vars.
use Rattle.energy.proofs.LimitLaws.{most_is}
use Rattle.energy.proofs.limits.most.Goals as goal

pub returns : goal.returns
returns c =
    most_is c.args.u c.limited.result c.watts_in.result c.limited.ensures c.watts_in.ensures
