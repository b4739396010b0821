-- The code is the definition: nothing flows, and the idle draw is what is drawn.
use Rattle.flows.proofs.FlowLaws.{idle_moves}
use Rattle.flows.proofs.flows.idle.Goals as goal

pub returns : goal.returns
returns c =
    let x = c.args in
    idle_moves x.u x.seconds c.idle_draw.result c.idle_draw.ensures
