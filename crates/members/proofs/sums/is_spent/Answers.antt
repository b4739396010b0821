-- The total store is summed; the other two sums are those that were handed in.
use mathlib.Core.Path.{◌∙◌}
use Rattle.members.proofs.FleetLaws.{spent_is}
use Rattle.members.proofs.sums.is_spent.Goals as goal

pub returns : goal.returns
returns c =
    let a = c.args in
    c.unable.ensures ∙ spent_is a.charging a.rated a.reserve a.stored.now c.energy-held.result c.energy-held.ensures
