-- The code is the definition: the inverter and its two curves, each by its own test.
use Rattle.solar.specs.Roof.{roof_in}
use Rattle.solar.proofs.ranges.roof_in.Goals as goal

pub returns : goal.returns
unfolding roof_in
returns c = cc (c.inverter_in.ensures, c.points_in-share.ensures, c.points_in-warmth.ensures)
