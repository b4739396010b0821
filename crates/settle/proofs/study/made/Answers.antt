-- A fleet has at most 64 units, so that a part of the array holds a request for each.
use Rattle.std.proofs.Common.{arith}
use Rattle.stick.proofs.SiteProved.{sited}
use Rattle.settle.proofs.study.made.Goals as goal

pub slice_bounds-room-end : goal.slice_bounds-room-end
slice_bounds-room-end g c = omega (arith, c.units-n.ensures, (sited c.args.file.now c.requires).few)
