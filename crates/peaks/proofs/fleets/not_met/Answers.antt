-- The inverter's watts are the grid's and the loss there, added in 64 bits, which never wraps at these sizes; requests and watts differ where their bits do.
use Rattle.whole.proofs.SignLaws.{wide_fits}
use Rattle.peaks.proofs.UnitLaws.{carried_fits, missed_is}
use Rattle.peaks.proofs.fleets.not_met.Goals as goal

pub overflow_cast-inverter : goal.overflow_cast-inverter
overflow_cast-inverter c = wide_fits c.args.watts c.ranges.watts.sfits

pub overflow_add-inverter : goal.overflow_add-inverter
overflow_add-inverter c = carried_fits c.args.request c.args.watts c.args.grid_loss c.ranges.request.sfits c.ranges.watts.sfits c.ranges.grid_loss.fits

pub overflow_cast-result : goal.overflow_cast-result
overflow_cast-result c = wide_fits c.args.request c.ranges.request.sfits

pub returns : goal.returns
returns c = missed_is c.args.request c.args.watts c.args.grid_loss c.ranges.request.sfits c.ranges.watts.sfits c.ranges.grid_loss.fits
