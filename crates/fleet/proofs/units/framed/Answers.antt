-- The rows' units are in their ranges, so their energies can be added up.
use Rattle.controller.proofs.SoundLaws.{rows_addable}
use Rattle.fleet.proofs.SiteLaws.{rows_in, rows_few}
use Rattle.fleet.proofs.units.framed.Goals as goal

pub summed-requires : goal.summed-requires
summed-requires c = let parts = rows_addable c.args.units.now (rows_in c.args.head c.args.units.now c.requires.sited) (rows_few c.args.head c.args.units.now c.requires.sited) in record { addable = parts.0; addable_2 = parts.1 }
