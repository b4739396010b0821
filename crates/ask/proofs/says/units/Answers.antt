-- Of a file that the check accepts its units are counted, at most 64; of any other the number is 0.
use native.Mathlib.Omega.{arith}
use Rattle.ask.proofs.SaysLaws.{accepts, no_units, units_said_lem}
use Rattle.stick.proofs.SiteProved.{sited}
use Rattle.ask.proofs.says.units.Goals as goal

pub overflow_cast-result : goal.overflow_cast-result
overflow_cast-result c = let file = c.args.file.now in omega (arith, (sited file (accepts file c.in-Ok.field-0 c.in-Ok.ensures)).few, c.units.ensures)

pub returns-in-Ok : goal.returns-in-Ok
returns-in-Ok c = let file = c.args.file.now in units_said_lem file (accepts file c.in-Ok.field-0 c.in-Ok.ensures) c.units.result c.units.ensures

pub returns-in-Err : goal.returns-in-Err
returns-in-Err c = no_units c.args.file.now c.in-Err.field-0 c.in-Err.ensures
