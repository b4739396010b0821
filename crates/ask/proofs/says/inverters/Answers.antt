-- Of a file that the check accepts its inverters are counted, at most 64; of any other the number is 0.
use native.Mathlib.Omega.{arith}
use Rattle.ask.proofs.SaysLaws.{accepts, no_inverters, inverters_said_lem}
use Rattle.stick.proofs.SiteProved.{roofed}
use Rattle.ask.proofs.says.inverters.Goals as goal

pub overflow_cast-result : goal.overflow_cast-result
overflow_cast-result c = let file = c.args.file.now in omega (arith, (roofed file (accepts file c.in-Ok.field-0 c.in-Ok.ensures)).few, c.roofs.ensures)

pub returns-in-Ok : goal.returns-in-Ok
returns-in-Ok c = let file = c.args.file.now in inverters_said_lem file (accepts file c.in-Ok.field-0 c.in-Ok.ensures) c.roofs.result c.roofs.ensures

pub returns-in-Err : goal.returns-in-Err
returns-in-Err c = no_inverters c.args.file.now c.in-Err.field-0 c.in-Err.ensures
