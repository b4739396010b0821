-- Of a file that the check accepts the seconds stand in its head; of any other the number is 0.
use Rattle.ask.proofs.SaysLaws.{accepts, no_seconds, seconds_said_lem}
use Rattle.ask.proofs.says.seconds.Goals as goal

pub returns-in-Ok : goal.returns-in-Ok
returns-in-Ok c = let file = c.args.file.now in seconds_said_lem file (accepts file c.in-Ok.field-0 c.in-Ok.ensures) c.head.result c.head.ensures

pub returns-in-Err : goal.returns-in-Err
returns-in-Err c = no_seconds c.args.file.now c.in-Err.field-0 c.in-Err.ensures
