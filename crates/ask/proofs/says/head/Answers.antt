-- Of a file that the check accepts the head is what the file says; any other is refused as the check refuses it.
use Rattle.ask.proofs.SaysLaws.{accepts, no_head, head_said_lem}
use Rattle.ask.proofs.says.head.Goals as goal

pub returns-in-Ok : goal.returns-in-Ok
returns-in-Ok c = let file = c.args.file.now in head_said_lem file (accepts file c.in-Ok.field-0 c.in-Ok.ensures) c.head.result c.head.ensures

pub returns-in-Err : goal.returns-in-Err
returns-in-Err c = no_head c.args.file.now c.in-Err.r c.in-Err.ensures
