-- A file that the check refuses needs no room; any other as many bytes as its units and steps give.
use Rattle.season.proofs.AnswerLaws.{no_room, counted, room_is}
use Rattle.season.proofs.runs.room.Goals as goal

pub bytes-requires : goal.bytes-requires
bytes-requires c = counted c.args.file.now c.in-Ok.a c.in-Ok.ensures

pub returns-in-Ok : goal.returns-in-Ok
returns-in-Ok c = room_is c.args.file.now c.in-Ok.a c.in-Ok.ensures c.bytes.result c.bytes.ensures

pub returns-in-Err : goal.returns-in-Err
returns-in-Err c = no_room c.args.file.now c.in-Err.field-0 c.in-Err.ensures
