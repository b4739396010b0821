-- The check's refusal comes first, then the room that its units and steps need; only where neither stops the run is anything written, and that is the
-- result, laid from the room's start.
use Rattle.std.proofs.lemmas.Result.{err_from_is_err_and}
use Rattle.season.proofs.AnswerLaws.{refused, counted, too_short, enough, done}
use Rattle.season.proofs.runs.run.Goals as goal

pub returns-in_err-a : goal.returns-in_err-a
returns-in_err-a c =
    let parts = refused c.args.file.now c.in_err-a.field-0.0 c.in_err-a.ensures c.args.room.now in
    let p = err_from_is_err_and c.from_residual.result c.from_residual.ensures.1 in
    record { value = rw (p.1, p.2) parts.0; room_after = parts.1 }

pub bytes-requires : goal.bytes-requires
bytes-requires c = counted c.args.file.now c.in_ok-a.a c.in_ok-a.ensures

pub returns-then-room-bytes : goal.returns-then-room-bytes
returns-then-room-bytes c =
    let parts = too_short c.args.file.now c.in_ok-a.a c.in_ok-a.ensures c.args.room.now c.bytes.result c.bytes.ensures c.if-room-bytes.true in
    record { value = parts.0; room_after = parts.1 }

pub write-requires : goal.write-requires
write-requires c = record {
  counted = counted c.args.file.now c.in_ok-a.a c.in_ok-a.ensures;
  file_in_bounds = enough c.args.file.now c.in_ok-a.a c.in_ok-a.ensures c.args.room.now c.bytes.result c.bytes.ensures c.if-room-bytes.false;
}

pub returns : goal.returns
returns c =
    let parts = done c.args.file.now c.in_ok-a.a c.in_ok-a.ensures c.args.room.now c.bytes.result c.bytes.ensures c.if-room-bytes.false c.write.new.room c.write.ensures in
    record { value = parts.0; room_after = parts.1 }
