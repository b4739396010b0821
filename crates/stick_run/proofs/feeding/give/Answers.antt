-- A call writes no more than the room holds.
use Rattle.std.proofs.Common.{length, arith}
use Rattle.stick_run.proofs.RoomLaws.{fits}
use Rattle.stick_run.proofs.feeding.give.Goals as goal

pub slice_bounds-put-end : goal.slice_bounds-put-end
slice_bounds-put-end g c = omega (arith, fits c.args.state.now c.args.piece.now (length c.args.room.now) c.in-Ok.bytes c.in-Ok.ensures.value)
