-- By the state's own number, by the fault, and by the room, as the definition goes.
use mathlib.Core.Path.{◌≡◌, refl, sym, ◌∙◌}
use native.Mathlib.Omega.{arith}
use Rattle.feed.specs.Answers.{own_number, room_for}
use Rattle.intake.specs.Posts.{Open}
use Rattle.intake.proofs.OpenLaws.{open_sized}
use Rattle.feed.proofs.CallLaws.{own_open, room_ready, room_is}
use Rattle.intake.proofs.MarkLaws.{mark_within}
use Rattle.feed.proofs.ChunkLaws.{place_near, feeds_shut, feeds_refused, feeds_gone, feeds_short, room_there, feeds_in}
use Rattle.feed.proofs.feeding.feed.Goals as goal
use Rattle.feed.proofs.feeding.feed.Goals.{After-gone-r, After-needed-size, After-own_number-number, After-slice_known-2-1, After-stop, After-take_in, Else-number-ne0, Else-r-gt1, Else-room-size, Start, Then-r-gt1}

abbrev first : Else-number-ne0 → Start
first e = e.before.before.before.before.before.before

zero_own : (e : Else-number-ne0) → own_number (first e).args.s.now ≡ 0
zero_own e = sym e.own_number-number.ensures ∙ e.if-number-ne0.false

going : (e : Else-number-ne0) → Open (first e).args.s.now
going e = own_open (first e).args.s.now (zero_own e)

-- the bytes of the records
size_is : (d : After-needed-size) → let a = (first (record { before = d.before.before.before.before.before.before.before.before; type_inv = record { room = d.slice_known-2-1.given; chunk = d.shared_slice_known-1.given } })).args in d.needed-size.result ≡ room_for a.s.now a.chunk.now
size_is d =
    let a = (first (record { before = d.before.before.before.before.before.before.before.before; type_inv = record { room = d.slice_known-2-1.given; chunk = d.shared_slice_known-1.given } })).args in
    room_is a.s.now a.chunk.now (going (record { before = d.before.before.before.before.before.before.before.before; type_inv = record { room = d.slice_known-2-1.given; chunk = d.shared_slice_known-1.given } })) d.gone-r.result d.gone-r.ensures d.marked-m.result d.marked-m.ensures d.if-r-gt1.false d.needed-size.result d.needed-size.ensures

pub own_number-number-requires : goal.own_number-number-requires
own_number-number-requires c = tt

pub shape_of-s-then-number-ne0 : goal.shape_of-s-then-number-ne0
shape_of-s-then-number-ne0 c = refl

pub returns-then-number-ne0 : goal.returns-then-number-ne0
returns-then-number-ne0 c =
    let a = c.args in let parts = feeds_shut a.s.now a.chunk.now a.room.now c.own_number-number.result c.own_number-number.ensures c.if-number-ne0.true in record { value = parts.0; s_after = parts.1.0; room_after = parts.1.1 }

pub marked-m-requires : goal.marked-m-requires
marked-m-requires c = open_sized (first c).args.s.now (going c)

pub gone-r-requires : goal.gone-r-requires
gone-r-requires c = record { fact = going (goal.at.gone-r-requires c).Else-number-ne0; m_value = c.marked-m.ensures }

pub overflow_sub-place : goal.overflow_sub-place
overflow_sub-place c =
    omega (arith, mark_within (first (goal.at.overflow_sub-place c).Else-number-ne0).args.s.now c.marked-m.result c.marked-m.ensures (going (goal.at.overflow_sub-place c).Else-number-ne0))

pub overflow_add-place : goal.overflow_add-place
overflow_add-place c =
    let a = (first (goal.at.overflow_add-place c).Else-number-ne0).args in
    omega (arith, place_near a.s.now a.chunk.now a.room.now (zero_own (goal.at.overflow_add-place c).Else-number-ne0) c.marked-m.result c.marked-m.ensures c.gone-r.result c.gone-r.ensures)

pub stop-requires : goal.stop-requires
stop-requires c =
    (open_sized (first (goal.at.stop-requires c).Else-number-ne0).args.s.now (going (goal.at.stop-requires c).Else-number-ne0)).long

pub shape_of-s-then-r-gt1 : goal.shape_of-s-then-r-gt1
shape_of-s-then-r-gt1 c = c.stop.auto.s

pub returns-then-r-gt1 : goal.returns-then-r-gt1
returns-then-r-gt1 c =
    let a = (first (goal.at.returns-then-r-gt1 c).Else-number-ne0).args in let parts = feeds_refused a.s.now a.chunk.now a.room.now (zero_own (goal.at.returns-then-r-gt1 c).Else-number-ne0) c.marked-m.result c.marked-m.ensures c.gone-r.result c.gone-r.ensures c.if-r-gt1.true c.stop.new.s c.stop.ensures in record { value = parts.0; s_after = parts.1.0; room_after = parts.1.1 }

pub needed-size-requires : goal.needed-size-requires
needed-size-requires c =
    let a = (first (goal.at.needed-size-requires c).Else-number-ne0).args in let parts = room_ready a.s.now a.chunk.now (going (goal.at.needed-size-requires c).Else-number-ne0) c.gone-r.result c.gone-r.ensures c.marked-m.result c.marked-m.ensures in record { steps_le_steps = parts.0; steps_bound = parts.1.0; units_bound = parts.1.1.0; left_bound = parts.1.1.1 }

pub shape_of-s-then-room-size : goal.shape_of-s-then-room-size
shape_of-s-then-room-size c = refl

pub returns-then-room-size : goal.returns-then-room-size
returns-then-room-size c =
    let a = (first (goal.at.returns-then-room-size c).Else-number-ne0).args in let parts = feeds_short a.s.now a.chunk.now a.room.now (zero_own (goal.at.returns-then-room-size c).Else-number-ne0) c.marked-m.result c.marked-m.ensures c.gone-r.result c.gone-r.ensures c.if-r-gt1.false c.needed-size.result (size_is (goal.at.returns-then-room-size c).After-needed-size) c.if-room-size.true in record { value = parts.0; s_after = parts.1.0; room_after = parts.1.1 }

pub take_in-requires : goal.take_in-requires
take_in-requires c =
    let a = (first (goal.at.take_in-requires c).Else-number-ne0).args in record { gone = feeds_gone a.s.now a.chunk.now a.room.now (zero_own (goal.at.take_in-requires c).Else-number-ne0) c.marked-m.result c.marked-m.ensures c.gone-r.result c.gone-r.ensures c.if-r-gt1.false; chunk_in_bounds = room_there a.s.now a.chunk.now a.room.now (zero_own (goal.at.take_in-requires c).Else-number-ne0) c.marked-m.result c.marked-m.ensures c.gone-r.result c.gone-r.ensures c.if-r-gt1.false c.needed-size.result (size_is (goal.at.take_in-requires c).After-needed-size) c.if-room-size.false }

pub shape_of-s : goal.shape_of-s
shape_of-s c = c.take_in.auto.s

pub shape_of-room : goal.shape_of-room
shape_of-room c = c.take_in.auto.room

pub returns : goal.returns
returns c =
    let a = (first (goal.at.returns c).Else-number-ne0).args in let parts = feeds_in a.s.now a.chunk.now a.room.now (zero_own (goal.at.returns c).Else-number-ne0) c.marked-m.result c.marked-m.ensures c.gone-r.result c.gone-r.ensures c.if-r-gt1.false c.needed-size.result (size_is (goal.at.returns c).After-needed-size) c.if-room-size.false
    c.take_in.new.s c.take_in.new.room c.take_in.ensures.s_after c.take_in.ensures.room_after in record { value = parts.0; s_after = parts.1.0; room_after = parts.1.1 }
