-- By the state's own number, by the fault, and by the room, as the definition goes.
use Rattle.std.proofs.Common.{◌≡◌, sym, ◌∙◌, arith}
use Rattle.feed.specs.Answers.{own_number}
use Rattle.intake.specs.Posts.{Open}
use Rattle.intake.proofs.OpenLaws.{open_sized}
use Rattle.intake.proofs.MarkLaws.{mark_within}
use Rattle.feed.proofs.CallLaws.{own_open, fault_told, none_told, ends_shut, ends_refused, ends_short, ends_over}
use Rattle.feed.proofs.calls.end.Goals as goal
use Rattle.feed.proofs.calls.end.Goals.{Else-own-ne0}

zero_own : (c : Else-own-ne0) → own_number c.args.s.now ≡ 0
zero_own c = sym c.own_number-own.ensures ∙ c.if-own-ne0.false

going : (c : Else-own-ne0) → Open c.args.s.now
going c = own_open c.args.s.now (zero_own c)

pub returns-then-own-ne0 : goal.returns-then-own-ne0
returns-then-own-ne0 c =
    let a = c.args in
    let parts = ends_shut a.s.now a.room.now c.own_number-own.result c.own_number-own.ensures c.if-own-ne0.true in
    record { value = parts.0; s_after = parts.1.0; room_after = parts.1.1 }

pub marked-m-requires : goal.marked-m-requires
marked-m-requires c = open_sized c.args.s.now (going c)

pub overflow_sub-m : goal.overflow_sub-m
overflow_sub-m c =
    omega (arith, mark_within c.args.s.now c.marked-m.result c.marked-m.ensures (going (goal.at.overflow_sub-m c).Else-own-ne0))

pub stop-requires : goal.stop-requires
stop-requires c = (open_sized c.args.s.now (going (goal.at.stop-requires c).Else-own-ne0)).long

pub returns-in-Some : goal.returns-in-Some
returns-in-Some c =
    let a = c.args in
    let m = c.marked-m.result in
    let (told, some) = fault_told m.tail m.state.stage c.in-Some.number c.in-Some.ensures in
    let parts = ends_refused a.s.now a.room.now (zero_own (goal.at.returns-in-Some c).Else-own-ne0) m c.marked-m.ensures c.in-Some.number told some c.stop.new.s c.stop.ensures in
    record { value = parts.0; s_after = parts.1.0; room_after = parts.1.1 }

pub returns-then-room-lt-END_BYTES : goal.returns-then-room-lt-END_BYTES
returns-then-room-lt-END_BYTES c =
    let a = c.args in
    let m = c.marked-m.result in
    let parts = ends_short a.s.now a.room.now (zero_own (goal.at.returns-then-room-lt-END_BYTES c).Else-own-ne0) m c.marked-m.ensures (none_told m.tail m.state.stage c.in_default.ensures) c.if-room-lt-END_BYTES.true in
    record { value = parts.0; s_after = parts.1.0; room_after = parts.1.1 }

pub stop-requires-2 : goal.stop-requires-2
stop-requires-2 c = (open_sized c.args.s.now (going (goal.at.stop-requires-2 c).Else-own-ne0)).long

pub returns : goal.returns
returns c =
    let a = c.args in
    let m = c.marked-m.result in
    let parts = ends_over a.s.now a.room.now (zero_own (goal.at.returns c).Else-own-ne0) m c.marked-m.ensures (none_told m.tail m.state.stage c.in_default.ensures) c.if-room-lt-END_BYTES.false
    c.stop-2.new.s c.put_end.new.room c.stop-2.ensures c.put_end.ensures in
    record { value = parts.0; s_after = parts.1.0; room_after = parts.1.1 }
