-- Where the run goes on and no field is refused, the records of the steps closed are so many bytes; else there are none.
use mathlib.Core.Path.{sym, ◌∙◌}
use Rattle.intake.specs.Posts.{Open}
use Rattle.intake.proofs.OpenLaws.{open_sized}
use Rattle.feed.proofs.CallLaws.{own_open, room_shut, room_refused, room_ready, room_is}
use Rattle.feed.proofs.calls.room.Goals as goal
use Rattle.feed.proofs.calls.room.Goals.{After-gone-r, After-marked-m, Else-own_number-ne0, Else-r-gt1}

going : (c : Else-own_number-ne0) → Open c.args.s.now
going c = own_open c.args.s.now (sym c.own_number.ensures ∙ c.if-own_number-ne0.false)

pub own_number-requires : goal.own_number-requires
own_number-requires c = tt

pub returns-then-own_number-ne0 : goal.returns-then-own_number-ne0
returns-then-own_number-ne0 c =
    let a = c.args in
    room_shut a.s.now a.chunk.now c.own_number.result c.own_number.ensures c.if-own_number-ne0.true

pub marked-m-requires : goal.marked-m-requires
marked-m-requires c = open_sized c.args.s.now (going c)

pub gone-r-requires : goal.gone-r-requires
gone-r-requires c = record { fact = going (goal.at.gone-r-requires c).Else-own_number-ne0; m_value = c.marked-m.ensures }

pub returns-then-r-gt1 : goal.returns-then-r-gt1
returns-then-r-gt1 c =
    let a = c.args in
    room_refused a.s.now a.chunk.now (going (goal.at.returns-then-r-gt1 c).Else-own_number-ne0) c.gone-r.result c.gone-r.ensures c.if-r-gt1.true

pub needed-requires : goal.needed-requires
needed-requires c =
    let a = c.args in let parts = room_ready a.s.now a.chunk.now (going (goal.at.needed-requires c).Else-own_number-ne0) c.gone-r.result c.gone-r.ensures c.marked-m.result c.marked-m.ensures in record { steps_le_steps = parts.0; steps_bound = parts.1.0; units_bound = parts.1.1.0; left_bound = parts.1.1.1 }

pub returns : goal.returns
returns c =
    let a = c.args in
    room_is a.s.now a.chunk.now (going (goal.at.returns c).Else-own_number-ne0) c.gone-r.result c.gone-r.ensures c.marked-m.result c.marked-m.ensures c.if-r-gt1.false c.needed.result c.needed.ensures
