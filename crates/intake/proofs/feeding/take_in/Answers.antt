-- Without a tail the whole fields lie in the chunk, and the bytes behind them become the tail.
use native.Mathlib.Nat.{le_trans, le_of_eq, zero-add}
use native.Mathlib.Omega.{arith}
use mathlib.Core.Path.{ap, ◌∙◌}
use lib.ListN.{length}
use Rattle.octets.specs.BigEndian.{laid}
use Rattle.kept.specs.Layout.{bytes_for}
use Rattle.intake.proofs.FeedLaws.{chunk_within, chunk_short, chunk_leads, chunk_results, chunk_kept}
use Rattle.intake.proofs.feeding.take_in.Goals as goal
use Rattle.intake.proofs.feeding.take_in.Goals.{After-take_rest, Else-m-ne0, Start, Then-m-ne0}

abbrev first : Else-m-ne0 → Start
first e = e.before.before.before.before.before.before

pub take_joined-requires : goal.take_joined-requires
take_joined-requires c =
    let n = c.if-m-ne0.true in record { gone = c.requires.gone; le_tail = omega (arith, n); chunk_in_bounds = c.requires.chunk_in_bounds }

pub shape_of-s-then-m-ne0 : goal.shape_of-s-then-m-ne0
shape_of-s-then-m-ne0 c = c.take_joined.auto.s

pub shape_of-room-then-m-ne0 : goal.shape_of-room-then-m-ne0
shape_of-room-then-m-ne0 c = c.take_joined.auto.room

pub returns-then-m-ne0 : goal.returns-then-m-ne0
returns-then-m-ne0 c = record { s_after = c.take_joined.ensures.s_after; room_after = c.take_joined.ensures.room_after }

pub take_rest-requires : goal.take_rest-requires
take_rest-requires c =
    let s = first (goal.at.take_rest-requires c).Else-m-ne0 in
    let a = s.args in
    let z = c.if-m-ne0.false in record { fact = s.requires.gone.is_open_is; from_le_to = omega arith; to_in_bounds = chunk_within a.s.now a.chunk.now a.m a.r s.requires.gone z; bytes_len_bound = chunk_short a.s.now a.chunk.now a.m a.r s.requires.gone z; leads = chunk_leads a.s.now a.chunk.now a.m a.r s.requires.gone z; next_in_bounds = le_trans (le_of_eq (zero-add _ ∙ ap length (chunk_results a.s.now a.chunk.now a.m a.r s.requires.gone z))) s.requires.chunk_in_bounds }

pub shape_of-s : goal.shape_of-s
shape_of-s c = c.take_rest.auto.s

pub shape_of-room : goal.shape_of-room
shape_of-room c = c.take_rest.auto.room

pub returns : goal.returns
returns c =
    let s = first (goal.at.returns c).Else-m-ne0 in
    let a = s.args in
    let z = c.if-m-ne0.false in record { s_after = c.take_rest.ensures.s_after ∙ ap bytes_for (chunk_kept a.s.now a.chunk.now a.m a.r s.requires.gone z); room_after = c.take_rest.ensures.room_after ∙ ap (laid a.room.now 0) (chunk_results a.s.now a.chunk.now a.m a.r s.requires.gone z) }
