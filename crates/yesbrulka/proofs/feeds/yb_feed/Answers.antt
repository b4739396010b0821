-- What the chunk gives; its bytes are told where it was taken.
use Rattle.std.proofs.Common.{Bool, cond, ap, sym, length, ◌∙◌}
use borrow.Author.Tests.{ne_eqb}
use Rattle.feed.specs.Answers.{room_for, feed_number}
use Rattle.feed.proofs.WrittenLaws.{written_is, refused_is}
use Rattle.yesbrulka.proofs.feeds.yb_feed.Goals as goal

pub returns-in-Ok : goal.returns-in-Ok
returns-in-Ok c =
    let a = c.args in
    let (zero, is) = written_is (feed_number a.state.now a.chunk.now (length a.room.now)) (room_for a.state.now a.chunk.now) c.in-Ok.bytes c.in-Ok.ensures.value in
    record { value = sym zero; state_after = c.feed.ensures.s_after; room_after = c.feed.ensures.room_after; written_after = is }

pub returns-in-Err : goal.returns-in-Err
returns-in-Err c =
    let a = c.args in
    let (is, some) = refused_is (feed_number a.state.now a.chunk.now (length a.room.now)) (room_for a.state.now a.chunk.now) c.in-Err.number c.in-Err.ensures.value in
    record {
      value = is;
      state_after = c.feed.ensures.s_after;
      room_after = c.feed.ensures.room_after;
      written_after = sym (ap (λ (b : Bool). cond b (room_for a.state.now a.chunk.now) a.written.now) (ne_eqb c.in-Err.number 0 (λ z. some (sym is ∙ z))));
    }
