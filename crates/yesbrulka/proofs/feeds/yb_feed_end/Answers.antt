-- What the end gives; the bytes of its record are told where it was accepted.
use Rattle.std.proofs.Common.{Bool, cond, ap, sym, length, ◌∙◌}
use borrow.Author.Tests.{ne_eqb}
use Rattle.feed.specs.Answers.{end_number}
use Rattle.feed.proofs.WrittenLaws.{written_is, refused_is}
use Rattle.yesbrulka.proofs.feeds.yb_feed_end.Goals as goal

pub returns-in-Ok : goal.returns-in-Ok
returns-in-Ok c =
    let a = c.args in
    let (zero, is) = written_is (end_number a.state.now (length a.room.now)) 7 c.in-Ok.bytes c.in-Ok.ensures.value in
    record { value = sym zero; state_after = c.end.ensures.s_after; room_after = c.end.ensures.room_after; written_after = is }

pub returns-in-Err : goal.returns-in-Err
returns-in-Err c =
    let a = c.args in
    let (is, some) = refused_is (end_number a.state.now (length a.room.now)) 7 c.in-Err.number c.in-Err.ensures.value in
    record {
      value = is;
      state_after = c.end.ensures.s_after;
      room_after = c.end.ensures.room_after;
      written_after = sym (ap (λ (b : Bool). cond b 7 a.written.now) (ne_eqb c.in-Err.number 0 (λ z. some (sym is ∙ z))));
    }
