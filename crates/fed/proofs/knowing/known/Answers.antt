-- A run that is left is not known, and stands; any other is known by its end.
use mathlib.Core.Path.{sym, ap, ◌∙◌}
use mathlib.Core.Bool.{Bool, true, false, cond}
use lib.ListN.{length}
use Rattle.feed.specs.Answers.{end_number, end_leaves, end_writes}
use Rattle.fed.specs.Known.{known_end}
use Rattle.fed.proofs.KnownLaws.{left_by_lem, known_left, known_ended}
use Rattle.fed.proofs.knowing.known.Goals as goal
use Rattle.fed.proofs.knowing.known.Goals.{After-end-arg-2-1, After-own_number, After-slice_known-2-1}

pub returns-then-all-own_number : goal.returns-then-all-own_number
returns-then-all-own_number c =
    let a = c.args in
    let s = a.state.now in
    let room = a.room.now in
    let is = left_by_lem s (length room) a.all c.own_number.result c.own_number.ensures true c.if-all-own_number.true in record { knows = known_left s (length room) a.all is; state_after = sym (ap (λ (b : Bool). cond b s (end_leaves s (length room))) is); room_after = sym (ap (λ (b : Bool). cond b room (end_writes s room)) is) }

pub returns : goal.returns
returns c =
    let a = c.args in
    let s = a.state.now in
    let room = a.room.now in
    let is = left_by_lem s (length room) a.all c.own_number.result c.own_number.ensures false c.if-all-own_number.false in record { knows = known_ended s (length room) a.all is c.ended.result (c.ended.ensures (end_number s (length room)) c.end.ensures.value ∙ ap (known_end (end_number s (length room))) c.end.ensures.s_after); state_after = c.end.ensures.s_after ∙ sym (ap (λ (b : Bool). cond b s (end_leaves s (length room))) is); room_after = c.end.ensures.room_after ∙ sym (ap (λ (b : Bool). cond b room (end_writes s room)) is) }
