-- What the rescue comes to is asked first, then the rooms; only where neither refuses is anything written, and that is the output and the list, in two pieces.
use Rattle.std.proofs.Common.{ap, ◌∙◌}
use Rattle.std.proofs.lemmas.Result.{err_from_is_err_and}
use Rattle.stick.specs.Check.{answer, checked_by}
use Rattle.stick.proofs.CheckedLaws.{is_refused}
use Rattle.rescue.proofs.CallLaws.{refused, too_short, kept_out, kept_list, room_left, list_left, done}
use Rattle.rescue.proofs.calls.rescue.Goals as goal

pub returns-in_err-v : goal.returns-in_err-v
returns-in_err-v c =
    let a = c.args in
    let r = c.in_err-v.field-0.0 in
    let k = c.in_err-v.ensures in
    let parts = refused a.file.now a.out.now a.list.now r k in
    let p = err_from_is_err_and c.from_residual.result c.from_residual.ensures.1 in
    record { value = rw (p.1, p.2) (is_refused (answer r.number r.place r.steps) k.some ∙ ap checked_by parts.0); out_after = parts.1.0; list_after = parts.1.1 }

pub returns-then-out-v : goal.returns-then-out-v
returns-then-out-v c =
    let a = c.args in
    let parts = too_short a.file.now a.out.now a.list.now c.in_ok-v.v c.in_ok-v.ensures c.if-out-v.true in
    record { value = ap checked_by parts.0; out_after = parts.1.0; list_after = parts.1.1 }

pub put_kept-requires : goal.put_kept-requires
put_kept-requires c =
    let a = c.args in
    record {
      file_in_bounds = kept_out a.file.now a.out.now a.list.now c.in_ok-v.v c.in_ok-v.ensures c.if-out-v.false;
      file_in_bounds_2 = kept_list a.file.now a.out.now a.list.now c.in_ok-v.v c.in_ok-v.ensures c.if-out-v.false;
    }

pub finish-requires : goal.finish-requires
finish-requires c =
    let a = c.args in
    record {
      file_in_bounds = room_left a.file.now a.out.now a.list.now c.in_ok-v.v c.in_ok-v.ensures c.if-out-v.false c.put_kept.new.out c.put_kept.ensures.out_after;
      file_in_bounds_2 = list_left a.file.now a.out.now a.list.now c.in_ok-v.v c.in_ok-v.ensures c.if-out-v.false c.put_kept.new.list c.put_kept.ensures.list_after;
    }

pub returns : goal.returns
returns c =
    let a = c.args in
    let parts = done a.file.now a.out.now a.list.now c.in_ok-v.v c.in_ok-v.ensures c.if-out-v.false
    c.put_kept.new.out c.put_kept.new.list c.finish.new.out c.finish.new.list c.put_kept.ensures.out_after c.put_kept.ensures.list_after c.finish.ensures.out_after c.finish.ensures.list_after in
    record { value = ap checked_by parts.0; out_after = parts.1.0; list_after = parts.1.1 }
