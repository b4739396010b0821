-- What the rescue gives has the number, and its rooms are these.
use mathlib.Core.Path.{ap}
use lib.ListN.{length}
use Rattle.whole.specs.declared.Refusal.{Refusal}
use Rattle.stick.specs.Check.{Answer}
use Rattle.stick.proofs.CheckedLaws.{accepted_is, refused_is}
use Rattle.rescue.specs.Answers.{rescue_answer}
use Rattle.yesbrulka.proofs.beside.yb_rescue.Goals as goal

pub returns-in-Ok : goal.returns-in-Ok
returns-in-Ok c =
    let a = c.args in
    let e = accepted_is (rescue_answer a.file.now (length a.out.now) (length a.list.now)) c.in-Ok.field-0 c.in-Ok.ensures.value in
    record { value = ap (λ (x : Answer). x.number) e; out_after = c.rescue.ensures.out_after; list_after = c.rescue.ensures.list_after }

pub returns-in-Err : goal.returns-in-Err
returns-in-Err c =
    let a = c.args in
    let e = (refused_is (rescue_answer a.file.now (length a.out.now) (length a.list.now)) c.in-Err.r c.in-Err.ensures.value).0 in
    record { value = ap (λ (x : Refusal). x.number) e; out_after = c.rescue.ensures.out_after; list_after = c.rescue.ensures.list_after }
