-- What the run gives has the number, and its room is this one.
use mathlib.Core.Path.{ap}
use lib.ListN.{length}
use Rattle.whole.specs.declared.Refusal.{Refusal}
use Rattle.stick.specs.Check.{Answer}
use Rattle.stick.proofs.CheckedLaws.{accepted_is, refused_is}
use Rattle.season.specs.Answers.{run_answer}
use Rattle.yesbrulka.proofs.files.yb_run.Goals as goal

pub returns-in-Ok : goal.returns-in-Ok
returns-in-Ok c =
    let e = accepted_is (run_answer c.args.file.now (length c.args.room.now)) c.in-Ok.field-0 c.in-Ok.ensures.value in
    record { value = ap (λ (a : Answer). a.number) e; room_after = c.run.ensures.room_after }

pub returns-in-Err : goal.returns-in-Err
returns-in-Err c =
    let e = (refused_is (run_answer c.args.file.now (length c.args.room.now)) c.in-Err.refused c.in-Err.ensures.value).0 in
    record { value = ap (λ (r : Refusal). r.number) e; room_after = c.run.ensures.room_after }
