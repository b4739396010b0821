-- What the check gives has it.
use mathlib.Core.Path.{ap}
use Rattle.whole.specs.declared.Refusal.{Refusal}
use Rattle.stick.specs.Check.{Answer, check_of}
use Rattle.stick.proofs.CheckedLaws.{accepted_is, refused_is}
use Rattle.yesbrulka.proofs.files.yb_check_place.Goals as goal

pub returns-in-Ok : goal.returns-in-Ok
returns-in-Ok c = ap (λ (a : Answer). a.place) (accepted_is (check_of c.args.file.now) c.in-Ok.a c.in-Ok.ensures)

pub returns-in-Err : goal.returns-in-Err
returns-in-Err c = ap (λ (r : Refusal). r.place) (refused_is (check_of c.args.file.now) c.in-Err.r c.in-Err.ensures).0
