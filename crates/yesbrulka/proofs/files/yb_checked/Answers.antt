-- What the check gives has all three.
use mathlib.Core.Path.{ap}
use Rattle.whole.specs.declared.Refusal.{Refusal}
use Rattle.stick.specs.Check.{Answer, check_of}
use Rattle.stick.proofs.CheckedLaws.{accepted_is, refused_is}
use Rattle.yesbrulka.proofs.files.yb_checked.Goals as goal

pub returns-in-Ok : goal.returns-in-Ok
returns-in-Ok c =
    let e = accepted_is (check_of c.args.file.now) c.in-Ok.a c.in-Ok.ensures in
    record { value = ap (λ (a : Answer). a.number) e; place_after = ap (λ (a : Answer). a.place) e; steps_after = ap (λ (a : Answer). a.steps) e }

pub returns-in-Err : goal.returns-in-Err
returns-in-Err c =
    let e = (refused_is (check_of c.args.file.now) c.in-Err.r c.in-Err.ensures).0 in
    record { value = ap (λ (r : Refusal). r.number) e; place_after = ap (λ (r : Refusal). r.place) e; steps_after = ap (λ (r : Refusal). r.steps) e }
