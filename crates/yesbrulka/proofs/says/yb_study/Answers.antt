-- The library's answer decides the number, and only what it reports is stored.
use mathlib.Core.Path.{◌≡◌, sym, ap, ◌∙◌}
use lib.IntN.{ℤ}
use mir.Syntax.{w64}
use Rattle.whole.proofs.SignLaws.{read}
use Rattle.ask.specs.Says.{file_study, file_study_leaves}
use Rattle.yesbrulka.proofs.CallLaws.{study_given, study_kept}
use Rattle.yesbrulka.proofs.says.yb_study.Goals as goal
use Rattle.yesbrulka.proofs.says.yb_study.Goals.{After-study, In-Ok, In-Err, Start}

pub enum_known-found : goal.enum_known-found
enum_known-found c = c.in-Ok.in-Ok-own.keys1

pub enum_known-r : goal.enum_known-r
enum_known-r c = c.in-Err.in-Err-own.keys2

pub shape_of-requests-in-Ok : goal.shape_of-requests-in-Ok
shape_of-requests-in-Ok c = c.study.auto.requests

pub returns-in-Ok : goal.returns-in-Ok
returns-in-Ok c =
    let a = c.args in
    let l = read w64 a.load c.ranges.load.sfits in
    let is : c.study.result ≡ file_study a.file.now a.load a.budget a.requests.now =
    c.study.ensures.value ∙ ap (λ (z : ℤ). file_study a.file.now z a.budget a.requests.now) l in record {
      study_told = study_given (file_study a.file.now a.load a.budget a.requests.now) a.settled.now a.passes.now c.in-Ok.found
          (sym is ∙ c.in-Ok.is);
      requests_after = c.study.ensures.requests_after ∙ ap (λ (z : ℤ). file_study_leaves a.file.now z a.budget a.requests.now) l;
    }

pub shape_of-requests-in-Err : goal.shape_of-requests-in-Err
shape_of-requests-in-Err c = c.study.auto.requests

pub returns-in-Err : goal.returns-in-Err
returns-in-Err c =
    let a = c.args in
    let l = read w64 a.load c.ranges.load.sfits in
    let is : c.study.result ≡ file_study a.file.now a.load a.budget a.requests.now =
    c.study.ensures.value ∙ ap (λ (z : ℤ). file_study a.file.now z a.budget a.requests.now) l in record {
      study_told = study_kept (file_study a.file.now a.load a.budget a.requests.now) a.settled.now a.passes.now
          c.in-Err.r (sym is ∙ c.in-Err.is);
      requests_after = c.study.ensures.requests_after ∙ ap (λ (z : ℤ). file_study_leaves a.file.now z a.budget a.requests.now) l;
    }
