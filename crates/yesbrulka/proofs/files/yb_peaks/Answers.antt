-- The library's answer decides the number, and the list holds what the library leaves in it.
use mathlib.Core.Path.{◌≡◌, sym, ap, ◌∙◌}
use lib.IntN.{ℤ}
use lib.ListN.{length}
use mir.Syntax.{w32}
use Rattle.whole.specs.Call.{number_of}
use Rattle.whole.proofs.SignLaws.{read}
use Rattle.peaks.specs.Answers.{peaks_answer, peaks_leaves}
use Rattle.std.proofs.Common.{Result}
use Rattle.whole.specs.declared.Refusal.{Refusal}
use Rattle.tally.specs.declared.Figures.{Figures}
use Rattle.yesbrulka.proofs.files.yb_peaks.Goals as goal
use Rattle.yesbrulka.proofs.files.yb_peaks.Goals.{After-peaks, In-Err, Start}

-- where the function starts, and what the library answered and left
abbrev start : After-peaks → Start
start p = p.before.before.before.before

is : (p : After-peaks) → let a = (start p).args in p.peaks.result ≡ peaks_answer a.file.now a.target (length a.figures.now)
is p =
    let s = start p in
    let a = s.args in
    p.peaks.ensures.value ∙ ap (λ (z : ℤ). peaks_answer a.file.now z (length a.figures.now)) (read w32 a.target s.ranges.target.sfits)

left : (p : After-peaks) → let a = (start p).args in p.peaks.new.list ≡ peaks_leaves a.file.now a.target a.figures.now
left p =
    let s = start p in
    let a = s.args in
    p.peaks.ensures.list_after ∙ ap (λ (z : ℤ). peaks_leaves a.file.now z a.figures.now) (read w32 a.target s.ranges.target.sfits)

pub enum_known-r : goal.enum_known-r
enum_known-r c = c.in-Err.in-Err-own.keys2

pub shape_of-figures-in-Ok : goal.shape_of-figures-in-Ok
shape_of-figures-in-Ok c = c.peaks.auto.list

pub returns-in-Ok : goal.returns-in-Ok
returns-in-Ok c =
    let a = (start (goal.at.returns-in-Ok c).After-peaks).args in record { value = sym (ap (λ (x : Result Figures Refusal). number_of x) (sym (is (goal.at.returns-in-Ok c).After-peaks) ∙ c.in-Ok.is)); figures_after = left (goal.at.returns-in-Ok c).After-peaks }

pub shape_of-figures-in-Err : goal.shape_of-figures-in-Err
shape_of-figures-in-Err c = c.peaks.auto.list

pub returns-in-Err : goal.returns-in-Err
returns-in-Err c =
    let a = (start (goal.at.returns-in-Err c).After-peaks).args in record { value = sym (ap (λ (x : Result Figures Refusal). number_of x) (sym (is (goal.at.returns-in-Err c).After-peaks) ∙ c.in-Err.is)); figures_after = left (goal.at.returns-in-Err c).After-peaks }
