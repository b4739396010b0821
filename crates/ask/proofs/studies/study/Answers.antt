-- Each test is the definition's, in the order of rule C12: the file, the number of requests, the trial; the file's own values are in their ranges. Past
-- the tests the study is made over the file's fleet, and a refusal touches nothing.
use mathlib.Core.Path.{◌≡◌, sym, ap, ◌∙◌}
use native.Mathlib.Omega.{arith}
use lib.ListN.{length}
use borrow.Author.Tests.{not-false}
use mir.Syntax.{w64}
use mir.Val.{to_z, of_z}
use Rattle.whole.proofs.SignLaws.{read}
use Rattle.settling.specs.declared.Trial.{Trial}
use Rattle.site.specs.declared.Head.{Head}
use Rattle.site.specs.Site.{count}
use Rattle.stick.specs.Site.{site_of}
use Rattle.ask.specs.Says.{trial_said}
use Rattle.std.proofs.lemmas.Result.{err_from_is_err_and}
use Rattle.ask.proofs.SaysLaws.{accepts, no_study}
use Rattle.ask.proofs.StudyLaws.{trial_made, other_count, other_trial, study_made}
use mathlib.Core.Bool.{not}
use Rattle.ask.proofs.studies.study.Goals as goal
use Rattle.ask.proofs.studies.study.Goals.{After-head-head, After-study_over, After-trial_in, After-units, Else-not-trial_in, Else-requests-units, Start, Then-not-trial_in, Then-requests-units}

-- past the second there is a request for each unit
requests_there : (g : Else-requests-units) → length g.args.requests.now ≡ count (site_of g.args.file.now)
requests_there g = omega (arith, g.if-requests-units.false, g.units.ensures)

-- the trial that the code makes, and that it is the file's
abbrev trial : After-head-head → Trial
trial h = record {
  settings = h.head-head.result.settings;
  load = to_z w64 (of_z w64 h.args.load);
  budget = h.args.budget;
}

trial_is : (h : After-head-head) → trial h ≡ trial_said h.args.file.now h.args.load h.args.budget
trial_is h =
    trial_made h.args.file.now h.head-head.result.settings h.args.load (to_z w64 (of_z w64 h.args.load)) h.args.budget
    (ap (λ (x : Head). x.settings) h.head-head.ensures) (read w64 h.args.load h.ranges.load.sfits)

pub returns-in_err-check : goal.returns-in_err-check
returns-in_err-check c =
    let parts = no_study c.args.file.now c.in_err-check.field-0.0 c.in_err-check.ensures c.args.load c.args.budget c.args.requests.now in
    let p = err_from_is_err_and c.from_residual.result c.from_residual.ensures.1 in
    record { value = rw (p.1, p.2) parts.0; requests_after = parts.1 }

pub returns-then-requests-units : goal.returns-then-requests-units
returns-then-requests-units c = let parts = other_count c.args.file.now (accepts c.args.file.now c.in_ok-check.field-0 c.in_ok-check.ensures) c.args.load c.args.budget c.args.requests.now (λ same. omega (arith, c.if-requests-units.true, c.units.ensures))
    c.refused.result c.refused.ensures in record { value = parts.0; requests_after = parts.1 }

pub returns-then-not-trial_in : goal.returns-then-not-trial_in
returns-then-not-trial_in c = let parts = other_trial c.args.file.now (accepts c.args.file.now c.in_ok-check.field-0 c.in_ok-check.ensures) c.args.load c.args.budget c.args.requests.now (requests_there (goal.at.returns-then-not-trial_in c).Else-requests-units) (trial (goal.at.returns-then-not-trial_in c).After-head-head) c.trial_in.result c.trial_in.ensures (trial_is (goal.at.returns-then-not-trial_in c).After-head-head)
    (ap not c.if-not-trial_in.true) c.refused-then-not-trial_in.result c.refused-then-not-trial_in.ensures in record { value = parts.0; requests_after = parts.1 }

pub study_over-requires : goal.study_over-requires
study_over-requires c =
    record {
      accepted = accepts c.args.file.now c.in_ok-check.field-0 c.in_ok-check.ensures;
      trial = sym c.trial_in.ensures ∙ not-false c.trial_in.result (ap not c.if-not-trial_in.false);
      settings_are = ap (λ (x : Head). x.settings) c.head-head.ensures;
      requests_there = requests_there (goal.at.study_over-requires c).Else-requests-units;
    }

pub returns : goal.returns
returns c = let parts = study_made c.args.file.now (accepts c.args.file.now c.in_ok-check.field-0 c.in_ok-check.ensures) c.args.load c.args.budget c.args.requests.now (requests_there (goal.at.returns c).Else-requests-units) (trial (goal.at.returns c).After-head-head) c.trial_in.result c.trial_in.ensures (trial_is (goal.at.returns c).After-head-head)
    (ap not c.if-not-trial_in.false) c.study_over.new.requests c.study_over.result c.study_over.ensures in record { value = parts.0; requests_after = parts.1 }
