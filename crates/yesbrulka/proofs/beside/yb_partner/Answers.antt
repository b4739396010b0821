-- The verdict is stored, or the number of the run file's refusal returned and nothing stored.
use mathlib.Core.Path.{sym, ◌∙◌}
use Rattle.partner.specs.declared.Verdict.{Verdict}
use Rattle.yesbrulka.specs.Calls.{partner_told}
use Rattle.yesbrulka.proofs.CallLaws.{call_zero, call_given, call_number, call_kept}
use Rattle.yesbrulka.proofs.beside.yb_partner.Goals as goal

pub returns-in-Ok : goal.returns-in-Ok
returns-in-Ok c =
    let a = c.args in
    let found = c.in-Ok.v in
    let told = partner_told a.run.now a.res.now in
    let is = sym c.in-Ok.is ∙ c.judge.ensures in record { value = call_zero told found is; verdict_after = call_given told found is (λ (x : Verdict). x.number) a.verdict.now; start_after = call_given told found is (λ (x : Verdict). x.start) a.start.now; len_after = call_given told found is (λ (x : Verdict). x.len) a.len.now }

pub returns-in-Err : goal.returns-in-Err
returns-in-Err c =
    let a = c.args in
    let r = c.in-Err.r in
    let told = partner_told a.run.now a.res.now in
    let is = sym c.in-Err.is ∙ c.judge.ensures in record { value = call_number told r is; verdict_after = call_kept told r is (λ (x : Verdict). x.number) a.verdict.now; start_after = call_kept told r is (λ (x : Verdict). x.start) a.start.now; len_after = call_kept told r is (λ (x : Verdict). x.len) a.len.now }
