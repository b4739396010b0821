-- The tests are the definition's, and the place and the steps are those that the state tells.
use Rattle.std.proofs.Common.{◌≡◌, ℕ, ◌||◌, eqb, ap, ap₂, sym, ◌∙◌}
use Rattle.stick.specs.Check.{answer, refusal_by}
use Rattle.stick.specs.declared.Known.TheVariants.{Complete, Refused}
use Rattle.feed.proofs.WrittenLaws.{written_is, refused_is}
use Rattle.fed.proofs.KnownLaws.{says_complete, says_nothing, says_refused}
use Rattle.fed.proofs.knowing.ended.Goals as goal

pub returns-in-Ok : goal.returns-in-Ok
returns-in-Ok c = λ n e. ap Complete c.steps.ensures ∙ sym (says_complete n c.args.state.now (written_is n 7 c.in-Ok.field-0 (sym c.in-Ok.is ∙ e)).0)

pub returns-in-Err : goal.returns-in-Err
returns-in-Err c = λ n e.
    let (same, some) = refused_is n 7 c.in-Err.number (sym c.in-Err.is ∙ e) in
    sym (says_nothing n c.args.state.now some (sym (ap (λ (k : ℕ). eqb k 10 || eqb k 11) same) ∙ c.if-number.true))

pub returns-in-Err-2 : goal.returns-in-Err-2
returns-in-Err-2 c = λ n e.
    let (same, some) = refused_is n 7 c.in-Err.number (sym c.in-Err.is ∙ e) in
    let again : c.in-Err-2.number ≡ n = (refused_is n 7 c.in-Err-2.number (sym c.in-Err-2.is ∙ e)).0 in
    ap (λ (k : ℕ). Refused (refusal_by (answer k c.place.result c.steps-in-Err-2.result))) again
    ∙ ap₂ (λ (place steps : ℕ). Refused (refusal_by (answer n place steps))) c.place.ensures c.steps-in-Err-2.ensures
    ∙ sym (says_refused n c.args.state.now some (sym (ap (λ (k : ℕ). eqb k 10 || eqb k 11) same) ∙ c.if-number.false))
