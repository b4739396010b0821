-- What is answered of any two files, by what the check gives of the first. Assumes nothing.
use mathlib.Core.Path.{◌≡◌, sym, ap, ◌∙◌}
use mathlib.Core.Bool.{Bool, true, false, cond}
use mathlib.Core.List.{List}
use Prim.Native.Nat.{ℕ}
use lib.Dec.{eqb}
use borrow.Author.Tests.{eq-eqb, ne_eqb}
use Rattle.std.proofs.Common.{Ok, Err, Result}
use Rattle.whole.specs.declared.Refusal.{Refusal}
use Rattle.stick.specs.declared.Checked.{Checked}
use Rattle.stick.specs.Check.{Answer, Accepted, check_of, checked_by, refusal_by}
use Rattle.stick.proofs.CheckedLaws.{accepted_is, refused_is}
use Rattle.partner.specs.declared.Verdict.{Verdict}
use Rattle.partner.specs.Verdict.{verdict_of, partner_answer}

module _ (run : List ℕ) where
  answer_by_lem : (accepted : Bool) → eqb (check_of run).number 0 ≡ accepted → (result : List ℕ)
      → cond accepted (Ok (verdict_of run result)) (Err (refusal_by (check_of run))) ≡ partner_answer run result
  unfolding partner_answer
  answer_by_lem accepted t result = ap (λ (b : Bool). cond b (Ok (verdict_of run result)) (Err (refusal_by (check_of run)))) (sym t)

  pub unjudged : (r : Refusal) → Err r ≡ checked_by (check_of run) → (result : List ℕ) → Err r ≡ partner_answer run result
  unjudged r e result =
      let (is, some) = refused_is (check_of run) r e in
      ap Err is ∙ answer_by_lem false (ne_eqb (check_of run).number 0 some) result

  module _ (a : Checked) (e : Ok a ≡ checked_by (check_of run)) where
    pub taken : Accepted run
    taken = record { complete = sym (ap (λ (x : Answer). x.number) (accepted_is (check_of run) a e)) }

    pub judged : (result : List ℕ) {v : Verdict} → v ≡ verdict_of run result → Ok v ≡ partner_answer run result
    judged result ev = ap Ok ev ∙ answer_by_lem true (eq-eqb (check_of run).number 0 taken.complete) result
