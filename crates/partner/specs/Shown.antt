-- What is shown (rule J11): a part of the partner's result or of the run file, as it lies there, by the verdict; nothing where it is right or there is none.
use Rattle.std.specs.Prelude.{ℕ, ◌+◌, cond, List, ◌≡◌, eqb, take, drop, Ok, Err, Result}
use Rattle.std.specs.Borrow.{Bor}
use Rattle.partner.specs.declared.Verdict.{Verdict}
use Rattle.whole.specs.declared.Refusal.{Refusal}
use Rattle.partner.specs.Verdict.{right, partner_answer}

-- the verdict of an answer; where there is none, nothing is shown either
abbrev pub told_by : Result Verdict Refusal → Verdict
told_by (Ok v) = v
told_by (Err r) = right

abbrev pub file_of : {A : Type 0} → Verdict → A → A → A
file_of v run result = cond (eqb v.number 2) run result

-- a part of the one lent file or of the other. It is no copy: it lies in that file's own memory, which a reference names by a block and an offset in it
pub record ShownPart (run result part : Bor (List ℕ)) : Type 0 where
  pub bytes : let v = told_by (partner_answer run.now result.now) in part.now ≡ take v.len (drop v.start (file_of v run.now result.now))
  pub lies : let v = told_by (partner_answer run.now result.now) in part.ref_ptr ≡ ((file_of v run result).ref_ptr.0, (file_of v run result).ref_ptr.1 + v.start)
