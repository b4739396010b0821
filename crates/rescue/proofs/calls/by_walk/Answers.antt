-- The tests come in the definition's order: a field due before the steps, then the output's size; a file's bytes are few enough that no sum leaves its type.
use Rattle.std.proofs.Common.{◌≡◌, cond, eqb, length, refl, arith}
use borrow.Author.Tests.{eq-eqb, ne_eqb}
use Rattle.kept.proofs.FitLaws.{pick_true, pick_false}
use Rattle.rescue.proofs.CallLaws.{few_last, few_more, owed, too_long, given}
use Rattle.rescue.proofs.calls.by_walk.Goals as goal
use Rattle.rescue.proofs.calls.by_walk.Goals.{else-st-eq-AT_END, then-st-eq-AT_END, Joined-st-eq-AT_END}

-- the bytes of the end field
ended : (c : Joined-st-eq-AT_END) → c.if-st-eq-AT_END.output ≡ cond (eqb c.args.w.state.stage 0) 0 7
ended c =
    let stage = c.args.w.state.stage in
    elim c.if-st-eq-AT_END.branch [ then-st-eq-AT_END w ↦ pick_true (eqb stage 0) 0 7 c.if-st-eq-AT_END.output (eq-eqb stage 0 w.if-st-eq-AT_END.true) w.output-is | else-st-eq-AT_END w ↦ pick_false (eqb stage 0) 0 7 c.if-st-eq-AT_END.output (ne_eqb stage 0 w.if-st-eq-AT_END.false) w.output-is ]

pub returns-then-w-eq0 : goal.returns-then-w-eq0
returns-then-w-eq0 c =
    let n = c.args.w.number in
    owed c.args.file.now c.requires.file_len_bound c.args.w c.requires.walked c.tag_at.result c.tag_at.ensures c.is_due.result c.is_due.ensures c.if-is_due.true
    8 (pick_true (eqb n 0) 8 n 8 (eq-eqb n 0 c.if-w-eq0.true) refl)

pub returns-else-w-eq0 : goal.returns-else-w-eq0
returns-else-w-eq0 c =
    let n = c.args.w.number in
    owed c.args.file.now c.requires.file_len_bound c.args.w c.requires.walked c.tag_at.result c.tag_at.ensures c.is_due.result c.is_due.ensures c.if-is_due.true
    n (pick_false (eqb n 0) 8 n n (ne_eqb n 0 c.if-w-eq0.false) refl)

pub overflow_add-output : goal.overflow_add-output
overflow_add-output c =
    omega (arith, few_more c.args.w.state.stage c.if-st-eq-AT_END.output (ended (goal.at.overflow_add-output c).Joined-st-eq-AT_END), c.requires.file_len_bound, c.requires.walked.upto, c.requires.walked.few_kept)

pub returns-then-output-gt-MOST_BYTES : goal.returns-then-output-gt-MOST_BYTES
returns-then-output-gt-MOST_BYTES c =
    rw c.refused.ensures (too_long c.args.file.now c.requires.file_len_bound c.args.w c.requires.walked c.tag_at.result c.tag_at.ensures c.is_due.result c.is_due.ensures c.if-is_due.false
    c.if-st-eq-AT_END.output (ended (goal.at.returns-then-output-gt-MOST_BYTES c).Joined-st-eq-AT_END) c.if-output-gt-MOST_BYTES.true)

pub overflow_add-result : goal.overflow_add-result
overflow_add-result c =
    let a = c.args in
    omega (arith, c.last_change.ensures, few_last a.w.state.stage (length a.file.now) a.w.at, c.requires.file_len_bound, c.requires.walked.upto, c.requires.walked.few_missing)

pub returns : goal.returns
returns c =
    given c.args.file.now c.requires.file_len_bound c.args.w c.requires.walked c.tag_at.result c.tag_at.ensures c.is_due.result c.is_due.ensures c.if-is_due.false
    c.if-st-eq-AT_END.output (ended (goal.at.returns c).Joined-st-eq-AT_END) c.if-output-gt-MOST_BYTES.false c.last_change.result c.last_change.ensures
