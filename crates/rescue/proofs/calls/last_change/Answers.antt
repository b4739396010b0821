-- By the stage, and by whether the walk ended at the file's end, as the contract goes.
use mathlib.Core.Path.{refl}
use mathlib.Core.Bool.{true, false}
use lib.Dec.{leb}
use borrow.Author.Tests.{le-leb, lt-leb, eq-eqb, ne_eqb}
use Rattle.rescue.proofs.CallLaws.{last_by_lem}
use Rattle.rescue.proofs.calls.last_change.Goals as goal
use Rattle.rescue.proofs.calls.last_change.Goals.{Then-w-eq-AT_END}

pub returns-then-len-w : goal.returns-then-len-w
returns-then-len-w c =
    let a = c.args in
    let stage = a.w.state.stage in
    last_by_lem stage a.len a.w.at true true (eq-eqb stage 0 c.if-w-eq-AT_END.true) (le-leb a.len a.w.at c.if-len-w.true)

pub returns-else-len-w : goal.returns-else-len-w
returns-else-len-w c =
    let a = c.args in
    let stage = a.w.state.stage in
    last_by_lem stage a.len a.w.at true false (eq-eqb stage 0 c.if-w-eq-AT_END.true) (lt-leb a.len a.w.at c.if-len-w.false)

pub returns : goal.returns
returns c =
    let a = c.args in
    let stage = a.w.state.stage in
    last_by_lem stage a.len a.w.at false (leb a.len a.w.at) (ne_eqb stage 0 c.if-w-eq-AT_END.false) refl
