-- What is asked is limited to the radius, and where vars come first to the leg beside them.
use Rattle.whole.proofs.CircleLaws.{watts_beside, watts_first_lem}
use Rattle.whole.proofs.circle.watts_in.Goals as goal

pub returns-then-priority-eq1 : goal.returns-then-priority-eq1
returns-then-priority-eq1 c =
    let p = c.before.before in
    let a = p.args in
    cc (watts_beside a.s a.priority a.v a.asked c.if-priority-eq1.true)

pub returns : goal.returns
returns c =
    let p = c.before in
    let a = p.args in
    cc (watts_first_lem a.s a.priority a.v a.asked c.if-priority-eq1.false)
