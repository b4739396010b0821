use native.Mathlib.Omega.{arith}
use lib.IntN.{pos}
use lib.ListN.{get_or}
use mir.Syntax.{w32}
use Rattle.whole.proofs.SignLaws.{read}
use Rattle.rules.proofs.RuleLaws.{back32}
use Rattle.members.proofs.RequestLaws.{no_signs, sign_more, all_signs}
use Rattle.members.proofs.sums.signs.Goals as goal
use Rattle.members.proofs.sums.signs.Goals.{At-loop-r}

pub loop-r-init : goal.loop-r-init
loop-r-init c = (no_signs c.args.requests.now)

pub loop-r-preserved : goal.loop-r-preserved
loop-r-preserved c =
    let rs = c.args.requests.now in
    let r = get_or rs c.loop-r.r-index (pos 0) in
    (sign_more rs c.loop-r.r-index c.loop-r.above c.loop-r.below c.loop-r.invariant (back32 r) (read w32 r c.r-1.given))

pub returns : goal.returns
returns c = all_signs c.args.requests.now c.loop-r.r-index c.loop-r.above c.loop-r.below c.loop-r.invariant (omega arith)
