use native.Mathlib.Omega.{arith}
use mathlib.Core.Path.{subst}
use lib.IntN.{ℤ, pos}
use lib.ListN.{get_or}
use mir.Syntax.{w32}
use Rattle.whole.proofs.SignLaws.{read}
use Rattle.members.specs.Posts.{WithRequest}
use Rattle.members.proofs.RequestLaws.{none_yet_is, one_more, all_asked}
use Rattle.members.proofs.sums.asked.Goals as goal
use Rattle.members.proofs.sums.asked.Goals.{At-loop-r}

pub loop-r-init : goal.loop-r-init
loop-r-init c = (none_yet_is c.args.requests.now)

pub loop-r-preserved : goal.loop-r-preserved
loop-r-preserved c =
    let rs = c.args.requests.now in
    let r = get_or rs c.loop-r.r-index (pos 0) in
    let h = c.r-1.given in
    one_more rs c.loop-r.r-index c.loop-r.a c.with_request-a.result c.loop-r.invariant h
    (subst (λ (z : ℤ). WithRequest c.loop-r.a z c.with_request-a.result) (read w32 r h) c.with_request-a.ensures)

pub returns : goal.returns
returns c = all_asked c.args.requests.now c.loop-r.r-index c.loop-r.a (omega arith) c.requires c.loop-r.invariant
