use mathlib.Core.Path.{◌≡◌, refl, sym, ap, ◌∙◌}
use native.Mathlib.Omega.{arith}
use lib.ListN.{length, get_or}
use Rattle.whole.specs.Over.{sum_of}
use Rattle.whole.proofs.OverLaws.{sum_next, sum_upto}
use Rattle.members.specs.Sums.{total}
use Rattle.members.proofs.sums.energy.Goals as goal
use Rattle.members.proofs.sums.energy.Goals.{At-loop-x}

pub loop-x-init : goal.loop-x-init
unfolding sum_of
loop-x-init c = (refl)

pub overflow_add-sum : goal.overflow_add-sum
overflow_add-sum c =
    let xs = c.args.xs.now in
    omega (arith, sum_upto c.loop-x.x-index 10000000000000 (λ k. get_or xs k 0) (λ k h. c.requires.small k), c.requires.small c.loop-x.x-index)

pub loop-x-preserved : goal.loop-x-preserved
loop-x-preserved c =
    let xs = c.args.xs.now in
    (rw c.loop-x.invariant (sym (sum_next c.loop-x.x-index (λ k. get_or xs k 0))))

pub returns : goal.returns
returns c = let e : c.loop-x.x-index ≡ length c.args.xs.now = omega arith in c.loop-x.invariant ∙ ap (λ k. total k c.args.xs.now) e
