use mathlib.Core.Path.{◌≡◌, refl, sym, ap, ap₂, ◌∙◌}
use mathlib.Core.Bool.{◌&&◌}
use native.Mathlib.Omega.{arith}
use lib.ListN.{length}
use Rattle.whole.specs.Over.{all_of}
use Rattle.whole.proofs.OverLaws.{all_next}
use Rattle.members.specs.Ranges.{fleet_of, member_at}
use Rattle.members.proofs.ranges.units_in.Goals as goal
use Rattle.members.proofs.ranges.units_in.Goals.{At-loop-i}

pub loop-i-init : goal.loop-i-init
unfolding all_of
loop-i-init c = (refl)

pub loop-i-preserved : goal.loop-i-preserved
unfolding member_at
loop-i-preserved c =
    let a = c.args in
    ap₂ ◌&&◌ c.loop-i.invariant c.member_in-ok.ensures
    ∙ sym (all_next c.loop-i.i (member_at (fleet_of a.rated.now a.reserve.now a.stored.now a.rating.now a.weight.now)))

pub returns : goal.returns
returns c =
    let a = c.args in
    let e : c.loop-i.i ≡ length a.rated.now = omega arith in
    c.loop-i.invariant ∙ ap (λ n. all_of n (member_at (fleet_of a.rated.now a.reserve.now a.stored.now a.rating.now a.weight.now))) e
