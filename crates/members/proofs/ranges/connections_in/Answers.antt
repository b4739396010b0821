use Prim.Native.Nat.{ℕ}
use mathlib.Core.Path.{◌≡◌, refl, sym, ap, ap₂, ◌∙◌}
use mathlib.Core.Bool.{◌&&◌}
use native.Mathlib.Omega.{arith}
use lib.ListN.{length}
use Rattle.whole.specs.Over.{all_of}
use Rattle.whole.proofs.OverLaws.{all_next}
use Rattle.members.specs.Ranges.{connection_at}
use Rattle.members.proofs.ranges.connections_in.Goals as goal
use Rattle.members.proofs.ranges.connections_in.Goals.{At-loop-i}

pub loop-i-init : goal.loop-i-init
unfolding all_of
loop-i-init c = (refl)

pub loop-i-preserved : goal.loop-i-preserved
unfolding connection_at
loop-i-preserved c =
    let a = c.args in
    (ap₂ ◌&&◌ c.loop-i.invariant c.connection_in-ok.ensures ∙ sym (all_next c.loop-i.i (connection_at a.phases.now a.volts.now)))

pub returns : goal.returns
returns c =
    let a = c.args in
    let e : c.loop-i.i ≡ length a.phases.now = omega arith in
    c.loop-i.invariant ∙ ap (λ (n : ℕ). all_of n (connection_at a.phases.now a.volts.now)) e
