-- The first point has none before it; else the two x are compared, each as it was read.
use mathlib.Core.Path.{ap₂, ◌∙◌}
use lib.Signed.{lt_z}
use mir.Syntax.{w32}
use Prim.Native.Nat.{◌-◌}
use Rattle.whole.proofs.SignLaws.{read}
use Rattle.curve.specs.Layout.{x_at}
use Rattle.curve.proofs.RangeTests.{first_rises, next_rises}
use Rattle.curve.proofs.ranges.rises.Goals as goal

pub returns-then-i-eq0 : goal.returns-then-i-eq0
returns-then-i-eq0 c =
    let a = c.args in
    first_rises a.i (lt_z (x_at a.bytes.now a.place (a.i - 1)) (x_at a.bytes.now a.place a.i)) c.if-i-eq0.true

pub returns : goal.returns
returns c =
    let p = c.x_at in
    let q = c.x_at-2 in
    let a = c.args in
    next_rises a.i _ _ c.if-i-eq0.false
    (ap₂ lt_z (read w32 p.result p.type_inv ∙ p.ensures) (read w32 q.result q.type_inv ∙ q.ensures))
