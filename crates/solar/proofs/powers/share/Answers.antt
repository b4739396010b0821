-- The size of what `curve::value` gives, at the x that was handed on.
use mathlib.Core.Path.{ap, ◌∙◌}
use lib.IntN.{ℤ, nat_abs}
use mir.Syntax.{w64}
use Rattle.whole.proofs.SignLaws.{read}
use Rattle.curve.specs.Curve.{curve_at}
use Rattle.curve.specs.Layout.{points_at}
use Rattle.solar.proofs.powers.share.Goals as goal
use Rattle.solar.proofs.powers.share.Goals.{After-value, Start}

pub returns : goal.returns
returns c =
    let a = c.args in
    c.unsigned_abs.ensures.value
    ∙ ap nat_abs
    (read w64 c.value.result c.value.type_inv ∙ c.value.ensures
    ∙ ap (λ (z : ℤ). curve_at (points_at a.bytes.now a.place) z) (read w64 a.x c.ranges.x.sfits))
