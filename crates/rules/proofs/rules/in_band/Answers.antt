-- Twice the size that is read back is compared with the band.
use mathlib.Core.Path.{◌≡◌, ap, ◌∙◌}
use Prim.Native.Nat.{ℕ, ◌*◌}
use native.Mathlib.Omega.{arith}
use lib.Dec.{leb}
use lib.IntN.{nat_abs}
use mir.Syntax.{w64}
use Rattle.whole.proofs.SignLaws.{read}
use Rattle.rules.specs.Rules.{in_band}
use Rattle.rules.proofs.rules.in_band.Goals as goal

pub overflow_mul-result : goal.overflow_mul-result
overflow_mul-result c =
    let e : c.unsigned_abs.result ≡ nat_abs c.args.need = c.unsigned_abs.ensures.value ∙ ap nat_abs (read w64 c.args.need c.ranges.need.sfits) in
    omega arith

pub returns : goal.returns
unfolding in_band
returns c =
    ap (λ (n : ℕ). leb (2 * n) c.args.band) (c.unsigned_abs.ensures.value ∙ ap nat_abs (read w64 c.args.need c.ranges.need.sfits))
