-- The measure that is read back is compared, as the definition has it.
use mathlib.Core.Path.{ap}
use mathlib.Core.Bool.{◌&&◌}
use lib.IntN.{ℤ, pos}
use lib.Signed.{le_z}
use mir.Syntax.{w64}
use Rattle.whole.proofs.SignLaws.{read}
use Rattle.rules.specs.Ranges.{current_in}
use Rattle.rules.proofs.ranges.current_in.Goals as goal

pub returns : goal.returns
unfolding current_in
returns c = ap (λ (z : ℤ). le_z (pos 0) z && le_z z (pos 300000000)) (read w64 c.args.measure c.ranges.measure.sfits)
