-- The size of the measure that is read back is compared, as the definition has it.
use mathlib.Core.Path.{ap, ◌∙◌}
use Prim.Native.Nat.{ℕ}
use lib.Dec.{leb}
use lib.IntN.{nat_abs}
use mir.Syntax.{w64}
use Rattle.whole.proofs.SignLaws.{read}
use Rattle.rules.specs.Ranges.{measure_in}
use Rattle.rules.proofs.ranges.measure_in.Goals as goal

pub returns : goal.returns
unfolding measure_in
returns c =
    ap (λ (n : ℕ). leb n 300000000) (c.unsigned_abs.ensures.value ∙ ap nat_abs (read w64 c.args.measure c.ranges.measure.sfits))
