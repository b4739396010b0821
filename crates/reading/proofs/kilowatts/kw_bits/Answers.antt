-- The pattern is that of the double that `kw` gives.
use mathlib.Core.Path.{ap, ◌∙◌}
use lib.Ieee.{binary64, to_bits}
use mir.Syntax.{w32}
use Rattle.whole.proofs.SignLaws.{read}
use Rattle.reading.specs.Kilowatts.{kw_of}
use Rattle.reading.proofs.kilowatts.kw_bits.Goals as goal

pub returns : goal.returns
returns c =
    c.bits_of.ensures ∙ ap (to_bits binary64) (c.kw.ensures ∙ ap kw_of (read w32 c.args.watts c.ranges.watts.sfits))
