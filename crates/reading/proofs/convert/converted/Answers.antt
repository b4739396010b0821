-- A double is what its bit pattern stands for, the NaN too.
use borrow.Author.Rules.{rules}
use mathlib.Core.Path.{ap, ◌∙◌}
use lib.Ieee.{binary64, of_bits}
use lib.Ieee.Bits.{of_bits-to_bits}
use Rattle.reading.specs.Conversion.{watts_of}
use Rattle.reading.proofs.convert.converted.Goals as goal

pub returns : goal.returns
returns c =
    c.watts_of_bits.ensures ∙ ap watts_of (ap (of_bits binary64) c.bits_of.ensures ∙ of_bits-to_bits binary64 c.args.kw (search rules))
