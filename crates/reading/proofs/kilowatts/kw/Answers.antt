-- The machine's cast and division are the definition's, at the watts that it reads back and at the double 1000.
use mathlib.Core.Path.{◌≡◌, refl, ap, ◌∙◌}
use lib.Count.{count_trailing_zeros}
use lib.IntN.{ℤ}
use lib.Ieee.{Float, binary64, div, of_int, of_bits, of_fields, odd}
use mir.Syntax.{w32}
use Rattle.whole.proofs.SignLaws.{read}
use Rattle.reading.specs.Kilowatts.{thousand, kw_of}
use Rattle.reading.proofs.kilowatts.kw.Goals as goal

thousand_bits : of_bits binary64 4652007308841189376 ≡ thousand
unfolding of_bits of_fields odd count_trailing_zeros
thousand_bits = refl

pub returns : goal.returns
unfolding kw_of
returns c =
    ap (λ (z : ℤ). div binary64 (of_int binary64 z) (of_bits binary64 4652007308841189376)) (read w32 c.args.watts c.ranges.watts.sfits)
    ∙ ap (λ (k : Float). div binary64 (of_int binary64 c.args.watts) k) thousand_bits
