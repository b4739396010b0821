-- What the conversion refuses is refused; a whole number is tested as the machine reads it back, which is the number itself.
use mathlib.Core.Path.{◌∙◌, sym, ap}
use mir.Syntax.{w32}
use Rattle.whole.proofs.SignLaws.{read}
use Rattle.reading.specs.Conversion.{not_below, milli_of}
use Rattle.reading.proofs.ChoiceLaws.{below_refused, not_below_lem}
use Rattle.reading.proofs.convert.milli_of_bits.Goals as goal

pub returns-in_default : goal.returns-in_default
unfolding milli_of
returns-in_default c = let x = c.watts_of_bits in ap not_below (sym c.in_default.is ∙ x.ensures)

pub returns-then-w-lt0 : goal.returns-then-w-lt0
unfolding milli_of
returns-then-w-lt0 c =
    let x = c.watts_of_bits in
    below_refused c.in-Some.w (record { sfits = c.in-Some.known_told-1-own.given.0.1 }) c.if-w-lt0.true
    ∙ ap not_below (sym c.in-Some.is ∙ x.ensures)

pub returns : goal.returns
unfolding milli_of
returns c =
    let x = c.watts_of_bits in
    let w = c.in-Some.w in
    let f = c.in-Some.known_told-1-own.given.0.1 in
    not_below_lem w (record { sfits = f }) c.if-w-lt0.false (read w32 w f) ∙ ap not_below (sym c.in-Some.is ∙ x.ensures)
