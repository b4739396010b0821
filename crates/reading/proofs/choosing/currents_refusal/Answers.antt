-- Three currents can be used where each can.
use mathlib.Core.Bool.{true, false}
use lib.Ieee.{binary64, of_bits}
use Rattle.reading.specs.Conversion.{milli_of}
use Rattle.reading.proofs.PatternLaws.{usable_by}
use Rattle.reading.proofs.choosing.currents_refusal.Goals as goal

pub returns-then-current_fits : goal.returns-then-current_fits
returns-then-current_fits c =
    let s = c.args in
    usable_by (milli_of (of_bits binary64 s.a)) (milli_of (of_bits binary64 s.b)) (milli_of (of_bits binary64 s.c)) true (cc c.if-current_fits.true)

pub returns-else-current_fits : goal.returns-else-current_fits
returns-else-current_fits c =
    let s = c.args in
    usable_by (milli_of (of_bits binary64 s.a)) (milli_of (of_bits binary64 s.b)) (milli_of (of_bits binary64 s.c)) false (cc c.if-current_fits.false)
