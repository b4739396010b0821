-- Three powers can be used where each can.
use mathlib.Core.Bool.{true, false}
use lib.Ieee.{binary64, of_bits}
use Rattle.reading.specs.Conversion.{watts_of}
use Rattle.reading.proofs.PatternLaws.{usable_by}
use Rattle.reading.proofs.choosing.powers_refusal.Goals as goal

pub returns-then-power_fits : goal.returns-then-power_fits
returns-then-power_fits c =
    let s = c.args in
    usable_by (watts_of (of_bits binary64 s.a)) (watts_of (of_bits binary64 s.b)) (watts_of (of_bits binary64 s.c)) true (cc c.if-power_fits.true)

pub returns-else-power_fits : goal.returns-else-power_fits
returns-else-power_fits c =
    let s = c.args in
    usable_by (watts_of (of_bits binary64 s.a)) (watts_of (of_bits binary64 s.b)) (watts_of (of_bits binary64 s.c)) false (cc c.if-power_fits.false)
