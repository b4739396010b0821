-- From 0 up as a power; below 0 what becomes 0 is up to a bound of its own.
use Rattle.reading.proofs.PatternLaws.{plus_pattern, minus_pattern}
use Rattle.reading.proofs.choosing.current_fits.Goals as goal

pub returns-then-bits-lt9223372036854775808 : goal.returns-then-bits-lt9223372036854775808
returns-then-bits-lt9223372036854775808 c = plus_pattern c.args.bits c.if-bits-lt9223372036854775808.true

pub returns : goal.returns
returns c = minus_pattern c.args.bits c.if-bits-lt9223372036854775808.false c.ranges.bits.fits
