-- A pattern without its sign grows with the size that it stands for, and the bound is that of the last size that becomes 10^8 W.
use Rattle.reading.proofs.PatternLaws.{power_pattern}
use Rattle.reading.proofs.choosing.power_fits.Goals as goal

pub returns : goal.returns
returns c = power_pattern c.args.bits
