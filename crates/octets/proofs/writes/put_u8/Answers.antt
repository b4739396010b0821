-- One byte laid is one element replaced.
use native.Mathlib.Omega.{arith}
use Rattle.octets.proofs.LaidLaws.{laid_one}
use Rattle.octets.proofs.writes.put_u8.Goals as goal

pub returns : goal.returns
returns c = laid_one c.args.s.now c.args.at c.args.v (omega arith) c.ranges.v.fits
