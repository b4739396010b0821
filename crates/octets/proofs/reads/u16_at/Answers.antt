-- The library's number of two bytes is the big-endian one.
use native.Mathlib.Omega.{arith}
use Rattle.octets.proofs.ByteLaws.{be_2}
use Rattle.octets.proofs.reads.u16_at.Goals as goal

pub returns : goal.returns
returns c = omega (arith, be_2 c.args.s.now c.args.at, c.from_be_bytes.ensures)
