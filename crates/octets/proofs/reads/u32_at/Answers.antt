-- The library's number of four bytes is the big-endian one.
use native.Mathlib.Omega.{arith}
use Rattle.octets.proofs.ByteLaws.{be_4}
use Rattle.octets.proofs.reads.u32_at.Goals as goal

pub returns : goal.returns
returns c = omega (arith, be_4 c.args.s.now c.args.at, c.from_be_bytes.ensures)
