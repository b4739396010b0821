-- The library's number of eight bytes is the big-endian one.
use native.Mathlib.Omega.{arith}
use Rattle.octets.proofs.ByteLaws.{be_8}
use Rattle.octets.proofs.reads.u64_at.Goals as goal

pub returns : goal.returns
returns c = omega (arith, be_8 c.args.s.now c.args.at, c.from_be_bytes.ensures)
