-- One byte is its own number.
use mathlib.Core.Path.{sym}
use Rattle.octets.proofs.ByteLaws.{be_one}
use Rattle.octets.proofs.reads.u8_at.Goals as goal

pub returns : goal.returns
returns c = sym (be_one c.args.s.now c.args.at)
