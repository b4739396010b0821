-- The eight bytes are the bits, and the double is that of the bits.
use Rattle.octets.proofs.doubles.f64_at.Goals as goal

pub returns : goal.returns
returns c = cc
