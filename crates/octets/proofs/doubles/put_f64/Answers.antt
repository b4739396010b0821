-- The bits of the double are laid as a number is.
use Rattle.octets.proofs.doubles.put_f64.Goals as goal

pub returns : goal.returns
returns c = cc
