-- Only the NaN differs from itself, and its pattern is the constant; the machine gives any other double's.
use mathlib.Core.Path.{sym, ap}
use lib.Ieee.{binary64, to_bits}
use Rattle.octets.proofs.NanLaws.{differs_nan, same_no_nan}
use Rattle.octets.proofs.doubles.bits_of.Goals as goal

pub returns-then-x : goal.returns-then-x
unfolding to_bits
returns-then-x c = sym (ap (to_bits binary64) (differs_nan c.args.x c.if-x.true))

pub float_to_bits-result : goal.float_to_bits-result
float_to_bits-result c = same_no_nan c.args.x c.if-x.false
