-- A pattern above the infinity's is a NaN's, and 0 / 0 is the NaN; any other the machine takes as it is.
use mathlib.Core.Path.{sym}
use lib.Ieee.{binary64, div, of_bits}
use Rattle.octets.proofs.NanLaws.{above_nan, upto_no_nan}
use Rattle.octets.proofs.doubles.double_of.Goals as goal

pub returns-then-bits-gt9218868437227405312 : goal.returns-then-bits-gt9218868437227405312
unfolding div of_bits
returns-then-bits-gt9218868437227405312 c = sym (above_nan binary64 c.args.bits c.if-bits-gt9218868437227405312.true)

pub float_from_bits-result : goal.float_from_bits-result
float_from_bits-result c = upto_no_nan binary64 c.args.bits c.if-bits-gt9218868437227405312.false
