-- One place less is cut off, then one is added and the sum halved; where the lower neighbour is even, n goes in less one: the tie rule at a power of two
-- (`nearest-shift`). What is cut stays below 2^63, so one more fits.
use mathlib.Core.Path.{sym}
use Prim.Native.Nat.{◌+◌, ◌-◌, ◌/◌, ◌%◌, ◌^◌}
use native.Mathlib.Omega.{arith}
use lib.Pow.{shr_le}
use Rattle.reading.proofs.NearestLaws.{nearest_shift}
use Rattle.reading.proofs.convert.rounded.Goals as goal

pub overflow_add-result-2 : goal.overflow_add-result-2
overflow_add-result-2 c =
    let some = c.requires.n_nonzero in let less = c.requires.n_bound in let few = c.requires.places_bound in
    let n = c.args.n in
    let places = c.args.places in
    omega (arith, shr_le (n - 1 + n / 2 ^ places / 2 % 2) places)

pub returns : goal.returns
returns c = sym (nearest_shift c.args.n c.args.places c.requires.n_nonzero)
