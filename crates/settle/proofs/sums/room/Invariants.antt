-- Each unit adds a number of 32 bits at most.
use Rattle.std.proofs.Common.{◌*◌, ◌≤◌}
use Rattle.settle.proofs.sums.room.Given as goal

abbrev pub invariant-loop-i : goal.invariant-loop-i
invariant-loop-i l = l.room ≤ 4294967295 * l.i
