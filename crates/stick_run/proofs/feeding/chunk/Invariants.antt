-- While bytes are left, a turn takes at least one, or tries with fewer: what is left of the chunk and the most that is tried become less together.
use Rattle.std.proofs.Common.{length, ◌+◌, ◌-◌, ◌≤◌, ◌<◌}
use Rattle.stick_run.proofs.feeding.chunk.Given as goal

abbrev pub invariant-loop-at : goal.invariant-loop-at
invariant-loop-at g l = (l.at ≤ length l.bytes) × (l.at < length l.bytes → 0 < l.most)

abbrev pub decreases-loop-at : goal.decreases-loop-at
decreases-loop-at g l = length l.bytes - l.at + l.most
