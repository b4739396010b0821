-- The sum is at most the file's length, so it fits.
use native.Mathlib.Omega.{arith}
use Rattle.parts.proofs.ReaderLaws.{part_within}
use Rattle.parts.proofs.parts.part_end.Goals as goal

pub overflow_add-result : goal.overflow_add-result
overflow_add-result c = let a = c.args in omega (arith, part_within a.file.now a.place)
