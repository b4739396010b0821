-- The place past the field is where its value begins and as many bytes on as the part has.
use native.Mathlib.Omega.{arith}
use Rattle.parts.proofs.ReaderLaws.{value_length}
use Rattle.yesbrulka.proofs.files.yb_value_start.Goals as goal

pub overflow_sub-result : goal.overflow_sub-result
overflow_sub-result c = let a = c.args in omega (arith, value_length a.file a.place c.value_at.result c.value_at.ensures)

pub returns : goal.returns
returns c = let a = c.args in omega (arith, value_length a.file a.place c.value_at.result c.value_at.ensures)
