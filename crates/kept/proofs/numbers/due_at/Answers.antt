-- Each number of the sun stands where it is read, and the voltage is the one that is kept.
use mathlib.Core.Path.{◌∙◌}
use mir.Syntax.{w32}
use Rattle.whole.proofs.SignLaws.{read}
use Rattle.kept.proofs.NumberLaws.{due_is}
use Rattle.kept.proofs.numbers.due_at.Goals as goal
use Rattle.kept.proofs.numbers.due_at.Goals.{After-i32_at, After-u32_at}

pub returns : goal.returns
returns c =
    due_is
    c.args.s.now
    c.u32_at.result
    _
    c.voltage.result
    c.u32_at.ensures
    (read w32 c.i32_at.result c.i32_at.type_inv ∙ c.i32_at.ensures)
    c.voltage.ensures
