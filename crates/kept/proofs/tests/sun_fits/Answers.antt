-- Each way is one of the definition's two.
use Rattle.whole.proofs.SignLaws.{sized}
use Rattle.kept.proofs.FitLaws.{sun_lit, sun_none}
use Rattle.kept.proofs.tests.sun_fits.Goals as goal
use Rattle.kept.proofs.tests.sun_fits.Goals.{After-unsigned_abs-size}

pub returns-then-stage : goal.returns-then-stage
returns-then-stage c =
    let a = c.args in
    sun_lit a.stage a.s c.unsigned_abs-size.result c.if-stage.true (sized a.s.temperature c.unsigned_abs-size.result c.struct_told-1.given.1.0.1 c.unsigned_abs-size.ensures.value)

pub returns-else-stage : goal.returns-else-stage
returns-else-stage c =
    let a = c.args in
    sun_none a.stage a.s c.unsigned_abs-size.result c.if-stage.false (sized a.s.temperature c.unsigned_abs-size.result c.struct_told-1.given.1.0.1 c.unsigned_abs-size.ensures.value)
