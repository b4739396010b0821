-- By length, and by the number, as the definition goes.
use mathlib.Core.Path.{sym, ◌∙◌}
use Rattle.kept.proofs.WellLaws.{well_not, well_going, well_stopped}
use Rattle.kept.proofs.tests.well.Goals as goal
use Rattle.kept.proofs.tests.well.Goals.{After-u8_at, Else-s-ne-SIZE, Else-u8_at-eq0, Then-u8_at-eq0}

pub returns-then-s-ne-SIZE : goal.returns-then-s-ne-SIZE
returns-then-s-ne-SIZE c = well_not c.args.s.now c.if-s-ne-SIZE.true

pub returns-then-u8_at-eq0 : goal.returns-then-u8_at-eq0
returns-then-u8_at-eq0 c =
    well_going c.args.s.now c.goes_on.result c.if-s-ne-SIZE.false (sym c.u8_at.ensures ∙ c.if-u8_at-eq0.true) c.goes_on.ensures

pub returns : goal.returns
returns c =
    well_stopped c.args.s.now c.stopped_there.result c.if-s-ne-SIZE.false (λ e. c.if-u8_at-eq0.false (c.u8_at.ensures ∙ e)) c.stopped_there.ensures
