-- The phase is tested; then the choice among the three converted powers is the definition's.
use Rattle.reading.specs.Conversion.{watts_of}
use Rattle.reading.specs.Choice.{measure_of}
use Rattle.reading.proofs.ChoiceLaws.{no_phase, measured}
use Rattle.reading.proofs.choosing.regulated.Goals as goal

pub returns-then-phase-gt5 : goal.returns-then-phase-gt5
unfolding measure_of
returns-then-phase-gt5 c =
    no_phase watts_of c.args.p c.args.phase c.if-phase-gt5.true c.refused.result c.refused.ensures

pub returns : goal.returns
unfolding measure_of
returns c = cc (measured watts_of c.args.p c.args.phase c.if-phase-gt5.false)
