-- The phase is tested; then the choice among the three converted currents is the definition's.
use Rattle.reading.specs.Conversion.{milli_of}
use Rattle.reading.specs.Choice.{current_of}
use Rattle.reading.proofs.ChoiceLaws.{no_phase, measured}
use Rattle.reading.proofs.choosing.current.Goals as goal

pub returns-then-phase-gt5 : goal.returns-then-phase-gt5
unfolding current_of
returns-then-phase-gt5 c =
    no_phase milli_of c.args.p c.args.phase c.if-phase-gt5.true c.refused.result c.refused.ensures

pub returns : goal.returns
unfolding current_of
returns c = cc (measured milli_of c.args.p c.args.phase c.if-phase-gt5.false)
