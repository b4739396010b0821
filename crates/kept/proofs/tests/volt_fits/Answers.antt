-- Each way is one of the definition's two.
use Rattle.kept.proofs.FitLaws.{volt_said, volt_none}
use Rattle.kept.proofs.tests.volt_fits.Goals as goal

pub returns-then-stage-eq-AT_VOLTAGE : goal.returns-then-stage-eq-AT_VOLTAGE
returns-then-stage-eq-AT_VOLTAGE c = let a = c.args in volt_said a.stage a.volts c.if-stage-eq-AT_VOLTAGE.true

pub returns-else-stage-eq-AT_VOLTAGE : goal.returns-else-stage-eq-AT_VOLTAGE
returns-else-stage-eq-AT_VOLTAGE c = let a = c.args in volt_none a.stage a.volts c.if-stage-eq-AT_VOLTAGE.false
