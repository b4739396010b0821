-- The stage says whether the two bytes are a voltage.
use Rattle.kept.proofs.NumberLaws.{voltage_said, voltage_unsaid}
use Rattle.kept.proofs.numbers.voltage.Goals as goal
use Rattle.kept.proofs.numbers.voltage.Goals.{After-u8_at, Then-u8_at-eq-AT_VOLTAGE}

pub returns-then-u8_at-eq-AT_VOLTAGE : goal.returns-then-u8_at-eq-AT_VOLTAGE
returns-then-u8_at-eq-AT_VOLTAGE c =
    voltage_said c.args.s.now c.u8_at.result c.u16_at.result c.u8_at.ensures c.if-u8_at-eq-AT_VOLTAGE.true c.u16_at.ensures

pub returns : goal.returns
returns c =
    voltage_unsaid c.args.s.now c.u8_at.result c.u8_at.ensures c.if-u8_at-eq-AT_VOLTAGE.false
