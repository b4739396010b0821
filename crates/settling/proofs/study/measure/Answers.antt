-- Load and the sum of 64 numbers of 32 bits are small beside 64 bits.
use Rattle.settling.proofs.StudyLaws.{measure_fits, measure_is}
use Rattle.settling.proofs.study.measure.Goals as goal
use Rattle.settling.proofs.study.measure.Goals.{After-asked, Start}

pub overflow_sub-result : goal.overflow_sub-result
overflow_sub-result c = measure_fits c.args.load c.requires.load_bound c.args.requests.now c.asked.result c.asked.ensures

pub returns : goal.returns
returns c = measure_is c.args.load c.requires.load_bound c.args.requests.now c.asked.result c.asked.ensures
