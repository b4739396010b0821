-- The code is the definition, by what the flow moves. A removal is at least what is delivered and an addition at most what is drawn, so no loss is below
-- 0; and watts up to S over a day fit 64 bits.
use Rattle.flows.proofs.FlowLaws.{out_fits, out_covers, in_fits, in_covered, idle_fits, out_loss, in_loss, idle_loss}
use Rattle.flows.proofs.flows.loss.Goals as goal

pub overflow_mul-result : goal.overflow_mul-result
overflow_mul-result c = record { fits = out_fits c.requires c.in-Out.is }

pub overflow_sub-result : goal.overflow_sub-result
overflow_sub-result c = out_covers c.requires c.in-Out.is

pub overflow_mul-result-in-In : goal.overflow_mul-result-in-In
overflow_mul-result-in-In c = record { fits = in_fits c.requires c.in-In.is }

pub overflow_sub-result-in-In : goal.overflow_sub-result-in-In
overflow_sub-result-in-In c = in_covered c.requires c.in-In.is

pub overflow_mul-result-in-Idle : goal.overflow_mul-result-in-Idle
overflow_mul-result-in-Idle c = record { fits = idle_fits c.requires c.in-Idle.is }

pub returns-in-Out : goal.returns-in-Out
returns-in-Out c = out_loss c.requires c.in-Out.is

pub returns-in-In : goal.returns-in-In
returns-in-In c = in_loss c.requires c.in-In.is

pub returns-in-Idle : goal.returns-in-Idle
returns-in-Idle c = idle_loss c.requires c.in-Idle.is
