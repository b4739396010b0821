-- The code is the definition, by what the flow moves. A flow that the unit can carry takes no more than the store holds, and adds no more than it has
-- room for.
use native.Mathlib.Omega.{arith}
use Rattle.flows.proofs.FlowLaws.{out_held, in_room, out_stored, in_stored, idle_stored}
use Rattle.flows.proofs.flows.stored.Goals as goal

pub overflow_sub-result : goal.overflow_sub-result
overflow_sub-result c = omega (arith, out_held c.requires c.in-Out.is)

pub overflow_add-result : goal.overflow_add-result
overflow_add-result c = omega (arith, in_room c.requires c.in-In.is)

pub returns-in-Out : goal.returns-in-Out
returns-in-Out c = out_stored c.requires c.in-Out.is

pub returns-in-In : goal.returns-in-In
returns-in-In c = in_stored c.requires c.in-In.is

pub returns-in-Idle : goal.returns-in-Idle
returns-in-Idle c = idle_stored c.requires c.in-Idle.is
