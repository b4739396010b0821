-- Each flag and the vars last requested are replaced by what their inverter's step leaves, and its record laid behind the one before: after the last one all are.
use Rattle.roofs.proofs.LoopLaws.{Lighting}
use Rattle.roofs.proofs.steps.step.Given as goal

abbrev pub invariant-loop-i : goal.invariant-loop-i
invariant-loop-i l =
    Lighting (record { bytes = l.bytes; first = l.first; step = l.k; sun = l.s; lead = l.l; on = l.initial.on; vars = l.initial.vars; room = l.initial.room; at = l.at }) l.i l.on l.vars l.room
