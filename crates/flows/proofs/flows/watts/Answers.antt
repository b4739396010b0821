-- The watts of each kind of flow are a sign and a size of at most S, so they fit 32 bits.
use mathlib.Core.Path.{◌∙◌}
use mathlib.Core.Bool.{true, false}
use native.Mathlib.Omega.{arith}
use mir.Syntax.{w32}
use Rattle.whole.proofs.SignLaws.{read, signed_fits}
use Rattle.flows.proofs.FlowLaws.{out_small, in_small, idle_small, out_watts, in_watts_lem, idle_watts}
use Rattle.flows.proofs.flows.watts.Goals as goal

pub overflow_cast-x : goal.overflow_cast-x
overflow_cast-x c = omega (arith, out_small c.requires c.in-Out.is)

pub signed32-requires : goal.signed32-requires
signed32-requires c =
    signed_fits w32 false c.in-Out.x (omega (arith, out_small c.requires c.in-Out.is))

pub overflow_cast-x-in-In : goal.overflow_cast-x-in-In
overflow_cast-x-in-In c = omega (arith, in_small c.requires c.in-In.is)

pub signed32-requires-in-In : goal.signed32-requires-in-In
signed32-requires-in-In c =
    signed_fits w32 true c.in-In.x (omega (arith, in_small c.requires c.in-In.is))

pub overflow_cast-moved : goal.overflow_cast-moved
overflow_cast-moved c = omega (arith, idle_small c.requires c.in-Idle.is)

pub signed32-requires-in-Idle : goal.signed32-requires-in-Idle
signed32-requires-in-Idle c =
    signed_fits w32 true c.args.moved (omega (arith, idle_small c.requires c.in-Idle.is))

pub returns-in-Out : goal.returns-in-Out
returns-in-Out c =
    let w = out_watts c.requires c.in-Out.is in
    read w32 c.signed32.result c.signed32.type_inv ∙ c.signed32.ensures ∙ w

pub returns-in-In : goal.returns-in-In
returns-in-In c =
    let w = in_watts_lem c.requires c.in-In.is in
    read w32 c.signed32-in-In.result c.signed32-in-In.type_inv ∙ c.signed32-in-In.ensures ∙ w

pub returns-in-Idle : goal.returns-in-Idle
returns-in-Idle c =
    let w = idle_watts c.requires c.in-Idle.is in
    read w32 c.signed32-in-Idle.result c.signed32-in-Idle.type_inv ∙ c.signed32-in-Idle.ensures ∙ w
