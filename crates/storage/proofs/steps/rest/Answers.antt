-- The code is the definition: the draw with its sign, the vars and the store as they are, and the draw times the seconds, which fits 64 bits.
use mathlib.Core.Bool.{true}
use native.Mathlib.Omega.{arith}
use mir.Syntax.{w32}
use Rattle.whole.proofs.SignLaws.{signed_fits}
use Rattle.storage.proofs.StepLaws.{rest_is, rest_fits}
use Rattle.storage.proofs.steps.rest.Goals as goal
use Rattle.storage.proofs.steps.rest.Goals.{Start}

pub signed32-requires : goal.signed32-requires
signed32-requires c = signed_fits w32 true c.args.draw (omega (arith, c.requires))

pub overflow_mul-result : goal.overflow_mul-result
overflow_mul-result c =
    record { fits = rest_fits c.args.draw c.args.seconds c.requires c.ranges.seconds.fits }

pub returns : goal.returns
returns c =
    let w = c.signed32 in
    rest_is c.args.draw c.args.vars c.args.held c.args.seconds w.result w.type_inv c.ranges.vars.sfits w.ensures
