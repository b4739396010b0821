-- Both numbers are small beside 32 bits, and so is their difference.
use Prim.Native.Nat.{◌+◌, ◌<◌, ◌^◌}
use mathlib.Core.Path.{◌∙◌}
use mathlib.Core.Bool.{false}
use native.Mathlib.Omega.{arith}
use lib.IntN.{pos, nat_abs}
use mir.Syntax.{w32}
use mir.Val.{hbits}
use Rattle.whole.proofs.SignLaws.{read, signed_fits, minus_fits, minus_is}
use Rattle.flows.proofs.flows.at_grid.Goals as goal
use Rattle.flows.proofs.flows.at_grid.Goals.{Start}

pub signed32-lost-requires : goal.signed32-lost-requires
signed32-lost-requires c = signed_fits w32 false c.args.u.grid_loss (omega (arith, c.requires.grid_loss_bound))

small : (c : Start) → nat_abs c.args.carried + nat_abs (pos c.args.u.grid_loss) < 2 ^ hbits w32
small c = omega (arith, c.requires.carried_bound, c.requires.grid_loss_bound)

pub overflow_sub-result : goal.overflow_sub-result
overflow_sub-result c = minus_fits w32 c.args.carried (pos c.args.u.grid_loss) _ _ (read w32 c.args.carried c.ranges.carried.sfits) (read w32 c.signed32-lost.result c.signed32-lost.type_inv ∙ c.signed32-lost.ensures) (small (goal.at.overflow_sub-result c).Start)

pub returns : goal.returns
returns c = minus_is w32 c.args.carried (pos c.args.u.grid_loss) _ _ (read w32 c.args.carried c.ranges.carried.sfits) (read w32 c.signed32-lost.result c.signed32-lost.type_inv ∙ c.signed32-lost.ensures) (small (goal.at.returns c).Start)
