-- Both numbers are small beside 32 bits, and so is their sum. Assumes nothing.
use mathlib.Core.Path.{◌≡◌}
use Prim.Native.Nat.{◌+◌, ◌<◌, ◌^◌}
use native.Mathlib.Omega.{arith}
use lib.IntN.{pos, nat_abs}
use mir.Syntax.{w32}
use mir.Val.{hbits, to_z}
use mir.ValLaws.{to_z_pos}
use Rattle.whole.proofs.SignLaws.{read, plus_fits, plus_is}
use Rattle.guided.proofs.units.carried.Goals as goal
use Rattle.guided.proofs.units.carried.Goals.{Start}

small : (c : Start) → nat_abs c.args.watts + nat_abs (pos c.args.loss) < 2 ^ hbits w32
small c = omega (arith, c.requires.watts_bound, c.requires.loss_bound)

loss_is : (c : Start) → to_z w32 c.args.loss ≡ pos c.args.loss
loss_is c = to_z_pos w32 c.args.loss (omega (arith, c.requires.loss_bound))

pub overflow_add-result : goal.overflow_add-result
overflow_add-result c = plus_fits w32 c.args.watts (pos c.args.loss) _ _ (read w32 c.args.watts c.ranges.watts.sfits) (loss_is c) (small c)

pub returns : goal.returns
returns c = plus_is w32 c.args.watts (pos c.args.loss) _ _ (read w32 c.args.watts c.ranges.watts.sfits) (loss_is c) (small c)
