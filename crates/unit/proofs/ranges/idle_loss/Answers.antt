-- The test is the definition's.
use mathlib.Core.Path.{sym, ap}
use mathlib.Core.Bool.{Bool, cond}
use borrow.Author.Tests.{eq-eqb, ne_eqb}
use Rattle.unit.proofs.ranges.idle_loss.Goals as goal

pub returns-then-u-eq0 : goal.returns-then-u-eq0
returns-then-u-eq0 c = let u = c.args.u in sym (ap (λ (b : Bool). cond b u.dc_loss u.grid_loss) (eq-eqb u.grid_loss 0 c.if-u-eq0.true))

pub returns-else-u-eq0 : goal.returns-else-u-eq0
returns-else-u-eq0 c = let u = c.args.u in sym (ap (λ (b : Bool). cond b u.dc_loss u.grid_loss) (ne_eqb u.grid_loss 0 c.if-u-eq0.false))
