-- Each return is the arm of the definition that its test leads to.
use native.Mathlib.Omega.{arith}
use Rattle.solar.proofs.PowerLaws.{part_fits, on_above, off_below, as_it_was}
use Rattle.solar.proofs.powers.on_after.Goals as goal

pub overflow_mul-v : goal.overflow_mul-v
overflow_mul-v c = let v = c.args.v in record { fits = part_fits v.cut_in v.kva (omega arith) (omega arith) }

pub returns-then-v-s : goal.returns-then-v-s
returns-then-v-s c = let a = c.args in on_above a.v a.on a.dc c.if-v-s.true

pub overflow_mul-v-2 : goal.overflow_mul-v-2
overflow_mul-v-2 c = let v = c.args.v in record { fits = part_fits v.cut_out v.kva (omega arith) (omega arith) }

pub returns-then-power-v : goal.returns-then-power-v
returns-then-power-v c = let a = c.args in off_below a.v a.on a.dc c.if-v-s.false c.if-power-v.true

pub returns : goal.returns
returns c = let a = c.args in as_it_was a.v a.on a.dc c.if-v-s.false c.if-power-v.false
