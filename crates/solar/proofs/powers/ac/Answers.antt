-- AC power and the limit both fit 64 bits on the way, and the smaller of them is at most 10^8.
use native.Mathlib.Nat.{lt_of_le_of_lt}
use Prim.Native.Nat.{◌*◌, ◌/◌}
use lib.Dec.{lit<}
use Rattle.solar.proofs.PowerLaws.{limit_small, turned_small, ac_small}
use Rattle.solar.proofs.powers.ac.Goals as goal
use Rattle.solar.proofs.powers.ac.Goals.{Start}

pub overflow_mul-most : goal.overflow_mul-most
overflow_mul-most c =
    let v = c.args.v in
    record { fits = lt_of_le_of_lt (limit_small v.array v.limit c.requires.array_bound c.requires.limit_bound) (lit< tt) }

pub overflow_mul-dc : goal.overflow_mul-dc
overflow_mul-dc c =
    record { fits = lt_of_le_of_lt (turned_small c.args.dc c.args.efficiency c.requires.dc_bound c.requires.efficiency_bound) (lit< tt) }

pub overflow_cast-result : goal.overflow_cast-result
overflow_cast-result c =
    let a = c.args in
    let v = a.v in
    let most =
    ac_small (a.dc * a.efficiency / 10000) v.array v.limit c.min.result c.requires.array_bound c.requires.limit_bound c.min.ensures in
    record { fits = lt_of_le_of_lt most (lit< tt) }
