-- DC power of values in their ranges stays below 2 * 10^17 on the way.
use native.Mathlib.Nat.{lt_of_le_of_lt}
use lib.Dec.{lit<}
use Rattle.solar.proofs.PowerLaws.{light_most, warmed_most}
use Rattle.solar.proofs.powers.dc.Goals as goal

pub overflow_mul-result : goal.overflow_mul-result
overflow_mul-result c =
    let a = c.args in
    record { fits = lt_of_le_of_lt (light_most a.array a.irradiance a.factor c.requires.array_bound c.requires.irradiance_bound) (lit< tt) }

pub overflow_mul-result-2 : goal.overflow_mul-result-2
overflow_mul-result-2 c =
    let a = c.args in
    record { fits = lt_of_le_of_lt (warmed_most a.array a.irradiance a.factor c.requires.array_bound c.requires.irradiance_bound c.requires.factor_bound) (lit< tt) }
