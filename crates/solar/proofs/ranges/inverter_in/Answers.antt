-- The code is the definition, test by test.
use mathlib.Core.Path.{◌≡◌}
use lib.IntN.{nat_abs}
use Rattle.whole.proofs.SignLaws.{sized}
use Rattle.solar.specs.Roof.{inverter_in}
use Rattle.solar.proofs.ranges.inverter_in.Goals as goal
use Rattle.solar.proofs.ranges.inverter_in.Goals.{After-unsigned_abs-vars, After-struct_told-1}

pub returns : goal.returns
unfolding inverter_in
returns c =
    let v = c.args.v in
    let size : c.unsigned_abs-vars.result ≡ nat_abs v.var_request =
    sized v.var_request c.unsigned_abs-vars.result c.struct_told-1.given.1.1.1.1.1.0.1 c.unsigned_abs-vars.ensures.value in
    cc size
