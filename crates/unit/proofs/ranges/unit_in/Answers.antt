-- The code is the definition, test by test.
use mathlib.Core.Path.{◌≡◌}
use lib.IntN.{nat_abs}
use Rattle.whole.proofs.SignLaws.{sized}
use Rattle.unit.specs.Ranges.{unit_in}
use Rattle.unit.proofs.ranges.unit_in.Goals as goal

pub returns : goal.returns
unfolding unit_in
returns c =
    let d = c.before.before.before.before.before.before.before.before.before.before.before.before.before.before in
    let v = d.before in
    let t = v.before in
    let m = t.before in
    let u = m.args.u in
    let size : v.unsigned_abs-vars.result ≡ nat_abs u.var_request = sized u.var_request v.unsigned_abs-vars.result t.struct_told-1.given.1.1.1.1.1.1.0.1 v.unsigned_abs-vars.ensures.value in
    cc (size, d.idle_draw-draw.ensures, m.member_in-member.ensures)
