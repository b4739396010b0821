-- Each value is the unit's own, but for the limits.
use mir.Syntax.{w32}
use Rattle.whole.proofs.SignLaws.{read}
use Rattle.unit.specs.Ranges.{in_edition}
use Rattle.unit.proofs.ranges.in_edition.Goals as goal

pub returns : goal.returns
unfolding in_edition
returns c =
    let g = c.before in
    let q = g.before in
    let p = q.before in
    let d = p.before in
    let u = d.args.u in
    cc (g.grid_in.ensures, q.limit_in-2.ensures, p.limit_in.ensures, d.direct_in.ensures, read w32 u.var_request c.struct_told-1.given.1.1.1.1.1.1.0.1)
