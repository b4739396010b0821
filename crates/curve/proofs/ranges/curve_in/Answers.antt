-- Where the points are as they must be they are at most 16, so the places past them lie in the bytes.
use borrow.Author.Rules.{rules}
use borrow.Author.Tests.{not-true, not-false}
use mathlib.Core.Path.{sym, ◌∙◌, ap}
use native.Mathlib.Omega.{arith}
use Rattle.curve.proofs.RangeTests.{curve_out, curve_rest, points_few}
use mathlib.Core.Bool.{not}
use Rattle.curve.proofs.ranges.curve_in.Goals as goal

pub returns-then-not-points_in : goal.returns-then-not-points_in
returns-then-not-points_in c =
    let a = c.args in
    curve_out a.b a.bytes.now a.place (sym c.points_in.ensures ∙ not-true c.points_in.result (ap not c.if-not-points_in.true))

pub rest_in-requires : goal.rest_in-requires
rest_in-requires c =
    let a = c.args in
    let few = points_few a.b a.bytes.now a.place (sym c.points_in.ensures ∙ not-false c.points_in.result (ap not c.if-not-points_in.false)) in record { curve_bytes_in_bounds = search rules; n_bound = omega (arith, c.count-n.ensures) }

pub returns : goal.returns
returns c =
    let a = c.args in
    curve_rest a.b a.bytes.now a.place (sym c.points_in.ensures ∙ not-false c.points_in.result (ap not c.if-not-points_in.false))
    c.count-n.result c.count-n.ensures c.rest_in.result c.rest_in.ensures
