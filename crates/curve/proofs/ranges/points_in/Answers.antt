-- The count is tested first, and where it is 2 to 16 each point.
use borrow.Author.Rules.{rules}
use Rattle.curve.proofs.RangeTests.{points_out, points_each, count_few}
use mathlib.Core.Path.{ap}
use mathlib.Core.Bool.{not}
use Rattle.curve.proofs.ranges.points_in.Goals as goal

pub returns-then-not-n : goal.returns-then-not-n
returns-then-not-n c =
    let a = c.args in
    points_out a.b a.bytes.now a.place c.count-n.result c.count-n.ensures (ap not c.if-not-n.true)

pub each_in-requires : goal.each_in-requires
each_in-requires c = record { curve_bytes_in_bounds = search rules; n_bound = count_few c.count-n.result (ap not c.if-not-n.false) }

pub returns : goal.returns
returns c =
    let a = c.args in
    points_each a.b a.bytes.now a.place c.count-n.result c.count-n.ensures (ap not c.if-not-n.false) c.each_in.result c.each_in.ensures
