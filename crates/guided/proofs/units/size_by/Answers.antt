-- The code makes the definition's test of the kind, and the row's draw is at least the loss at the grid. Assumes nothing.
use lib.ListN.{get_or}
use Rattle.rows.specs.Rows.{no_row}
use Rattle.guided.proofs.RowLaws.{size_idles, size_moves}
use Rattle.guided.proofs.units.size_by.Goals as goal

pub returns-then-kind-eq-IDLES : goal.returns-then-kind-eq-IDLES
returns-then-kind-eq-IDLES c =
    let a = c.args in
    size_idles (get_or a.units.now a.i no_row) a.kind a.p c.if-kind-eq-IDLES.true

pub returns : goal.returns
returns c = let a = c.args in size_moves (get_or a.units.now a.i no_row) a.kind a.p c.if-kind-eq-IDLES.false
