-- The code makes the definition's test of the kind. Assumes nothing.
use mathlib.Core.Path.{◌∙◌}
use lib.ListN.{get_or}
use Rattle.rows.specs.Rows.{no_row}
use Rattle.guided.proofs.RowLaws.{left_idles, left_moves}
use Rattle.guided.proofs.units.left.Goals as goal

pub returns-then-kind-eq-IDLES : goal.returns-then-kind-eq-IDLES
returns-then-kind-eq-IDLES c =
    let a = c.args in
    left_idles (get_or a.units.now a.i no_row) a.kind a.p c.if-kind-eq-IDLES.true

pub returns : goal.returns
returns c =
    let a = c.args in
    c.leg.ensures ∙ left_moves (get_or a.units.now a.i no_row) a.kind a.p c.if-kind-eq-IDLES.false
