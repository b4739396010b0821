-- The stores are the rows' own, every request is cleared, and the vars are the units' own.
use mathlib.Core.Path.{sym, ◌∙◌}
use Rattle.rows.specs.Rows.{stores_by}
use Rattle.rows.proofs.RowLaws.{units_count}
use Rattle.fleet.specs.Step.{at_first}
use Rattle.fleet.proofs.SiteLaws.{zeros}
use Rattle.fleet.proofs.units.start.Goals as goal
use Rattle.fleet.proofs.units.start.Goals.{After-clear, After-own_vars, After-stores, Start}

pub returns : goal.returns
unfolding at_first stores_by
returns c =
    let e = zeros c.args.requests.now _ (c.requires.requests_len ∙ sym (units_count c.args.units.now)) in
    cc (c.stores.ensures, c.clear.ensures.requests_after, e, c.own_vars.ensures)
