-- Where its kind is told, what the request is held at is what flows, as of the row's unit, and the vars lie beside it; else the step is worked out. Assumes nothing.
use mathlib.Core.Path.{◌∙◌, ap}
use lib.ListN.{get_or}
use mir.Syntax.{w32}
use Rattle.whole.proofs.SignLaws.{read}
use Rattle.rows.specs.Rows.{no_row}
use Rattle.storage.specs.Posts.{Told}
use Rattle.storage.specs.Step.{step_of}
use Rattle.guided.proofs.RowLaws.{from_ranged, grid_covered, from_few, from_carried, size_fits, from_step}
use Rattle.guided.proofs.units.step_led.Goals as goal
use Rattle.guided.proofs.units.step_led.Goals.{After-held-p, After-kind_of-kind, After-signed32-watts, After-size_by, After-vars, Else-kind-eq-OPEN, Start}

told : (s : Start) → Told s.args.seconds (get_or s.args.units.now s.args.i no_row)
told s = s.requires.rested.told s.args.i s.requires.i_in_bounds

pub kind_of-kind-requires : goal.kind_of-kind-requires
kind_of-kind-requires c =
    let a = c.args in
    let row = get_or a.units.now a.i no_row in
    let few = from_few row a.held a.seconds (told (goal.at.kind_of-kind-requires c).Start) c.requires.ranged a.v c.requires.led_from a.request c.ranges.request.sfits c.held-p.result c.held-p.ensures in record { i_in_bounds = c.requires.i_in_bounds; rested = c.requires.rested; ranged = c.requires.ranged; p_bound = few }

pub step_within-requires : goal.step_within-requires
step_within-requires c =
    let a = c.args in
    from_ranged (get_or a.units.now a.i no_row) a.held a.seconds (told (goal.at.step_within-requires c).Start) c.requires.ranged a.v c.requires.led_from a.request c.ranges.request.sfits c.requires.var_request_bound c.requires.priority_bound

pub returns-then-kind-eq-OPEN : goal.returns-then-kind-eq-OPEN
returns-then-kind-eq-OPEN c =
    let a = c.args in
    c.step_within.ensures ∙ ap (step_of a.v a.seconds) (read w32 a.request c.ranges.request.sfits)

pub size_by-requires : goal.size_by-requires
size_by-requires c =
    let a = c.args in record { i_in_bounds = c.requires.i_in_bounds; grid_loss_bound = grid_covered (get_or a.units.now a.i no_row) a.held a.seconds (told (goal.at.size_by-requires c).Start) c.requires.ranged a.v c.requires.led_from a.request c.ranges.request.sfits }

pub signed32-watts-requires : goal.signed32-watts-requires
signed32-watts-requires c =
    let a = c.args in
    size_fits (get_or a.units.now a.i no_row) a.held a.seconds (told (goal.at.signed32-watts-requires c).Start) c.requires.ranged a.v c.requires.led_from a.request c.ranges.request.sfits c.held-p.result c.held-p.ensures
    _ c.kind_of-kind.result c.kind_of-kind.ensures c.if-kind-eq-OPEN.false c.size_by.result c.size_by.ensures

pub done-requires : goal.done-requires
done-requires c =
    let a = c.args in
    let carried =
    from_carried (get_or a.units.now a.i no_row) a.held a.seconds (told (goal.at.done-requires c).Start) c.requires.ranged a.v c.requires.led_from a.request c.ranges.request.sfits c.held-p.result c.held-p.ensures
    _ c.kind_of-kind.result c.kind_of-kind.ensures c.if-kind-eq-OPEN.false in record { i_in_bounds = c.requires.i_in_bounds; rested = c.requires.rested; ranged = c.requires.ranged; carried = carried }

pub returns : goal.returns
returns c =
    let a = c.args in
    from_step (get_or a.units.now a.i no_row) a.held a.seconds (told (goal.at.returns c).Start) c.requires.ranged a.v c.requires.led_from a.request c.ranges.request.sfits c.held-p.result c.held-p.ensures
    _ c.kind_of-kind.result c.kind_of-kind.ensures c.if-kind-eq-OPEN.false c.size_by.result c.size_by.ensures
    c.signed32-watts.result c.signed32-watts.type_inv c.signed32-watts.ensures c.vars.result c.vars.type_inv c.vars.ensures c.done.result c.done.ensures
