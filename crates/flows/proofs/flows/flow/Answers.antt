-- The code is the definition: the held size charges where the request is below 0 and discharges otherwise. It is at most S, so at most 100,000,000.
use mathlib.Core.Path.{sym, ◌∙◌}
use mir.Syntax.{w32}
use Rattle.whole.proofs.SignLaws.{sign_is}
use Rattle.flows.proofs.FlowLaws.{held_small, move_in, move_out}
use Rattle.flows.proofs.flows.flow.Goals as goal

pub charge-requires : goal.charge-requires
charge-requires c =
    let x = c.args in
    let p = c.held-p in record { ranged = c.requires; p_bound = held_small x.u x.seconds x.request p.result c.ranges.request.sfits p.ensures c.requires }

pub returns-then-request-lt0 : goal.returns-then-request-lt0
returns-then-request-lt0 c =
    let x = c.args in
    let p = c.held-p in
    let below = sym (sign_is w32 x.request c.ranges.request) ∙ c.if-request-lt0.true in
    c.charge.ensures ∙ move_in x.u x.seconds x.request p.result c.ranges.request.sfits p.ensures below

pub discharge-requires : goal.discharge-requires
discharge-requires c =
    let x = c.args in
    let p = c.held-p in record { ranged = c.requires; p_bound = held_small x.u x.seconds x.request p.result c.ranges.request.sfits p.ensures c.requires }

pub returns : goal.returns
returns c =
    let x = c.args in
    let p = c.held-p in
    let above = sym (sign_is w32 x.request c.ranges.request) ∙ c.if-request-lt0.false in
    c.discharge.ensures ∙ move_out x.u x.seconds x.request p.result c.ranges.request.sfits p.ensures above
