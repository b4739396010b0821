-- Request and share never wrap in 64 bits; their sum goes in the direction of the mode, for either mode by itself.
use mathlib.Core.Bool.{true, false}
use Rattle.whole.proofs.SignLaws.{wide_fits}
use Rattle.rules.proofs.RuleLaws.{sum_fits, after_is}
use Rattle.rules.proofs.rules.request_after.Goals as goal

pub overflow_cast-z : goal.overflow_cast-z
overflow_cast-z c = wide_fits c.args.request c.ranges.request.sfits

pub overflow_add-z : goal.overflow_add-z
overflow_add-z c = let a = c.args in sum_fits a.charging a.rating a.request a.share c.requires.share_bound c.ranges.request.sfits

pub returns-then-charging : goal.returns-then-charging
returns-then-charging c =
    let a = c.args in
    after_is a.charging a.rating a.request a.share c.requires.share_bound c.ranges.request.sfits true c.if-charging.true c.directed.result c.directed.type_inv c.directed.ensures

pub returns : goal.returns
returns c =
    let a = c.args in
    after_is a.charging a.rating a.request a.share c.requires.share_bound c.ranges.request.sfits false c.if-charging.false c.directed-2.result c.directed-2.type_inv c.directed-2.ensures
