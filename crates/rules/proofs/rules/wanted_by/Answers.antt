-- Each value is the definition's, at the measure that is read back.
use mathlib.Core.Path.{ap, ◌∙◌}
use mathlib.Core.Bool.{Bool, cond}
use mir.Syntax.{w64}
use Rattle.whole.proofs.SignLaws.{read}
use Rattle.rules.specs.Rules.{plain_need}
use Rattle.rules.specs.Posts.{wanted_by}
use Rattle.rules.proofs.rules.wanted_by.Goals as goal

pub returns : goal.returns
unfolding wanted_by
returns c =
    let m = read w64 c.args.measure c.ranges.measure.sfits in
    let plain = read w64 c.plain_need.result c.plain_need.type_inv ∙ c.plain_need.ensures ∙ ap (plain_need c.args.s) m in
    let other = c.in_other_state.ensures ∙ ap (λ (b : Bool). cond b c.args.a.above c.args.a.below) c.charges.ensures in
    cc (plain, other, read w64 c.args.a.sum c.struct_told-1.given.0.1)
