-- The share has the size that the need's gives, and the need's sign; a quotient that is cut toward zero has just these.
use native.Mathlib.Omega.{arith}
use Rattle.rules.proofs.RuleLaws.{share_none, size_upto, share_fits, share_is}
use Rattle.rules.proofs.rules.share.Goals as goal

pub returns-then-weights-eq0 : goal.returns-then-weights-eq0
returns-then-weights-eq0 c = let a = c.args in let p = c.requires in share_none a.factor a.need a.weight a.weights p.need_bound p.factor_bound p.weight_bound c.if-weights-eq0.true

pub share_size-size-requires : goal.share_size-size-requires
share_size-size-requires c =
    let a = c.args in
    let p = c.requires in record { size_bound = size_upto a.factor a.need a.weight a.weights p.need_bound p.factor_bound p.weight_bound c.unsigned_abs.result c.unsigned_abs.ensures.value; factor_bound = p.factor_bound; weight_bound = p.weight_bound; le_weights = omega (arith, c.if-weights-eq0.false); weights_bound = p.weights_bound }

pub signed64-requires : goal.signed64-requires
signed64-requires c =
    let a = c.args in
    let p = c.requires in
    share_fits a.factor c.unsigned_abs.result a.weight a.weights
    (size_upto a.factor a.need a.weight a.weights p.need_bound p.factor_bound p.weight_bound c.unsigned_abs.result c.unsigned_abs.ensures.value) p.factor_bound p.weight_bound
    c.below_zero64.result c.share_size-size.result c.share_size-size.ensures

pub returns : goal.returns
returns c =
    let a = c.args in
    let p = c.requires in
    share_is a.factor a.need a.weight a.weights p.need_bound p.factor_bound p.weight_bound c.unsigned_abs.result c.unsigned_abs.ensures.value c.below_zero64.result c.below_zero64.ensures
    c.share_size-size.result c.share_size-size.ensures c.signed64.result c.signed64.type_inv c.signed64.ensures
