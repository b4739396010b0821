-- The size is divided and the sign put back, which is what cutting toward zero means; the quotient is no larger than z, so it fits.
use mir.Syntax.{w64}
use Rattle.whole.proofs.QuotientLaws.{cut_none, cut_fits, cut_is}
use Rattle.whole.proofs.quotients.cut.Goals as goal

pub returns-then-b-eq0 : goal.returns-then-b-eq0
returns-then-b-eq0 c = cut_none c.args.z c.args.b c.if-b-eq0.true

pub signed64-requires : goal.signed64-requires
signed64-requires c =
    let s = c.before.before.before in
    cut_fits w64 s.args.z s.args.b s.ranges.z c.below_zero64.result c.unsigned_abs.result c.below_zero64.ensures c.unsigned_abs.ensures.value

pub returns : goal.returns
returns c =
    let s = c.before.before.before.before in
    let sign = c.below_zero64 in
    let size = c.unsigned_abs in
    cut_is w64 s.args.z s.args.b s.ranges.z sign.result size.result sign.ensures size.ensures.value c.signed64.result c.signed64.type_inv c.signed64.ensures
