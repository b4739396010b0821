-- Each arm makes the number of its sign: the size itself, 0, or -1 - (size - 1), which never wraps.
use mir.Syntax.{w32}
use Rattle.whole.proofs.SignLaws.{up_cast, up_is, none_is, down_cast, down_sub, down_is}
use mathlib.Core.Path.{ap}
use mathlib.Core.Bool.{not}
use Rattle.whole.proofs.sign.signed32.Goals as goal

pub overflow_cast-result : goal.overflow_cast-result
overflow_cast-result c = let a = c.args in up_cast w32 a.negative a.size (ap not c.if-not-negative.true) c.requires

pub returns-then-not-negative : goal.returns-then-not-negative
returns-then-not-negative c = let a = c.args in up_is w32 a.negative a.size (ap not c.if-not-negative.true) c.requires

pub returns-then-size-eq0 : goal.returns-then-size-eq0
returns-then-size-eq0 c = let a = c.args in none_is a.negative a.size (ap not c.if-not-negative.false) c.if-size-eq0.true

pub overflow_cast-result-2 : goal.overflow_cast-result-2
overflow_cast-result-2 c = let a = c.args in down_cast w32 a.negative a.size (ap not c.if-not-negative.false) c.requires c.if-size-eq0.false

pub overflow_sub-result-2 : goal.overflow_sub-result-2
overflow_sub-result-2 c = let a = c.args in down_sub w32 a.negative a.size (ap not c.if-not-negative.false) c.requires c.if-size-eq0.false

pub returns : goal.returns
returns c = let a = c.args in down_is w32 a.negative a.size (ap not c.if-not-negative.false) c.requires c.if-size-eq0.false
