-- Below three bytes nothing is there; else the place is compared with what is left, which cannot wrap.
use native.Mathlib.Omega.{arith}
use Rattle.parts.proofs.PartLaws.{head_short, head_by_place}
use Rattle.parts.proofs.parts.head_there.Goals as goal

pub returns-then-size-lt3 : goal.returns-then-size-lt3
returns-then-size-lt3 c = let a = c.args in head_short a.size a.place (omega arith)

pub returns : goal.returns
returns c = let a = c.args in head_by_place a.size a.place (omega arith)
