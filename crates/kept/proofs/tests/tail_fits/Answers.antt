-- No tail fits; after the end field none does; else its header and its length are those of a field that is not all there.
use Rattle.kept.proofs.FitLaws.{tail_none, tail_over, tail_head}
use Rattle.kept.proofs.tests.tail_fits.Goals as goal
use Rattle.kept.proofs.tests.tail_fits.Goals.{Else-st-eq-AT_END, Else-tail-eq0}

pub returns-then-tail-eq0 : goal.returns-then-tail-eq0
returns-then-tail-eq0 c = let a = c.args in tail_none a.st a.tail.now c.if-tail-eq0.true

pub returns-then-st-eq-AT_END : goal.returns-then-st-eq-AT_END
returns-then-st-eq-AT_END c =
    let a = c.args in
    tail_over a.st a.tail.now c.if-tail-eq0.false c.if-st-eq-AT_END.true

pub returns : goal.returns
returns c =
    let a = c.args in
    tail_head a.st a.tail.now c.head.result c.if-tail-eq0.false c.if-st-eq-AT_END.false c.head.ensures
