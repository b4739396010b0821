-- The bytes that stand in the field's place are as many as its size, or as the result still has; the test is the definition's own.
use Rattle.partner.proofs.PlacesLaws.{none_there, some_there}
use Rattle.partner.proofs.places.wrong.Goals as goal

pub returns-then-there-eq0 : goal.returns-then-there-eq0
returns-then-there-eq0 c =
    let a = c.args in
    none_there a.run.now a.place a.len a.start a.size c.min-there.result c.min-there.ensures c.if-there-eq0.true c.u16_at.result c.u16_at.ensures

pub returns : goal.returns
returns c =
    let a = c.args in
    some_there a.run.now a.place a.len a.start a.size c.min-there.result c.min-there.ensures c.if-there-eq0.false
