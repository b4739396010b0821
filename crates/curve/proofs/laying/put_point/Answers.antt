-- The y is laid right behind the x.
use Rattle.curve.proofs.LayLaws.{point_laid}
use Rattle.curve.proofs.laying.put_point.Goals as goal

pub returns : goal.returns
returns c =
    let a = c.args in
    point_laid a.room.now c.put_i32.new.s c.put_i32-2.new.s a.i a.x a.y c.ranges.x.sfits c.ranges.y.sfits
    c.put_i32.ensures c.put_i32-2.ensures
