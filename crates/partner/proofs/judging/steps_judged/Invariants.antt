-- Each field brings the records of its step into the room. Where the partner has all their bytes in their place, the verdict is the one on what comes behind; where
-- not, the field in which the first other byte lies is the wrong one. At the end field only the end record is left. A field lies within the run file, so the place
-- comes nearer to its end.
use Prim.Native.Nat.{◌+◌, ◌-◌, ◌*◌}
use lib.ListN.{length}
use Rattle.stretch.specs.Posts.{plant_by}
use Rattle.partner.proofs.GoingLaws.{Going}
use Rattle.partner.proofs.judging.steps_judged.Given as goal

abbrev pub invariant-loop-t : goal.invariant-loop-t
invariant-loop-t l =
    Going (plant_by l.t l.rows l.run (length l.initial.on)) l.run l.res (40 * length l.initial.requests + 29 * length l.initial.on) (length l.initial.on) l.stored l.requests l.vars l.on l.room l.w l.at

abbrev pub decreases-loop-t : goal.decreases-loop-t
decreases-loop-t l = length l.run - l.at
