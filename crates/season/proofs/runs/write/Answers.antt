-- A site has at most 64 units and 64 inverters, so that a part of each array holds a value for every one, and a part of the vars one for each of both.
use mathlib.Core.Path.{refl, ap₂}
use Prim.Native.Nat.{◌+◌, ◌≤◌}
use native.Mathlib.Nat.{le_trans, le_of_eq, add-le-add}
use native.Mathlib.Omega.{arith}
use Rattle.season.proofs.AnswerLaws.{part_long, few_units, few_roofs}
use Rattle.season.proofs.runs.write.Goals as goal
use Rattle.season.proofs.runs.write.Goals.{After-roofs-m, After-units-n}

-- no more units, and no more inverters, than an array has elements
few : (c : After-units-n) → c.units-n.result ≤ 64
few c = le_trans (le_of_eq c.units-n.ensures) (few_units c.requires.counted)

fewer : (c : After-roofs-m) → c.roofs-m.result ≤ 64
fewer c = le_trans (le_of_eq c.roofs-m.ensures) (few_roofs c.requires.counted)

pub units-n-requires : goal.units-n-requires
units-n-requires c = c.requires.counted.accepted

pub roofs-m-requires : goal.roofs-m-requires
roofs-m-requires c = c.requires.counted.accepted

pub slice_bounds-rows-end : goal.slice_bounds-rows-end
slice_bounds-rows-end c = few (goal.at.slice_bounds-rows-end c).After-units-n

pub slice_bounds-stored-end : goal.slice_bounds-stored-end
slice_bounds-stored-end c = few (goal.at.slice_bounds-stored-end c).After-units-n

pub slice_bounds-requests-end : goal.slice_bounds-requests-end
slice_bounds-requests-end c = few (goal.at.slice_bounds-requests-end c).After-units-n

pub overflow_add-n : goal.overflow_add-n
overflow_add-n c = omega (arith, few (goal.at.overflow_add-n c).After-units-n, fewer (goal.at.overflow_add-n c).After-roofs-m)

pub slice_bounds-vars-end : goal.slice_bounds-vars-end
slice_bounds-vars-end c = omega (arith, few (goal.at.slice_bounds-vars-end c).After-units-n, fewer (goal.at.slice_bounds-vars-end c).After-roofs-m)

pub slice_bounds-on-end : goal.slice_bounds-on-end
slice_bounds-on-end c = fewer (goal.at.slice_bounds-on-end c).After-roofs-m

pub write_with-requires : goal.write_with-requires
write_with-requires c =
    let e = c.units-n.ensures in
    let d = c.roofs-m.ensures in
    let l = few (goal.at.write_with-requires c).After-units-n in
    let m = fewer (goal.at.write_with-requires c).After-roofs-m in record {
      counted = c.requires.counted;
      lengths = record {
        rows_there = part_long _ refl l e;
        stored_there = part_long _ refl l e;
        requests_there = part_long _ refl l e;
        flags_there = part_long _ refl m d;
        vars_there = part_long _ refl (add-le-add l m) (ap₂ ◌+◌ e d);
      };
      file_in_bounds = c.requires.file_in_bounds;
    }

pub shape_of-room : goal.shape_of-room
shape_of-room c = c.write_with.auto.room
