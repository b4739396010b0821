-- A site has at most 64 units and 64 inverters, so that a part of each array holds a value for every one, a part of the vars one for each of both, and a part of the room the records of a step.
use mathlib.Core.Path.{refl, ap₂}
use Prim.Native.Nat.{◌+◌, ◌*◌, ◌≤◌}
use native.Mathlib.Nat.{le_trans, le_of_eq, add-le-add, mul-le-mul_left}
use native.Mathlib.Omega.{arith}
use Rattle.stretch.proofs.SiteLaws.{few_units, few_roofs}
use Rattle.season.proofs.AnswerLaws.{part_long, all_bytes_lem}
use Rattle.partner.proofs.judging.judged.Goals as goal
use Rattle.partner.proofs.judging.judged.Goals.{After-roofs-m, After-units-n, Start}

-- no more units, and no more inverters, than an array has elements
few : (c : After-units-n) → c.units-n.result ≤ 64
few c = le_trans (le_of_eq c.units-n.ensures) (few_units c.args.run.now c.requires)

fewer : (c : After-roofs-m) → c.roofs-m.result ≤ 64
fewer c = le_trans (le_of_eq c.roofs-m.ensures) (few_roofs c.args.run.now c.requires)

few_bytes : (c : After-roofs-m) → 40 * c.units-n.result + 29 * c.roofs-m.result ≤ 4416
few_bytes c = add-le-add (mul-le-mul_left 40 (few (record { before = c.before.before; type_inv = record { res = c.shared_slice_known-2-1.given; run = c.shared_slice_known-1.given } }))) (mul-le-mul_left 29 (fewer c))

pub slice_bounds-rows-end : goal.slice_bounds-rows-end
slice_bounds-rows-end c = few (goal.at.slice_bounds-rows-end c).After-units-n

pub slice_bounds-stored-end : goal.slice_bounds-stored-end
slice_bounds-stored-end c = few (goal.at.slice_bounds-stored-end c).After-units-n

pub slice_bounds-requests-end : goal.slice_bounds-requests-end
slice_bounds-requests-end c = few (goal.at.slice_bounds-requests-end c).After-units-n

pub overflow_add-n : goal.overflow_add-n
overflow_add-n c = omega (arith, few (goal.at.overflow_add-n c).After-units-n, fewer (goal.at.overflow_add-n c).After-roofs-m)

pub slice_bounds-vars-end : goal.slice_bounds-vars-end
slice_bounds-vars-end c = omega (arith, few (goal.at.slice_bounds-vars-end c).After-units-n, fewer (goal.at.slice_bounds-vars-end c).After-roofs-m)

pub slice_bounds-on-end : goal.slice_bounds-on-end
slice_bounds-on-end c = fewer (goal.at.slice_bounds-on-end c).After-roofs-m

pub overflow_mul-n : goal.overflow_mul-n
overflow_mul-n c = omega (arith, few (goal.at.overflow_mul-n c).After-units-n)

pub overflow_mul-m : goal.overflow_mul-m
overflow_mul-m c = omega (arith, fewer (goal.at.overflow_mul-m c).After-roofs-m)

pub overflow_add-n-2 : goal.overflow_add-n-2
overflow_add-n-2 c = omega (arith, few (goal.at.overflow_add-n-2 c).After-units-n, fewer (goal.at.overflow_add-n-2 c).After-roofs-m)

pub slice_bounds-room-end : goal.slice_bounds-room-end
slice_bounds-room-end c = few_bytes (goal.at.slice_bounds-room-end c).After-roofs-m

pub judged_with-requires : goal.judged_with-requires
judged_with-requires c =
    let e = c.units-n.ensures in
    let d = c.roofs-m.ensures in
    let l = few (goal.at.judged_with-requires c).After-units-n in
    let m = fewer (goal.at.judged_with-requires c).After-roofs-m in record {
      accepted = c.requires;
      lengths = record {
        rows_there = part_long _ refl l e;
        stored_there = part_long _ refl l e;
        requests_there = part_long _ refl l e;
        flags_there = part_long _ refl m d;
        vars_there = part_long _ refl (add-le-add l m) (ap₂ ◌+◌ e d);
      };
      room_len = part_long _ refl (few_bytes (goal.at.judged_with-requires c).After-roofs-m) (all_bytes_lem c.args.run.now e d);
    }
