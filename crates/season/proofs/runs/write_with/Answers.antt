-- A run sets out from what stands at first, and along the stretch of the file's steps, to the file's end, all their records are laid; behind them comes the end record, and the result is whole.
use mathlib.Core.Path.{sym, ap, ◌∙◌}
use Prim.Native.Nat.{ℕ, ◌+◌, ◌*◌}
use native.Mathlib.Nat.{le_trans, le_of_eq}
use native.Mathlib.Omega.{arith}
use lib.ListN.{length}
use mir.Facts.{Fits-le, Fits-lit}
use Rattle.season.proofs.AnswerLaws.{few_units, few_roofs, few_bytes, all_bytes_lem, bytes_needed}
use Rattle.season.proofs.StepsLaws.{goes, all_written}
use Rattle.season.proofs.runs.write_with.Goals as goal
use Rattle.season.proofs.runs.write_with.Goals.{After-along, After-put_end, After-put_end-arg-1, After-set_out-arg-5-1, After-set_out-t, Start}

-- where the function starts, where a run has set out, and where its steps are done
abbrev start : After-set_out-t → Start
start o = o.before.before.before.before.before.before.before.before.before.before.before

abbrev away : After-along → After-set_out-t
away w = (record { before = w.before.before.before.before.before.before.before.before.before.before.before.before.before.before; type_inv = record { room = w.slice_known-3-1.given; file = w.shared_slice_known-1.given } })

abbrev done : After-put_end-arg-1 → After-along
done e = (record { before = e.before.before.before.before.before.before.before.before.before.before; type_inv = record { file = e.shared_slice_known-1.given } })

pub overflow_mul-size : goal.overflow_mul-size
overflow_mul-size c = omega (arith, c.requires.lengths.requests_there, few_units c.requires.counted)

pub overflow_mul-size-2 : goal.overflow_mul-size-2
overflow_mul-size-2 c = omega (arith, c.requires.lengths.flags_there, few_roofs c.requires.counted)

pub overflow_add-size : goal.overflow_add-size
overflow_add-size c = omega (arith, c.requires.lengths.requests_there, few_units c.requires.counted, c.requires.lengths.flags_there, few_roofs c.requires.counted)

pub set_out-t-requires : goal.set_out-t-requires
set_out-t-requires c = record { accepted = c.requires.counted.accepted; lengths = c.requires.lengths }

pub along-requires : goal.along-requires
along-requires c =
    let out = c.set_out-t.ensures in let rest = goes (start (goal.at.along-requires c).After-set_out-t).requires.counted out (length (start (goal.at.along-requires c).After-set_out-t).args.room.now) (start (goal.at.along-requires c).After-set_out-t).requires.file_in_bounds in record { planted = out.planted; holding = out.held; at_in_bounds = rest.0; steps_there = rest.1.0; shining = rest.1.1.0; at_bound = rest.1.1.1.0; at_in_bounds_2 = rest.1.1.1.1 }

pub overflow_mul-size-3 : goal.overflow_mul-size-3
overflow_mul-size-3 c = Fits-le (few_bytes (start (away (done c))).requires.counted (start (away (done c))).requires.lengths.requests_there (start (away (done c))).requires.lengths.flags_there) (Fits-lit tt)

pub put_end-requires : goal.put_end-requires
put_end-requires c =
    le_trans (le_of_eq (bytes_needed (start (away (done c))).requires.counted (start (away (done c))).requires.lengths.requests_there (start (away (done c))).requires.lengths.flags_there)) (le_trans (start (away (done c))).requires.file_in_bounds (le_of_eq (sym (done c).along.auto.room)))

-- the rows are as many as they were set out; each other list is as long as along the steps, and before
pub shape_of-rows : goal.shape_of-rows
shape_of-rows c = (away (done (goal.at.shape_of-rows c).After-put_end-arg-1)).set_out-t.auto.rows

pub shape_of-stored : goal.shape_of-stored
shape_of-stored c = let w = done (goal.at.shape_of-stored c).After-put_end-arg-1 in w.along.auto.stored ∙ (away w).set_out-t.auto.stored

pub shape_of-requests : goal.shape_of-requests
shape_of-requests c = let w = done (goal.at.shape_of-requests c).After-put_end-arg-1 in w.along.auto.requests ∙ (away w).set_out-t.auto.requests

pub shape_of-vars : goal.shape_of-vars
shape_of-vars c = let w = done (goal.at.shape_of-vars c).After-put_end-arg-1 in w.along.auto.vars ∙ (away w).set_out-t.auto.vars

pub shape_of-on : goal.shape_of-on
shape_of-on c = let w = done (goal.at.shape_of-on c).After-put_end-arg-1 in w.along.auto.on ∙ (away w).set_out-t.auto.on

pub shape_of-room : goal.shape_of-room
shape_of-room c = c.put_end.auto.room ∙ (done (goal.at.shape_of-room c).After-put_end-arg-1).along.auto.room

pub returns : goal.returns
returns c =
    let w = done (goal.at.returns c).After-put_end-arg-1 in
    let o = away w in
    let a = (start o).args in
    all_written (start o).requires.counted o.set_out-t.ensures a.room.now w.along.new.room c.put_end.new.room ((40 * length a.requests.now + 29 * length a.on.now) * a.count)
    (ap (λ (k : ℕ). k * a.count) (all_bytes_lem a.file.now (start o).requires.lengths.requests_there (start o).requires.lengths.flags_there)) w.along.ensures.room_after c.put_end.ensures
