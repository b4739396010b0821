-- What a run answers for any bytes and any room, and what the room holds afterwards (rules N14, N16, N17 and O6): the check's refusal, or 11 where the
-- room is shorter than the result, and then the room as it was; or the result, followed by what the room held past it.
use Rattle.std.specs.Prelude.{ℕ, cond, List, ◌++◌, ltb, eqb, length, drop}
use Rattle.stick.specs.Check.{Answer, answer, check_of}
use Rattle.stick.specs.Site.{plant_of, steps_of}
use Rattle.season.specs.Run.{result_of, needed_by}

-- the bytes of a file's result
unfoldable pub needed : List ℕ → ℕ
unfolding plant_of steps_of
needed file = needed_by (plant_of file) (length (steps_of file))

-- what the room is asked: nothing for a file that the check refuses
unfoldable pub room_of : List ℕ → ℕ
unfolding check_of needed
room_of file = cond (eqb (check_of file).number 0) (needed file) 0

-- 11 comes after the whole file is accepted; its place is the file's length, and all steps count
unfoldable pub run_answer : List ℕ → ℕ → Answer
unfolding check_of needed
run_answer file room =
    let short = answer 11 (length file) (check_of file).steps in
    cond (eqb (check_of file).number 0) (cond (ltb room (needed file)) short (check_of file)) (check_of file)

unfoldable pub run_leaves : List ℕ → List ℕ → List ℕ
unfolding run_answer needed result_of
run_leaves file room =
    let written = result_of file ++ drop (needed file) room in
    cond (eqb (run_answer file (length room)).number 0) written room
