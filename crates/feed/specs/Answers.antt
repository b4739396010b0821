-- What the calls of a fed run answer for any bytes, and what state and room hold afterwards (rules E2 to E7): a state that is none, 10; a run that was
-- refused or is over, its own number; a fault; 11 where the room is too short; or 0. What is not said to change stands.
use Rattle.std.specs.Prelude.{ℕ, ◌+◌, ◌-◌, not, cond, ◌&&◌, List, leb, ltb, eqb, length, Err, Ok, Result}
use Rattle.octets.specs.BigEndian.{laid}
use Rattle.fields.specs.Fields.{at_end}
use Rattle.records.specs.Records.{end_of, end_bytes}
use Rattle.kept.specs.Kept.{Kept, at_start}
use Rattle.kept.specs.Layout.{state_size, number_in, place_in, steps_kept, bytes_for, stopped_bytes, kept_in}
use Rattle.kept.specs.Formed.{well_formed, is_open}
use Rattle.taking.specs.Chunk.{gone_by, fed_by, results_for}

-- an answer as it is given, by its number: the bytes written, or the number of the refusal
abbrev pub written_by : ℕ → ℕ → Result ℕ ℕ
written_by number bytes = cond (eqb number 0) (Ok bytes) (Err number)

-- what a state answers before its call is looked at: 0 where the run goes on
unfoldable pub own_number : List ℕ → ℕ
unfolding well_formed
own_number s = cond (well_formed s) (number_in s) 10

-- ---- starting
abbrev pub start_number : List ℕ → ℕ
start_number s = cond (eqb (length s) state_size) 0 10

unfoldable pub start_leaves : List ℕ → List ℕ
unfolding bytes_for
start_leaves s = cond (eqb (length s) state_size) (bytes_for at_start) s

-- ---- a chunk

-- a field whose bytes are not all there is no fault
unfoldable pub fault_of : Kept → List ℕ → ℕ
unfolding gone_by
fault_of k chunk = let n = (gone_by k chunk).number in cond (leb n 1) 0 n

-- the bytes that its records need, nothing for a call that is refused
unfoldable pub room_for : List ℕ → List ℕ → ℕ
unfolding is_open fault_of results_for kept_in
room_for s chunk = cond (is_open s && eqb (fault_of (kept_in s) chunk) 0) (length (results_for (kept_in s) chunk)) 0

unfoldable pub feed_number : List ℕ → List ℕ → ℕ → ℕ
unfolding own_number fault_of room_for kept_in
feed_number s chunk room =
    cond (not (eqb (own_number s) 0)) (own_number s)
    (cond (not (eqb (fault_of (kept_in s) chunk) 0)) (fault_of (kept_in s) chunk) (cond (ltb room (room_for s chunk)) 11 0))

-- a fault's place is that of its field in the whole file
unfoldable pub fault_leaves : Kept → List ℕ → List ℕ
unfolding gone_by stopped_bytes
fault_leaves k chunk = let r = gone_by k chunk in stopped_bytes r.number (k.place - length k.tail + r.at) r.state.steps

unfoldable pub feed_leaves : List ℕ → List ℕ → ℕ → List ℕ
unfolding is_open fault_of fault_leaves feed_number bytes_for fed_by kept_in
feed_leaves s chunk room =
    cond (is_open s)
    (cond (eqb (fault_of (kept_in s) chunk) 0) (cond (eqb (feed_number s chunk room) 0) (bytes_for (fed_by (kept_in s) chunk)) s) (fault_leaves (kept_in s) chunk))
    s

unfoldable pub feed_writes : List ℕ → List ℕ → List ℕ → List ℕ
unfolding feed_number results_for kept_in laid
feed_writes s chunk room = cond (eqb (feed_number s chunk (length room)) 0) (laid room 0 (results_for (kept_in s) chunk)) room

-- ---- the end
unfoldable pub end_fault : Kept → ℕ
end_fault k = cond (not (eqb (length k.tail) 0)) 1 (cond (eqb k.state.stage at_end) 0 8)

unfoldable pub end_number : List ℕ → ℕ → ℕ
unfolding own_number end_fault kept_in
end_number s room =
    cond (not (eqb (own_number s) 0)) (own_number s)
    (cond (not (eqb (end_fault (kept_in s)) 0)) (end_fault (kept_in s)) (cond (ltb room end_bytes) 11 0))

-- once it is accepted the run is over: any call is 9 at the file's length
unfoldable pub end_leaves : List ℕ → ℕ → List ℕ
unfolding is_open end_fault end_number stopped_bytes kept_in
end_leaves s room =
    let k = kept_in s in
    let over = stopped_bytes 9 k.place k.state.steps in
    let refused = stopped_bytes (end_fault k) (k.place - length k.tail) k.state.steps in
    cond (is_open s) (cond (eqb (end_fault k) 0) (cond (eqb (end_number s room) 0) over s) refused) s

unfoldable pub end_writes : List ℕ → List ℕ → List ℕ
unfolding end_number end_of kept_in laid
end_writes s room = cond (eqb (end_number s (length room)) 0) (laid room 0 (end_of (kept_in s).state.steps)) room

-- ---- what a state tells
unfoldable pub place_told : List ℕ → ℕ
unfolding well_formed
place_told s = cond (well_formed s) (place_in s) 0

unfoldable pub steps_told : List ℕ → ℕ
unfolding well_formed
steps_told s = cond (well_formed s) (steps_kept s) 0
