-- What holds of a fed run, whatever the file and however it is cut (rules E3 to E8). `fed-law` proves it.
use Rattle.std.specs.Prelude.{ℕ, ◌+◌, ◌<◌, ◌≤◌, Bool, true, false, cond, List, [], ◌∷◌, ◌++◌, ◌≡◌, eqb, length}
use Rattle.octets.specs.BigEndian.{laid}
use Rattle.stick.specs.Check.{start, walk}
use Rattle.chunks.specs.Sizes.{largest_field}
use Rattle.records.specs.Records.{end_of, end_bytes}
use Rattle.season.specs.Run.{result_of}
use Rattle.kept.specs.Kept.{at_start}
use Rattle.kept.specs.Layout.{number_in, place_in, steps_kept, bytes_for, kept_in}
use Rattle.kept.specs.Formed.{well_formed}
use Rattle.taking.specs.Chunk.{results_for}
use Rattle.feed.specs.Answers.{room_for, feed_number, feed_leaves, feed_writes, end_number, end_leaves, end_writes}

-- the bytes of chunks in order
unfoldable pub joined : List (List ℕ) → List ℕ
joined [] = []
joined (c ∷ cs) = c ++ joined cs

-- what a call with room enough writes, and the state after it
unfoldable pub writes : List ℕ → List ℕ → List ℕ
unfolding feed_number room_for results_for kept_in
writes s c = cond (eqb (feed_number s c (room_for s c)) 0) (results_for (kept_in s) c) []

abbrev pub leaves : List ℕ → List ℕ → List ℕ
leaves s c = feed_leaves s c (room_for s c)

-- the results of chunks in order, and the state after them
unfoldable pub results_all : List ℕ → List (List ℕ) → List ℕ
unfolding writes feed_leaves room_for
results_all s [] = []
results_all s (c ∷ cs) = writes s c ++ results_all (leaves s c) cs

unfoldable pub leaves_all : List ℕ → List (List ℕ) → List ℕ
unfolding feed_leaves room_for
leaves_all s [] = s
leaves_all s (c ∷ cs) = leaves_all (leaves s c) cs

-- a file of any size, in any chunks, from the start on
unfoldable pub first : List ℕ
unfolding bytes_for
first = bytes_for at_start

pub record FedLaw (chunks : List (List ℕ)) : Type 0 where
  -- one chunk or many leave the same state, byte for byte
  pub one : leaves_all first chunks ≡ leaves first (joined chunks)
  -- which is a state, with a tail shorter than the largest field
  pub formed : well_formed (leaves_all first chunks) ≡ true
  pub short : length (kept_in (leaves_all first chunks)).tail < largest_field
  -- a file that is accepted, its size aside: the end is too, and the results with the end record are those of the whole run
  pub accepted : (walk (length (joined chunks)) start (joined chunks) 0).number ≡ 0 → end_number (leaves_all first chunks) end_bytes ≡ 0
  pub same_results : (walk (length (joined chunks)) start (joined chunks) 0).number ≡ 0
      → results_all first chunks ++ end_of (kept_in (leaves_all first chunks)).state.steps ≡ result_of (joined chunks)
  -- a file that is refused, its size aside: so is the end, with the same number
  pub refused : ((walk (length (joined chunks)) start (joined chunks) 0).number ≡ 0 → ⊥)
      → end_number (leaves_all first chunks) end_bytes ≡ (walk (length (joined chunks)) start (joined chunks) 0).number
  -- and of either file the end leaves the place and the steps of the whole one
  pub same_place : place_in (end_leaves (leaves_all first chunks) end_bytes) ≡ (walk (length (joined chunks)) start (joined chunks) 0).place
  pub same_steps : steps_kept (end_leaves (leaves_all first chunks) end_bytes) ≡ (walk (length (joined chunks)) start (joined chunks) 0).steps

-- a state that answers every call alike, and stands
pub record Closed (t : List ℕ) (n : ℕ) : Type 0 where
  pub fed_number : (chunk : List ℕ) (room : ℕ) → feed_number t chunk room ≡ n
  pub fed_leaves : (chunk : List ℕ) (room : ℕ) → feed_leaves t chunk room ≡ t
  pub end_number_is : (room : ℕ) → end_number t room ≡ n
  pub end_leaves_is : (room : ℕ) → end_leaves t room ≡ t

-- of any bytes as state, any chunk, any room
pub record CallLaw (s chunk : List ℕ) (room : ℕ) : Type 0 where
  -- 11 leaves the state as it was, and room enough gives what the call would have given
  pub again : feed_number s chunk room ≡ 11 → feed_leaves s chunk room ≡ s
  pub enough : feed_number s chunk room ≡ 11 → (more : ℕ) → room_for s chunk ≤ more → feed_number s chunk more ≡ 0
  pub same_then : feed_number s chunk room ≡ 11 → (more : ℕ) → room_for s chunk ≤ more → feed_leaves s chunk more ≡ feed_leaves s chunk (room_for s chunk)
  pub again_at_end : end_number s room ≡ 11 → end_leaves s room ≡ s
  pub enough_at_end : end_number s room ≡ 11 → (more : ℕ) → end_bytes ≤ more → end_number s more ≡ 0
  -- a refused call writes nothing; any other writes its results at the start of whatever room it has
  pub nothing : (lent : List ℕ) → (feed_number s chunk (length lent) ≡ 0 → ⊥) → feed_writes s chunk lent ≡ lent
  pub nothing_at_end : (lent : List ℕ) → (end_number s (length lent) ≡ 0 → ⊥) → end_writes s lent ≡ lent
  pub written : (lent : List ℕ) → feed_number s chunk (length lent) ≡ 0 → feed_writes s chunk lent ≡ laid lent 0 (writes s chunk)
  -- a state stays one
  pub stays : well_formed s ≡ true → well_formed (feed_leaves s chunk room) ≡ true
  pub stays_at_end : well_formed s ≡ true → well_formed (end_leaves s room) ≡ true
  -- after a refusal, 10 and 11 aside, every call gives the same number and leaves the state, with its place and steps
  pub refused_once : (feed_number s chunk room ≡ 0 → ⊥) → (feed_number s chunk room ≡ 10 → ⊥) → (feed_number s chunk room ≡ 11 → ⊥)
      → Closed (feed_leaves s chunk room) (feed_number s chunk room)
  pub refused_at_end : (end_number s room ≡ 0 → ⊥) → (end_number s room ≡ 10 → ⊥) → (end_number s room ≡ 11 → ⊥) → Closed (end_leaves s room) (end_number s room)
  -- after an accepted end every call is 9 and leaves the state
  pub over : end_number s room ≡ 0 → Closed (end_leaves s room) 9
