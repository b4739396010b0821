-- What is known of a file that was fed to a state (rule E10): by the bytes of the state, whatever they are; and so by the bytes that were fed, however these were cut. `known-law` proves
-- that the one gives the other.
use Rattle.std.specs.Prelude.{ℕ, ◌≤◌, Bool, true, false, not, cond, ◌&&◌, ◌||◌, List, ◌≡◌, eqb, length}
use Rattle.stick.specs.Check.{Answer, answer, start, walk, refusal_by}
use Rattle.stick.specs.declared.Known.{Known}
use Rattle.stick.specs.declared.Known.TheVariants.{Complete, Refused, NotKnown}
use Rattle.stick.specs.Known.{known_by}
use Rattle.records.specs.Records.{end_bytes}
use Rattle.feed.specs.Answers.{own_number, end_number, end_leaves, place_told, steps_told}
use Rattle.fed.specs.Holds.{joined, leaves_all, first}

-- ---- by the state

-- the run is left as it is: it goes on, and not all of the file was fed
unfoldable pub left : List ℕ → Bool → Bool
unfolding own_number
left s all = not all && eqb (own_number s) 0

-- once it was ended: by the end's number, and by the state after it; bytes that are no state and a short room say nothing of a file
unfoldable pub known_end : ℕ → List ℕ → Known
unfolding place_told steps_told
known_end number s =
    cond (eqb number 0) (Complete (steps_told s))
    (cond (eqb number 10 || eqb number 11) NotKnown (Refused (refusal_by (answer number (place_told s) (steps_told s)))))

unfoldable pub known_in : List ℕ → ℕ → Bool → Known
unfolding left known_end end_number end_leaves
known_in s room all = cond (left s all) NotKnown (known_end (end_number s room) (end_leaves s room))

-- ---- by the bytes that were fed

-- the check's answer over bytes of any number: its size is not looked at where a file is fed (E8)
abbrev pub walked : List ℕ → Answer
walked file = walk (length file) start file 0

-- what the function gives
pub record Knows (s : List ℕ) (room : ℕ) (all : Bool) (k : Known) : Type 0 where
  -- for any bytes
  pub by_state : k ≡ known_in s room all
  -- a state that chunks led to, and room for the end: where all was fed, or a chunk was refused, what is known is the check's answer over the bytes that were fed
  pub by_bytes : (chunks : List (List ℕ)) → s ≡ leaves_all first chunks → end_bytes ≤ room → left s all ≡ false → k ≡ known_by (walked (joined chunks))
  -- and complete is said of nothing else: all was fed, and the check accepts it with these steps
  pub complete : (chunks : List (List ℕ)) (steps : ℕ) → s ≡ leaves_all first chunks → k ≡ Complete steps
      → (all ≡ true) × (walked (joined chunks) ≡ answer 0 (length (joined chunks)) steps)
