-- What holds of every verdict on an accepted run file (rules J8 to J10). `verdict-law` proves it.
use Rattle.std.specs.Prelude.{ℕ, ◌+◌, ◌-◌, ◌<◌, min, List, [], ◌∷◌, ◌++◌, ◌≡◌, length, take, drop}
use Rattle.parts.specs.Header.{past}
use Rattle.stick.specs.Check.{Accepted}
use Rattle.season.specs.Run.{result_of}
use Rattle.partner.specs.declared.Verdict.{Verdict}
use Rattle.partner.specs.Verdict.{Field, fields_of, right, their_bytes, our_field, verdict_of}

-- the bytes of these fields
unfoldable pub bytes_before : List Field → ℕ
bytes_before [] = 0
bytes_before (w ∷ ws) = w.size + bytes_before ws

-- a field of our result, behind others
pub record FieldOf (run : List ℕ) (before : List Field) (w : Field) (behind : List Field) : Type 0 where
  pub among : before ++ w ∷ behind ≡ fields_of run

-- J9: what a verdict that is not right shows
pub data Wrong (run result : List ℕ) : Verdict → Type 0 where
  -- a field of ours, and other bytes stand there; all before it is as ours
  differs : (before : List Field) (w : Field) (behind : List Field) → FieldOf run before w behind
      → take (bytes_before before) result ≡ take (bytes_before before) (result_of run)
      → (take w.size (drop (bytes_before before) result) ≡ take w.size (drop (bytes_before before) (result_of run)) → ⊥)
      → bytes_before before < length result
      → Wrong run result (their_bytes (bytes_before before) (min w.size (length result - bytes_before before)))
  -- a field of ours, and nothing stands there: the result ends before it, and is as ours
  lacks : (before : List Field) (w : Field) (behind : List Field) → FieldOf run before w behind
      → result ≡ take (bytes_before before) (result_of run)
      → length result ≡ bytes_before before
      → Wrong run result (our_field run w.place)
  -- more bytes behind all of ours
  exceeds : length (result_of run) < length result
      → take (length (result_of run)) result ≡ result_of run
      → Wrong run result (their_bytes (length (result_of run)) (length result - length (result_of run)))

pub record VerdictLaw (run result : List ℕ) : Type 0 where
  -- J8: right exactly for the bytes of our run
  pub rightly : (verdict_of run result).number ≡ 0 → result ≡ result_of run
  pub always : result ≡ result_of run → verdict_of run result ≡ right
  -- J9: otherwise the first field that is wrong
  pub wrongly : (result ≡ result_of run → ⊥) → Wrong run result (verdict_of run result)
  -- J10: the fields are those of our result, one behind the other: all its bytes, and each as long as it says itself
  pub whole : bytes_before (fields_of run) ≡ length (result_of run)
  pub fields : (before : List Field) (w : Field) (behind : List Field) → FieldOf run before w behind
      → past (result_of run) (bytes_before before) ≡ bytes_before before + w.size

-- the theorem: of every accepted run file and any result
abbrev pub VerdictTheorem : Type 0
VerdictTheorem = (run result : List ℕ) → Accepted run → VerdictLaw run result
