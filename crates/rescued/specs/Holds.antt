-- What holds of a rescue, of any bytes (rules H11 to H14). `rescue-law` proves it.
use Rattle.std.specs.Prelude.{ℕ, ◌+◌, ◌≤◌, ◌<◌, ◌≡◌, ◌⊎◌, Bool, true, false, cond, List, [], ◌∷◌, eqb, length}
use Rattle.octets.specs.BigEndian.{be}
use Rattle.parts.specs.Header.{tag_at}
use Rattle.reading.specs.declared.Reading.TheVariants.{Missing}
use Rattle.reading.specs.Choice.{refusal_of}
use Rattle.site.specs.declared.Step.{Step}
use Rattle.stick.specs.Check.{answer, reach_of, start, check_of}
use Rattle.stick.specs.Site.{steps_of}
use Rattle.rescue.specs.Saved.{due}
use Rattle.rescue.specs.Answers.{Change, output_of, changes_of, rescue_of}

-- a step as it was, or its reading made missing, which is done only to a reading that cannot be used: one refused by 6
pub record Like (kept was : Step) : Type 0 where
  pub sun : kept.sun ≡ was.sun
  pub voltage : kept.voltage ≡ was.voltage
  pub reading : (kept.reading ≡ was.reading) ⊎ ((kept.reading ≡ Missing) × (refusal_of was.reading ≡ 6))

-- steps in order; others may come behind them
pub data Likes : List Step → List Step → Type 0 where
  none : {more : List Step} → Likes [] more
  next : {a b : Step} {xs ys : List Step} → Like a b → Likes xs ys → Likes (a ∷ xs) (b ∷ ys)

-- all bytes dropped, and those of the end field that was written
unfoldable pub dropped_in : List Change → ℕ
dropped_in [] = 0
dropped_in (c ∷ cs) = c.dropped + dropped_in cs

unfoldable pub written_in : List Change → ℕ
written_in [] = 0
written_in (c ∷ cs) = cond (eqb c.kind 2) 7 0 + written_in cs

-- a field due before the steps is what the check's own walk ends at
unfoldable pub due_first : List ℕ → Bool
unfolding reach_of due be
due_first file = let r = reach_of (length file) start file 0 in due r.state (tag_at file r.at)

pub record RescueLaw (file : List ℕ) : Type 0 where
  -- the check accepts the output
  pub accepted : (rescue_of file).number ≡ 0 → (check_of (output_of file)).number ≡ 0
  -- an accepted file is not refused, and comes back as it is
  pub taken : (check_of file).number ≡ 0 → (rescue_of file).number ≡ 0
  pub same : (check_of file).number ≡ 0 → output_of file ≡ file
  pub no_change : (check_of file).number ≡ 0 → changes_of file ≡ []
  -- rescuing the output changes nothing
  pub same_again : (rescue_of file).number ≡ 0 → output_of (output_of file) ≡ output_of file
  pub no_change_again : (rescue_of file).number ≡ 0 → changes_of (output_of file) ≡ []
  -- every step of the output is one of the file, in order, or its reading made missing where it cannot be used; and there are as many as the rescue says
  pub steps : (rescue_of file).number ≡ 0 → Likes (steps_of (output_of file)) (steps_of file)
  pub counted : (rescue_of file).number ≡ 0 → length (steps_of (output_of file)) ≡ (rescue_of file).steps
  -- the bytes of the output and those dropped are the file's, and those of an end field that was written
  pub bytes : length (output_of file) + dropped_in (changes_of file) ≡ length file + written_in (changes_of file)
  -- it refuses exactly where the size or a field due before the steps is not good, with the check's number, place and steps; the output's size aside
  pub too_large : 2097152 < length file → rescue_of file ≡ answer 12 0 0
  pub refused : length file ≤ 2097152 → due_first file ≡ true → ((check_of file).number ≡ 0 → ⊥)
  pub same_number : length file ≤ 2097152 → due_first file ≡ true → (rescue_of file).number ≡ (check_of file).number
  pub same_place : length file ≤ 2097152 → due_first file ≡ true → (rescue_of file).place ≡ (check_of file).place
  pub same_steps : length file ≤ 2097152 → due_first file ≡ true → (rescue_of file).steps ≡ (check_of file).steps
  pub not_else : length file ≤ 2097152 → due_first file ≡ false → ((rescue_of file).number ≡ 0) ⊎ ((rescue_of file ≡ answer 12 0 0) × (2097152 < length (output_of file)))
