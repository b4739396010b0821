-- Bytes that begin with a laid field: its place is the first, and the others are those of the bytes behind it, moved. So what is read of the fields with a tag, and
-- the steps, are by that field and then by the bytes behind it. Assumes nothing.
use mathlib.Core.Path.{◌≡◌, refl, sym, ap, ap₂, ◌∙◌}
use mathlib.Core.Bool.{Bool, true, false, cond}
use mathlib.Core.List.{List, [], ◌∷◌, ◌++◌, map}
use Prim.Native.Nat.{ℕ, ◌+◌, ◌<◌}
use native.Mathlib.Nat.{add-zero}
use native.Mathlib.Omega.{arith}
use lib.Dec.{eqb}
use lib.ListN.{length, length-append}
use Rattle.parts.specs.Header.{tag_at, past}
use Rattle.reading.specs.declared.Reading.TheVariants.{Missing, Power, Current}
use Rattle.site.specs.declared.Due.{Due}
use Rattle.site.specs.Site.{due, none_yet, step_with}
use Rattle.fields.specs.Fields.{is_reading, phases_at}
use Rattle.stick.specs.Site.{places_of, having, reading_at, sun_at, voltage_at, due_after, steps_from}
use Rattle.stick.proofs.PlaceLaws.{from, from_field, steps_first}
use Rattle.chunks.proofs.FieldChunks.{tag_shift}
use Rattle.chunks.proofs.PlaceChunks.{behind, places_shift, steps_shift}
use Rattle.layouts.specs.Layout.{Number, field}
use Rattle.layouts.proofs.NumberLaws.{field_length, field_tag, field_past}
use Rattle.layouts.proofs.FitLaws.{Laid}

-- what a reader reads of all fields with a tag
unfoldable pub read_all : {A : Type 0} → ℕ → (List ℕ → ℕ → A) → List ℕ → List A
unfolding places_of having
read_all k g F = map (g F) (having k F (places_of F))

-- a reader that bytes in front do not change
abbrev pub Moves : {A : Type 0} → (List ℕ → ℕ → A) → Type 0
Moves g = (a b : List ℕ) (i : ℕ) → g (a ++ b) (length a + i) ≡ g b i

having_behind : (k : ℕ) (a b ats : List ℕ) → having k (a ++ b) (behind a b ats) ≡ behind a b (having k b ats)
unfolding having
having_behind k a b [] = refl
having_behind k a b (i ∷ ats) =
    ap₂ (λ (t : ℕ) (more : List ℕ). cond (eqb t k) ((length a + i) ∷ more) more) (tag_shift a b i) (having_behind k a b ats)
    ∙ go (eqb (tag_at b i) k) (having k b ats)
  where
    go : (t : Bool) (more : List ℕ) → cond t ((length a + i) ∷ behind a b more) (behind a b more) ≡ behind a b (cond t (i ∷ more) more)
    go true more = refl
    go false more = refl

read_behind : {A : Type 0} (g : List ℕ → ℕ → A) → Moves g → (a b ats : List ℕ) → map (g (a ++ b)) (behind a b ats) ≡ map (g b) ats
read_behind g m a b [] = refl
read_behind g m a b (i ∷ ats) = ap₂ ◌∷◌ (m a b i) (read_behind g m a b ats)

-- what the step under way has behind the first field of bytes, by that field's tag
abbrev pub due_by : ℕ → List ℕ → Due → Due
due_by n F d = cond (is_reading n) none_yet (cond (eqb n 0x08) (due (sun_at F 0) d.voltage) (cond (eqb n 0x0C) (due d.sun (voltage_at F 0)) d))

module _ (t : ℕ) (ns : List Number) (laid : Laid t ns) (b : List ℕ) where
  pub first_past : past (field t ns ++ b) 0 ≡ length (field t ns) + 0
  first_past = field_past t ns b laid.few ∙ sym (add-zero (length (field t ns)))

  some : 0 < length (field t ns ++ b)
  some = omega (arith, length-append (field t ns) b, field_length t ns)

  places_first : places_of (field t ns ++ b) ≡ 0 ∷ behind (field t ns) b (places_of b)
  unfolding places_of
  places_first =
      from_field (field t ns ++ b) 0 some
      ∙ ap (λ (p : ℕ). 0 ∷ from (field t ns ++ b) p) first_past
      ∙ ap (λ (ats : List ℕ). 0 ∷ ats) (places_shift (field t ns) b 0)

  pub read_first : {A : Type 0} (k : ℕ) (g : List ℕ → ℕ → A) → Moves g
      → read_all k g (field t ns ++ b) ≡ cond (eqb t k) (g (field t ns ++ b) 0 ∷ read_all k g b) (read_all k g b)
  unfolding read_all having
  read_first k g m =
      ap (λ (ats : List ℕ). map (g (field t ns ++ b)) (having k (field t ns ++ b) ats)) places_first
      ∙ ap₂ (λ (n : ℕ) (more : List ℕ). map (g (field t ns ++ b)) (cond (eqb n k) (0 ∷ more) more)) (field_tag t ns b laid.tagged) (having_behind k (field t ns) b (places_of b))
      ∙ go (eqb t k) (having k b (places_of b))
    where
      go : (e : Bool) (more : List ℕ) → map (g (field t ns ++ b)) (cond e (0 ∷ behind (field t ns) b more) (behind (field t ns) b more))
          ≡ cond e (g (field t ns ++ b) 0 ∷ map (g b) more) (map (g b) more)
      go true more = ap (λ l. g (field t ns ++ b) 0 ∷ l) (read_behind g m (field t ns) b more)
      go false more = read_behind g m (field t ns) b more

  -- ---- the steps
  due_first_lem : (d : Due) → due_after (field t ns ++ b) d 0 ≡ due_by t (field t ns ++ b) d
  unfolding due_after
  due_first_lem d = ap (λ (n : ℕ). due_by n (field t ns ++ b) d) (field_tag t ns b laid.tagged)

  pub reading_first : reading_at (field t ns ++ b) 0
      ≡ cond (eqb t 0x04) (Power (phases_at (field t ns ++ b) 3)) (cond (eqb t 0x09) (Current (phases_at (field t ns ++ b) 3)) Missing)
  unfolding reading_at
  reading_first =
      ap (λ (n : ℕ). cond (eqb n 0x04) (Power (phases_at (field t ns ++ b) 3)) (cond (eqb n 0x09) (Current (phases_at (field t ns ++ b) 3)) Missing))
      (field_tag t ns b laid.tagged)

  pub steps_by_first : (d : Due)
      → let e = due_by t (field t ns ++ b) d in
      steps_from (field t ns ++ b) d 0 ≡ cond (is_reading t) (step_with (reading_at (field t ns ++ b) 0) d ∷ steps_from b e 0) (steps_from b e 0)
  steps_by_first d =
      let more = ap₂ (steps_from (field t ns ++ b)) (due_first_lem d) first_past ∙ steps_shift (field t ns) b (due_by t (field t ns ++ b) d) 0 in
      let tag = field_tag t ns b laid.tagged in
      steps_first (field t ns ++ b) 0 some d ∙ (λ j. cond (is_reading (tag j)) (step_with (reading_at (field t ns ++ b) 0) d ∷ more j) (more j))
