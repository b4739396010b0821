-- The steps of a rescue's output are the file's, in order: what is kept are whole fields, each field that is kept says there what it says in the file, a
-- reading made missing is one that cannot be used and closes the step with the sun and the voltage it had, and the end field closes none. Assumes nothing.
use mathlib.Core.Path.{◌≡◌, refl, sym, ap, ap₂, ◌∙◌, subst, subst⁻¹}
use mathlib.Core.Logic.{inl, inr}
use mathlib.Core.Bool.{Bool, true, false, cond}
use mathlib.Core.List.{List, [], ◌∷◌, ◌++◌, append-nil}
use Prim.Native.Nat.{ℕ, ◌+◌, ◌-◌, ◌≤◌, ◌<◌}
use native.Mathlib.Nat.{zero-add}
use native.Mathlib.Omega.{arith}
use lib.Dec.{ltb, eqb, lit≤}
use lib.ListN.{length, get_or, take}
use lib.Seq.{get_or-take, get_or-drop, length-slice}
use borrow.Author.Tests.{eqb-false}
use Rattle.octets.specs.BigEndian.{be, bytes_of}
use Rattle.parts.specs.Header.{header, tag_at, length_at, past}
use Rattle.reading.specs.declared.Reading.TheVariants.{Missing}
use Rattle.site.specs.declared.Step.{Step}
use Rattle.site.specs.declared.Due.{Due}
use Rattle.site.specs.Site.{due, none_yet, step_with}
use Rattle.fields.specs.declared.State.{State}
use Rattle.fields.specs.Fields.{is_reading, kinds, size_in, size_of}
use Rattle.fields.proofs.FieldLaws.{after_reading}
use Rattle.stick.specs.Check.{Answer, answer, field_at, start}
use Rattle.stick.specs.Site.{places_from, reading_at, sun_at, voltage_at, due_after, steps_in, due_in, steps_from, due_from, steps_of}
use Rattle.stick.proofs.StepLaws.{no_other}
use Rattle.stick.proofs.PlaceLaws.{steps_over, due_over, steps_first, due_first_lem}
use Rattle.chunks.proofs.SameLaws.{Same, same_less, tag_same, length_same, reading_same, due_same}
use Rattle.chunks.proofs.PlaceChunks.{FieldThere, Whole, whole_end, whole_field, whole_append, accepted_there, steps_append}
use Rattle.chunks.proofs.HeadChunks.{FieldTaken, accepted_field}
use Rattle.chunks.proofs.HeadFile.{steps_kept_lem}
use Rattle.rescue.specs.Saved.{Saved, ends_at, keeping, missing_field, closed_step, bytes_at, saved_of, due as dueHere}
use Rattle.rescue.specs.Answers.{end_field, output_by, output_of, saved_answer, rescue_of}
use Rattle.rescue.proofs.SaveLaws.{by_measure, Unread, Saving, over, ended, refused, lost, passed, waiting}
use Rattle.rescued.specs.Holds.{Likes, none, next}
use Rattle.rescued.proofs.BytesLaws.{saved_file}
use Rattle.rescued.proofs.LostLaws.{lost_six}
use Rattle.std.proofs.Common.{Err, Ok}

-- ---- the steps from a field on, by whether it is a reading, with what the step under way has
abbrev steps_by : List ℕ → ℕ → Bool → Due → List Step
steps_by file at r d =
    let more = steps_from file (due_after file d at) (past file at) in
    cond r (step_with (reading_at file at) d ∷ more) more

-- a reading leaves nothing to the next one
closed_due : (file : List ℕ) (at : ℕ) (d : Due) → is_reading (tag_at file at) ≡ true → due_after file d at ≡ none_yet
unfolding due_after
closed_due file at d r =
    let tag = tag_at file at in
    ap (λ (b : Bool). cond b none_yet (cond (eqb tag 8) (due (sun_at file at) d.voltage) (cond (eqb tag 12) (due d.sun (voltage_at file at)) d))) r

-- ---- a field's bytes, by themselves and before others
module _ (file : List ℕ) (at : ℕ) (f : FieldThere file at) where
  abbrev cut : List ℕ
  cut = bytes_at file at

  pub cut_long : length cut ≡ 3 + length_at file at
  cut_long = let all = f.all in let l : length cut ≡ past file at - at = length-slice at (past file at) file all in omega arith

  pub cut_same : Same cut file 0 at (3 + length_at file at)
  cut_same k l =
      ap (λ (i : ℕ). get_or cut i 0) (zero-add k) ∙ get_or-drop at (take (past file at) file) k 0 ∙ get_or-take (past file at) file (at + k) 0 (omega arith)

  cut_upto : (n : ℕ) → n ≤ 3 + length_at file at → Same cut file 0 at n
  cut_upto n l = same_less cut file 0 at (3 + length_at file at) cut_same n l

  cut_tag : tag_at cut 0 ≡ tag_at file at
  cut_tag = tag_same cut file 0 at (cut_upto 1 (omega arith))

  cut_length : length_at cut 0 ≡ length_at file at
  cut_length = length_same cut file 0 at (cut_upto 3 (omega arith))

  pub cut_there : FieldThere cut 0
  cut_there =
      let tag = ap (size_of start) cut_tag in
      let long = cut_length in
      let all = cut_long in
      let size = f.size in
      record { size = omega arith; all = omega arith }

  pub cut_past : past cut 0 ≡ length cut
  cut_past = let long = cut_length in let all = cut_long in omega arith

  pub cut_whole : Whole cut 0
  cut_whole = whole_field cut_there (whole_end cut_past)

  -- what it says
  sized : (tag : ℕ) → tag_at file at ≡ tag → size_of start tag ≤ length_at file at
  sized tag e = subst (λ (t : ℕ). size_of start t ≤ length_at file at) e f.size

  cut_reading : reading_at cut 0 ≡ reading_at file at
  cut_reading =
      reading_same cut file 0 at (cut_upto 1 (omega arith))
      (λ k z e. let l = sized k (sym cut_tag ∙ e) in cut_upto 27 (omega arith))

  cut_due : (d : Due) → due_after cut d 0 ≡ due_after file d at
  unfolding size_of kinds size_in
  cut_due =
      due_same cut file 0 at (cut_upto 1 (omega arith))
      (λ e. let l : 16 ≤ length_at file at = sized 8 (sym cut_tag ∙ e) in cut_upto 19 (omega arith))
      (λ e. let l : 2 ≤ length_at file at = sized 12 (sym cut_tag ∙ e) in cut_upto 5 (omega arith))

  -- the steps from it on, by its tag, where others are kept behind it
  module _ (kept : List ℕ) where
    abbrev pub after : Bool → Due → List Step
    after r d = let more = steps_from kept (due_after file d at) 0 in cond r (step_with (reading_at file at) d ∷ more) more

    pub cut_steps : (d : Due) → steps_from (cut ++ kept) d 0 ≡ after (is_reading (tag_at file at)) d
    cut_steps d = steps_append cut kept cut_whole d ∙ ap₂ (λ (l : List Step) (u : Due). l ++ steps_from kept u 0) one left ∙ go (is_reading (tag_at file at))
      where
        none_behind : steps_from cut (due_after cut d 0) (past cut 0) ≡ []
        none_behind = steps_over cut (past cut 0) (let p = cut_past in omega arith) (due_after cut d 0)

        first : 0 < length cut
        first = let long = cut_long in omega arith

        one : steps_from cut d 0 ≡ cond (is_reading (tag_at file at)) (step_with (reading_at file at) d ∷ []) []
        one = steps_first cut 0 first d ∙ (λ j. cond (is_reading (cut_tag j)) (step_with (cut_reading j) d ∷ none_behind j) (none_behind j))

        left : due_from cut d 0 ≡ due_after file d at
        left = due_first_lem cut 0 first d ∙ due_over cut (past cut 0) (let p = cut_past in omega arith) (due_after cut d 0) ∙ cut_due d

        go : (r : Bool) → cond r (step_with (reading_at file at) d ∷ []) [] ++ steps_from kept (due_after file d at) 0 ≡ after r d
        go true = refl
        go false = refl

-- ---- the field of a missing reading: a step with what it had before it, and nothing for the next
pub missing_whole : Whole missing_field 0
unfolding be size_of kinds size_in
missing_whole = whole_field (record { size = lit≤ tt; all = lit≤ tt }) (whole_end refl)

missing_one : (d : Due) → steps_from missing_field d 0 ≡ step_with Missing d ∷ []
unfolding steps_from steps_in places_from reading_at be
missing_one d = refl

missing_due : (d : Due) → due_from missing_field d 0 ≡ none_yet
unfolding due_from due_in due_after places_from be
missing_due d = refl

pub missing_steps : (kept : List ℕ) (d : Due) → steps_from (missing_field ++ kept) d 0 ≡ step_with Missing d ∷ steps_from kept none_yet 0
missing_steps kept d = steps_append missing_field kept missing_whole d ∙ ap₂ (λ (l : List Step) (u : Due). l ++ steps_from kept u 0) (missing_one d) (missing_due d)

-- ---- the end field closes no step
pub end_steps : (steps : ℕ) (d : Due) → steps_from (end_field steps) d 0 ≡ []
unfolding steps_from steps_in places_from end_field bytes_of be
end_steps steps d = refl

-- ---- a field that is taken counts its step
counts : (file : List ℕ) (st m : State) (at : ℕ) → FieldTaken file st m at → (b : Bool) → is_reading (tag_at file at) ≡ b → m.steps ≡ st.steps + cond b 1 0
counts file st m at t true r =
    let n = no_other (tag_at file at) in
    ap (λ (s : State). s.steps) (sym t.is)
    ∙ ap (λ (s : State). s.steps) (sym (after_reading st (tag_at file at) file (at + header) (n 1 r refl) (n 2 r refl) (n 3 r refl) r))
counts file st m at t false r =
    let e : m.steps ≡ st.steps = ap (λ (s : State). s.steps) (sym t.is) ∙ steps_kept_lem st (tag_at file at) file (at + header) r in
    omega arith

-- ---- all that is kept from a place on: whole fields, with the file's steps, which the state counts
pub record Held (file : List ℕ) (st : State) (at : ℕ) (s : Saved) : Type 0 where
  pub whole : Whole s.kept 0
  pub likes : (d : Due) → Likes (steps_from s.kept d 0) (steps_from file d at)
  pub counted : (d : Due) → s.state.steps ≡ st.steps + length (steps_from s.kept d 0)

likes_so : {xs us ys vs : List Step} → xs ≡ us → ys ≡ vs → Likes us vs → Likes xs ys
likes_so {xs} {us} {ys} {vs} e f l = subst⁻¹ (λ (x : List Step). Likes x ys) e (subst⁻¹ (Likes us) f l)

module _ (file : List ℕ) where
  -- nothing is kept
  held_none : (st : State) (at : ℕ) (n : ℕ) → Held file st at (ends_at n at st)
  held_none st at n = record {
    whole = whole_end refl;
    likes = λ d. likes_so (steps_over [] 0 (omega arith) d) refl none;
    counted = λ d. let z = ap length (steps_over [] 0 (omega arith) d) in omega arith;
  }

  module _ {st : State} {at : ℕ} {s : Saved} (l : at < length file) where
    -- a reading made missing
    held_lost : field_at st file at ≡ Err 6 → Unread st file at → Held file (closed_step st) (past file at) s → Held file st at (keeping missing_field (at ∷ []) s)
    held_lost f u h = record {
      whole = whole_append missing_field s.kept missing_whole h.whole;
      likes = λ d. likes_so (missing_steps s.kept d) (here d) (next (record { sun = refl; voltage = refl; reading = inr (refl, lost_six st file at f u) }) (h.likes none_yet));
      counted = λ d. let c = h.counted none_yet in let n = ap length (missing_steps s.kept d) in omega arith;
    }
      where
        closes_it : is_reading (tag_at file at) ≡ true
        closes_it = by_measure (λ (t : ℕ). is_reading t ≡ true) u.tag refl refl

        here : (d : Due) → steps_from file d at ≡ step_with (reading_at file at) d ∷ steps_from file none_yet (past file at)
        here d =
            steps_first file at l d ∙ ap (λ (r : Bool). steps_by file at r d) closes_it
            ∙ ap (λ (u : Due). step_with (reading_at file at) d ∷ steps_from file u (past file at)) (closed_due file at d closes_it)

    -- a field that is kept
    held_passed : (m : State) → field_at st file at ≡ Ok m → Held file m (past file at) s → Held file st at (keeping (bytes_at file at) [] s)
    held_passed m f h = record {
      whole = whole_append (bytes_at file at) s.kept (cut_whole file at there) h.whole;
      likes = λ d. likes_so (cut_steps file at there s.kept d) (steps_first file at l d) (alike (is_reading (tag_at file at)) d);
      counted = λ d. count (is_reading (tag_at file at)) d one (ap length (cut_steps file at there s.kept d));
    }
      where
        there : FieldThere file at
        there = accepted_there st m file at (omega arith) f

        one : m.steps ≡ st.steps + cond (is_reading (tag_at file at)) 1 0
        one = counts file st m at (accepted_field file st m at (omega arith) f) (is_reading (tag_at file at)) refl

        alike : (r : Bool) (d : Due) → Likes (after file at there s.kept r d) (steps_by file at r d)
        alike true d = next (record { sun = refl; voltage = refl; reading = inl refl }) (h.likes (due_after file d at))
        alike false d = h.likes (due_after file d at)

        count : (r : Bool) (d : Due) → m.steps ≡ st.steps + cond r 1 0
            → length (steps_from (bytes_at file at ++ s.kept) d 0) ≡ length (after file at there s.kept r d)
            → s.state.steps ≡ st.steps + length (steps_from (bytes_at file at ++ s.kept) d 0)
        count true d c n = let k = h.counted (due_after file d at) in omega arith
        count false d c n = let k = h.counted (due_after file d at) in omega arith

  pub held : {st : State} {at : ℕ} {s : Saved} → Saving file st at s → Held file st at s
  held {st} {at} (over e) = held_none st at 0
  held {st} {at} (ended l e) = held_none st at 9
  held {st} {at} (refused n l e f u) = held_none st at n
  held {st} {at} (lost l e f u more) = held_lost l f u (held more)
  held {st} {at} (passed m l e f w g more) = held_passed l m f (held more)
  held {st} {at} (waiting {s = s} m l e f w g more) = held_none st at s.number

-- ---- and the end field behind it
output_steps : (s : Saved) → Whole s.kept 0 → steps_of (output_by s) ≡ steps_from s.kept none_yet 0
unfolding steps_of output_by
output_steps s w =
    steps_append s.kept (end (eqb s.state.stage 0)) w none_yet
    ∙ ap (λ (l : List Step). steps_from s.kept none_yet 0 ++ l) (nothing (eqb s.state.stage 0))
    ∙ append-nil (steps_from s.kept none_yet 0)
  where
    end : Bool → List ℕ
    end b = cond b [] (end_field s.state.steps)

    nothing : (b : Bool) → steps_from (end b) (due_from s.kept none_yet 0) 0 ≡ []
    nothing true = steps_over [] 0 (omega arith) (due_from s.kept none_yet 0)
    nothing false = end_steps s.state.steps (due_from s.kept none_yet 0)

of_file : (file : List ℕ) → steps_of file ≡ steps_from file none_yet 0
unfolding steps_of
of_file file = refl

pub steps : (file : List ℕ) → (rescue_of file).number ≡ 0 → Likes (steps_of (output_of file)) (steps_of file)
unfolding output_of
steps file z =
    let h = held file (saved_file file) in
    likes_so (output_steps (saved_of file) h.whole) (of_file file) (h.likes none_yet)

-- an answer of 0 has the state's steps
answer_steps : (file : List ℕ) → (rescue_of file).number ≡ 0 → (rescue_of file).steps ≡ (saved_of file).state.steps
unfolding rescue_of saved_answer
answer_steps file =
    go (ltb 2097152 (length file)) (dueHere s.state (tag_at file s.at)) (ltb 2097152 (length (output_by s))) (eqb s.number 0) refl
  where
    s : Saved
    s = saved_of file

    by : Bool → Bool → Bool → Bool → Answer
    by large d big zero = cond large (answer 12 0 0) (cond d (answer (cond zero 8 s.number) s.at 0) (cond big (answer 12 0 0) (answer 0 (length file) s.state.steps)))

    go : (large d big zero : Bool) → eqb s.number 0 ≡ zero → (by large d big zero).number ≡ 0 → (by large d big zero).steps ≡ s.state.steps
    go true d big zero e z = absurd (omega arith)
    go false true big true e z = absurd (omega arith)
    go false true big false e z = absurd (eqb-false s.number 0 e z)
    go false false true zero e z = absurd (omega arith)
    go false false false zero e z = refl

pub counted : (file : List ℕ) → (rescue_of file).number ≡ 0 → length (steps_of (output_of file)) ≡ (rescue_of file).steps
unfolding output_of
counted file z =
    let h = held file (saved_file file) in
    let c : (saved_of file).state.steps ≡ 0 + length (steps_from (saved_of file).kept none_yet 0) = h.counted none_yet in
    let o = ap length (output_steps (saved_of file) h.whole) in
    let a = answer_steps file z in
    omega arith
