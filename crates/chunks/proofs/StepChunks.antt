-- The fields of the steps in a stretch of bytes that the fields go over: from the first step on every field is a step's or the end field, whole and usable, and
-- the state counts the steps; and the steps of bytes that more bytes follow. Assumes nothing.
use mathlib.Core.Path.{◌≡◌, refl, sym, ap, ◌∙◌, subst, subst⁻¹}
use mathlib.Core.Bool.{Bool, true, false, cond}
use mathlib.Core.List.{List, ◌∷◌, ◌++◌, append_assoc}
use mathlib.Core.Logic.{inl, inr}
use Prim.Native.Nat.{ℕ, ◌+◌, ◌≤◌}
use native.Mathlib.Omega.{arith}
use lib.Dec.{eqb}
use lib.ListN.{length, take, drop, take-append-drop}
use borrow.Author.Tests.{eqb-true, ne_eqb}
use Rattle.whole.proofs.Choice.{passed_failed}
use Rattle.parts.specs.Header.{header, tag_at, length_at, past}
use Rattle.site.specs.declared.Step.{Step}
use Rattle.site.specs.declared.Due.{Due}
use Rattle.site.specs.Site.{step_with}
use Rattle.fields.specs.declared.State.{State}
use Rattle.fields.specs.Fields.{at_end, at_steps, at_reading, at_voltage, kinds, size_in, size_of, allowed, is_reading, flags_of, roof_after, state_after}
use Rattle.fields.proofs.FieldLaws.{NoTag, by_tag, after_reading}
use Rattle.stick.specs.Check.{Answer, answer, ends, reach_of}
use Rattle.stick.specs.declared.Reached.{Reached}
use Rattle.stick.specs.Site.{reading_at, due_after, steps_from, due_from, of_steps}
use Rattle.stick.specs.Posts.{answered, ReadingThere}
use Rattle.stick.proofs.ReachLaws.{walk_reach}
use Rattle.stick.proofs.SaidLaws.{most_steps}
use Rattle.stick.proofs.StepLaws.{of_steps_lem, usable, no_other, sized_alike, Amid, amid_others}
use Rattle.chunks.proofs.ReachChunks.{Went, there, passing, far}
use Rattle.stick.proofs.PlaceLaws.{steps_over, steps_first}
use Rattle.chunks.proofs.PlaceChunks.{reach_whole, steps_append, due_append}
use Rattle.chunks.proofs.HeadChunks.{head_end, head_from_field, FieldTaken, accepted_field}
use Rattle.chunks.proofs.HeadFile.{steps_kept_lem, head_from_least}

-- ---- a field of a step, or the end field, stands at a place, whole; a reading can be used, and a weather and a voltage have their bytes
pub record StepHere (a : List ℕ) (i : ℕ) : Type 0 where
  pub tagged : of_steps (tag_at a i) ≡ true
  pub within : past a i ≤ length a
  pub reading : is_reading (tag_at a i) ≡ true → ReadingThere a i
  pub weather : tag_at a i ≡ 8 → length_at a i ≡ 16
  pub voltage : tag_at a i ≡ 12 → length_at a i ≡ 2

-- and so from a place on to the end of the bytes
pub data StepsHere (a : List ℕ) : ℕ → Type 0 where
  steps_end : {i : ℕ} → i ≡ length a → StepsHere a i
  steps_on_is : {i : ℕ} → StepHere a i → StepsHere a (past a i) → StepsHere a i

pub step_here : (a : List ℕ) (st m : State) (i : ℕ) → FieldTaken a st m i → of_steps (tag_at a i) ≡ true → StepHere a i
unfolding size_of kinds size_in
step_here a st m i t o = record {
  tagged = o;
  within = t.head.all;
  reading = λ r. record { reading = r; sized = t.head.size ∙ sized_alike st (tag_at a i) r; within = t.head.all; usable = usable st a i t.value };
  weather = λ e. t.head.size ∙ ap (size_of st) e;
  voltage = λ e. t.head.size ∙ ap (size_of st) e;
}

-- ---- the stages from the first step on
pub data Stepping (st : State) : Type 0 where
  at_steps_lem : st.stage ≡ at_steps → Stepping st
  at_reading_lem : st.stage ≡ at_reading → Stepping st
  at_voltage_lem : st.stage ≡ at_voltage → Stepping st
  at_end_lem : st.stage ≡ at_end → Stepping st

-- a field of a step leads to them
pub stepping_after : (st : State) (tag : ℕ) (file : List ℕ) (at : ℕ) → of_steps tag ≡ true → Stepping (state_after st tag file at)
unfolding state_after roof_after
stepping_after st tag file at =
    by_tag (λ (t : ℕ). of_steps t ≡ true → Stepping (state_after st t file at)) tag
    (λ o. absurd (passed_failed o refl)) (λ o. absurd (passed_failed o refl)) (λ o. absurd (passed_failed o refl))
    (λ o. at_steps_lem refl) (λ o. at_steps_lem refl)
    (λ o. absurd (passed_failed o refl)) (λ o. absurd (passed_failed o refl)) (λ o. at_reading_lem refl) (λ o. at_steps_lem refl) (λ o. absurd (passed_failed o refl))
    (λ o. absurd (passed_failed o refl)) (λ o. at_voltage_lem refl)
    (λ n o. go (eqb tag 127) refl n o)
  where
    go : (b : Bool) → eqb tag 127 ≡ b → NoTag tag → of_steps tag ≡ true → Stepping (state_after st tag file at)
    go true e n o = subst⁻¹ (λ (t : ℕ). Stepping (state_after st t file at)) (eqb-true tag 127 e) (at_end_lem refl)
    go false e n o =
        let none : of_steps tag ≡ false = simp (ne_eqb tag 4 n.n₄, ne_eqb tag 5 n.n₅, ne_eqb tag 9 n.n₉, ne_eqb tag 8 n.n₈, ne_eqb tag 12 n.n₁₂, e) in
        absurd (passed_failed o none)

-- and there no other field is allowed
stepping_tag : (st : State) (tag : ℕ) → Stepping st → eqb st.stage 0 ≡ false → allowed st tag ≡ true → of_steps tag ≡ true
stepping_tag st tag s g a = go s
  where
    amid : Amid st.stage → of_steps tag ≡ true
    amid i = of_steps_lem tag (amid_others st.edition st.units st.left st.steps (flags_of st) tag st.stage i a)

    go : Stepping st → of_steps tag ≡ true
    go (at_steps_lem e) = amid (inl e)
    go (at_reading_lem e) = amid (inr (inl e))
    go (at_voltage_lem e) = amid (inr (inr e))
    go (at_end_lem e) = absurd (passed_failed (ap (λ (n : ℕ). eqb n 0) e) g)

module _ (a : List ℕ) where
  pub went_steps : {s : State} {j : ℕ} {st : State} {i : ℕ} → Went a s j st i → j ≡ length a → Stepping st → StepsHere a i
  went_steps (there e f) h p = steps_end (f ∙ h)
  went_steps {s} {j} {st} {i} (passing m l e f w more) h p =
      let t : FieldTaken a st m i = accepted_field a st m i (omega arith) f in
      let o : of_steps (tag_at a i) ≡ true = stepping_tag st (tag_at a i) p e t.allows in
      steps_on_is (step_here a st m i t o) (went_steps more h (subst Stepping t.is (stepping_after st (tag_at a i) a (i + header) o)))

  -- from where the head ends, whatever the stage
  pub went_steps_from : {s : State} {j : ℕ} {st : State} {i : ℕ} → Went a s j st i → j ≡ length a → head_end a i ≡ i → StepsHere a i
  went_steps_from (there e f) h n = steps_end (f ∙ h)
  went_steps_from {s} {j} {st} {i} (passing m l e f w more) h n = go (of_steps (tag_at a i)) refl
    where
      go : (b : Bool) → of_steps (tag_at a i) ≡ b → StepsHere a i
      go true o =
          let t : FieldTaken a st m i = accepted_field a st m i (omega arith) f in
          steps_on_is (step_here a st m i t o) (went_steps more h (subst Stepping t.is (stepping_after st (tag_at a i) a (i + header) o)))
      go false o =
          let on : head_end a i ≡ head_end a (past a i) = head_from_field a i l ∙ ap (λ (b : Bool). cond b i (head_end a (past a i))) o in
          let least : past a i ≤ head_end a (past a i) = head_from_least a (length a) (past a i) in
          absurd (omega arith)

  -- ---- the state counts the steps
  counts : (st m : State) (i : ℕ) → FieldTaken a st m i → (b : Bool) → is_reading (tag_at a i) ≡ b → m.steps ≡ st.steps + cond b 1 0
  counts st m i t true r =
      let n = no_other (tag_at a i) in
      ap (λ (s : State). s.steps) (sym t.is)
      ∙ ap (λ (s : State). s.steps) (sym (after_reading st (tag_at a i) a (i + header) (n 1 r refl) (n 2 r refl) (n 3 r refl) r))
  counts st m i t false r =
      let e : m.steps ≡ st.steps = ap (λ (s : State). s.steps) (sym t.is) ∙ steps_kept_lem st (tag_at a i) a (i + header) r in
      omega arith

  pub went_counted : {s : State} {j : ℕ} {st : State} {i : ℕ} → Went a s j st i → j ≡ length a → (d : Due) → s.steps ≡ st.steps + length (steps_from a d i)
  went_counted {s} {j} {st} {i} (there e f) h d =
      let none : length (steps_from a d i) ≡ 0 = ap length (steps_over a i (omega arith) d) in
      let same : st.steps ≡ s.steps = ap (λ (s : State). s.steps) e in
      omega arith
  went_counted {s} {j} {st} {i} (passing m l e f w more) h d =
      let t : FieldTaken a st m i = accepted_field a st m i (omega arith) f in
      go (is_reading (tag_at a i)) (steps_from a (due_after a d i) (past a i)) (counts st m i t (is_reading (tag_at a i)) refl) (ap length (steps_first a i l d)) (went_counted more h (due_after a d i))
    where
      go : (r : Bool) (later : List Step) → m.steps ≡ st.steps + cond r 1 0 → length (steps_from a d i) ≡ length (cond r (step_with (reading_at a i) d ∷ later) later)
          → s.steps ≡ m.steps + length later → s.steps ≡ st.steps + length (steps_from a d i)
      go true later c n further = omega arith
      go false later c n further = omega arith

-- no more than 65,535 of them, however the fields stop
pub reach_most : (k : ℕ) (st : State) (file : List ℕ) (at : ℕ) → st.steps ≤ 65535 → (reach_of k st file at).state.steps ≤ 65535
unfolding ends
reach_most k st file at h =
    subst (λ (n : ℕ). n ≤ 65535) (ap (λ (x : Answer). x.steps) (walk_reach file k st at) ∙ told (reach_of k st file at)) (most_steps k st file at h)
  where
    told : (r : Reached) → (answered r).steps ≡ r.state.steps
    told r = go (eqb r.number 0) (eqb r.state.stage 0)
      where
        go : (b c : Bool) → (cond b (cond c (answer 0 r.at r.state.steps) (answer 8 r.at r.state.steps)) (answer r.number r.at r.state.steps)).steps ≡ r.state.steps
        go true true = refl
        go true false = refl
        go false c = refl

-- ---- bytes p that others, c, follow: first the steps of what the fields go over in p, then those of the rest of p with c
module _ (p : List ℕ) (st : State) (i : ℕ) (upto : i ≤ length p) (c : List ℕ) where
  abbrev n : ℕ
  n = (far p st i upto).at

  split : p ++ c ≡ take n p ++ (drop n p ++ c)
  split = ap (λ (l : List ℕ). l ++ c) (sym (take-append-drop n p)) ∙ append_assoc (take n p) (drop n p) c

  pub steps_fed : (d : Due) → steps_from (p ++ c) d i ≡ steps_from (take n p) d i ++ steps_from (drop n p ++ c) (due_from (take n p) d i) 0
  steps_fed d = ap (λ (l : List ℕ). steps_from l d i) split ∙ steps_append (take n p) (drop n p ++ c) (reach_whole p st i upto) d

  pub due_fed : (d : Due) → due_from (p ++ c) d i ≡ due_from (drop n p ++ c) (due_from (take n p) d i) 0
  due_fed d = ap (λ (l : List ℕ). due_from l d i) split ∙ due_append (take n p) (drop n p ++ c) (reach_whole p st i upto) d
