-- A rescue refuses by the check's own walk: up to the first reading made missing and the first weather or voltage that waits, the two are one, and from there
-- on the steps have begun, where nothing is due. So where a field is due, no step has been counted. Assumes nothing.
use mathlib.Core.Path.{◌≡◌, refl, sym, ap, ap₂, ◌∙◌}
use mathlib.Core.Logic.{◌⊎◌, inl, inr}
use mathlib.Core.Bool.{Bool, true, false, not, cond, ◌&&◌, ◌||◌}
use mathlib.Core.List.{List, []}
use Prim.Native.Nat.{ℕ, ◌≤◌, ◌<◌}
use native.Mathlib.Omega.{arith}
use lib.Dec.{ltb, eqb}
use lib.ListN.{length}
use borrow.Author.Tests.{ltb-true, lt-ltb, le-ltb, eqb-true, eqb-false}
use Rattle.whole.proofs.Choice.{passed_failed}
use Rattle.parts.specs.Header.{tag_at, past}
use Rattle.fields.specs.declared.State.{State}
use Rattle.fields.specs.Fields.{at_led, only, opens, closes}
use Rattle.stick.specs.Check.{Answer, answer, field_at, reached, reach_of, ends, start, check_of}
use Rattle.stick.specs.declared.Reached.{Reached}
use Rattle.stick.specs.Site.{of_steps}
use Rattle.stick.proofs.WalkLaws.{not_too_large}
use Rattle.stick.proofs.ReachLaws.{walk_reach}
use Rattle.chunks.proofs.ReachChunks.{reach_over, reach_step, Went, there, passing, gone}
use Rattle.kept.specs.Kept.{begun}
use Rattle.taking.proofs.StageLaws.{HeadTook, StepTook, sort, along}
use Rattle.rescue.specs.Saved.{Saved, keeping, bytes_at, waits, saved_of, before_steps, due}
use Rattle.rescue.specs.Answers.{output_by, output_of, saved_answer, rescue_of}
use Rattle.rescue.proofs.SaveLaws.{by_measure, Saving, over, ended, refused as fault, lost, passed, waiting}
use Rattle.rescue.proofs.GroupLaws.{never_waits}
use Rattle.rescued.specs.Holds.{due_first}
use Rattle.rescued.proofs.BytesLaws.{saved_file}
use Rattle.std.proofs.Common.{Err, Ok}

-- ---- nothing is due once the steps have begun, nor where a field of a step may stand and does
abbrev opens_by : ℕ → Bool → Bool
opens_by stage current = eqb stage 5 || (eqb stage 9 && not current)

abbrev due_by : ℕ → Bool → ℕ → Bool
due_by stage current tag =
    not (eqb stage 0 || (eqb stage 4 || opens_by stage current || eqb stage 12 || eqb stage 8 || eqb stage 11)) || ((opens_by stage current || eqb stage 12) && before_steps tag)

due_at : (st : State) (tag stage : ℕ) → eqb st.stage stage ≡ true → due_by stage st.current tag ≡ false → due st tag ≡ false
unfolding due
due_at st tag stage e d = ap (λ (n : ℕ). due_by n st.current tag) (eqb-true st.stage stage e) ∙ d

begun_free : (st : State) (tag : ℕ) → begun st ≡ true → due st tag ≡ false
begun_free st tag b = go (eqb st.stage 0) (eqb st.stage 4) (eqb st.stage 8) (eqb st.stage 11) refl refl refl refl b
  where
    go : (x y z v : Bool) → eqb st.stage 0 ≡ x → eqb st.stage 4 ≡ y → eqb st.stage 8 ≡ z → eqb st.stage 11 ≡ v → (x || y || z || v) ≡ true → due st tag ≡ false
    go true y z v ex ey ez ev c = due_at st tag 0 ex refl
    go false true z v ex ey ez ev c = due_at st tag 4 ey refl
    go false false true v ex ey ez ev c = due_at st tag 8 ez refl
    go false false false true ex ey ez ev c = due_at st tag 11 ev refl
    go false false false false ex ey ez ev c = absurd (passed_failed c refl)

-- where a reading is waited for, they have
waits_begun : (st : State) → waits st ≡ true → begun st ≡ true
waits_begun st = go (eqb st.stage 0 || eqb st.stage 4) (eqb st.stage 8) (eqb st.stage 11)
  where
    go : (x r v : Bool) → (r || v) ≡ true → (x || r || v) ≡ true
    go true r v e = refl
    go false r v e = e

-- no field of a step is one before the steps
no_head : (tag : ℕ) → of_steps tag ≡ true → before_steps tag ≡ false
no_head tag o = go (eqb tag 6) (eqb tag 7) (eqb tag 10) (eqb tag 11) refl refl refl refl
  where
    not_this : (k : ℕ) → eqb tag k ≡ true → of_steps k ≡ false → ⊥
    not_this k e f = passed_failed o (ap of_steps (eqb-true tag k e) ∙ f)

    go : (a b c d : Bool) → eqb tag 6 ≡ a → eqb tag 7 ≡ b → eqb tag 10 ≡ c → eqb tag 11 ≡ d → (a || b || c || d) ≡ false
    go true b c d ea eb ec ed = absurd (not_this 6 ea refl)
    go false true c d ea eb ec ed = absurd (not_this 7 eb refl)
    go false false true d ea eb ec ed = absurd (not_this 10 ec refl)
    go false false false true ea eb ec ed = absurd (not_this 11 ed refl)
    go false false false false ea eb ec ed = refl

step_free : (st : State) (tag : ℕ) → closes st ≡ true → of_steps tag ≡ true → due st tag ≡ false
unfolding due
step_free st tag c o =
    ap₂ (λ (a b : Bool). not (eqb st.stage 0 || a) || ((opens st || only at_led st) && b)) c (no_head tag o) ∙ go (eqb st.stage 0) (opens st || only at_led st)
  where
    go : (a b : Bool) → (not (a || true) || (b && false)) ≡ false
    go true true = refl
    go true false = refl
    go false true = refl
    go false false = refl

-- so where a field is due they have not begun
due_before : (st : State) (tag : ℕ) → due st tag ≡ true → begun st ≡ false
due_before st tag d = go (begun st) refl
  where
    go : (b : Bool) → begun st ≡ b → b ≡ false
    go true e = absurd (passed_failed d (begun_free st tag e))
    go false e = refl

-- ---- the end of the file is not due
due_going : (st : State) (tag : ℕ) → due st tag ≡ true → eqb st.stage 0 ≡ false
due_going st tag d = go (eqb st.stage 0) refl
  where
    go : (b : Bool) → eqb st.stage 0 ≡ b → eqb st.stage 0 ≡ false
    go true e = absurd (passed_failed d (due_at st tag 0 e refl))
    go false e = e

module _ (file : List ℕ) where
  -- ---- the steps stay begun
  begun_stays : {st : State} {at : ℕ} {s : Saved} → Saving file st at s → begun st ≡ true → begun s.state ≡ true
  begun_stays (over e) b = b
  begun_stays (ended l e) b = b
  begun_stays (fault n l e f u) b = b
  begun_stays (lost l e f u more) b = begun_stays more refl
  begun_stays {st} {at} (passed {s = s} m l e f w g more) b = go (sort file st at m (omega arith) f) (λ k. begun_stays more k)
    where
      go : HeadTook file st at m ⊎ StepTook file st at m → (begun m ≡ true → begun s.state ≡ true) → begun s.state ≡ true
      go (inl k) further = absurd (passed_failed b k.before)
      go (inr k) further = further k.behind
  begun_stays (waiting m l e f w g more) b = b

  -- ---- it ends where a reading is waited for only where that was so before
  waits_still : {st : State} {at : ℕ} {s : Saved} → Saving file st at s → waits s.state ≡ true → waits st ≡ true
  waits_still {st} x h = go (waits st) refl
    where
      go : (b : Bool) → waits st ≡ b → b ≡ true
      go true e = refl
      go false e = absurd (passed_failed h (never_waits x e))

  -- ---- beside the check's walk
  pub data Met (s : Saved) (r : Reached) : Type 0 where
    alike : s.number ≡ r.number → s.at ≡ r.at → s.state ≡ r.state → Met s r
    free : due s.state (tag_at file s.at) ≡ false → due r.state (tag_at file r.at) ≡ false → Met s r

  abbrev far : State → ℕ → Reached
  far st at = reach_of (length file) st file at

  -- the check ends so
  ends_so : {st : State} {at n : ℕ} → far st at ≡ reached n at st → {s : Saved} → s.number ≡ n → s.at ≡ at → s.state ≡ st → Met s (far st at)
  ends_so e {s} a b c = alike (a ∙ sym (ap (λ (r : Reached). r.number) e)) (b ∙ sym (ap (λ (r : Reached). r.at) e)) (c ∙ sym (ap (λ (r : Reached). r.state) e))

  -- and from a state where the steps have begun, with the steps begun
  far_free : (st : State) (at : ℕ) → at ≤ length file → begun st ≡ true → due (far st at).state (tag_at file (far st at).at) ≡ false
  far_free st at h b =
      let g = gone file (length file) st at (omega arith) h in
      begun_free (far st at).state (tag_at file (far st at).at) (along file g.went b).begun_next

  -- ---- before the steps have begun none is counted
  none_counted : {next : State} {j : ℕ} {st : State} {i : ℕ} → Went file next j st i → begun next ≡ false → next.steps ≡ st.steps
  none_counted (there e f) b = ap (λ (s : State). s.steps) (sym e)
  none_counted {next} {j} {st} {i} (passing m l e f w more) b = go (sort file st i m (omega arith) f) (none_counted more b)
    where
      go : HeadTook file st i m ⊎ StepTook file st i m → next.steps ≡ m.steps → next.steps ≡ st.steps
      go (inl k) further = further ∙ k.none
      go (inr k) further = absurd (passed_failed (along file more k.behind).begun_next b)

  -- ---- a weather or a voltage that waits: a step may be closed there
  module _ {st m : State} {at : ℕ} (f : waits m ≡ true) where
    waiting_took : HeadTook file st at m ⊎ StepTook file st at m → StepTook file st at m
    waiting_took (inl k) = absurd (passed_failed (waits_begun m f) k.behind)
    waiting_took (inr k) = k

  pub met : {st : State} {at : ℕ} {s : Saved} → Saving file st at s → Met s (far st at)
  met {st} {at} (over e) = ends_so (reach_over file (length file) st at (omega arith)) refl refl refl
  met {st} {at} (ended l e) = ends_so (reach_step file (length file) st at true (field_at st file at) (omega arith) l e refl) refl refl refl
  met {st} {at} (fault n l e f u) = ends_so (reach_step file (length file) st at false (Err n) (omega arith) l e f) refl refl refl
  met {st} {at} (lost {s = s} l e f u more) =
      let r : far st at ≡ reached 6 at st = reach_step file (length file) st at false (Err 6) (omega arith) l e f in
      free (begun_free s.state (tag_at file s.at) (begun_stays more refl))
      (ap (λ (r : Reached). due r.state (tag_at file r.at)) r ∙ step_free st (tag_at file at) u.closes_here (by_measure (λ (t : ℕ). of_steps t ≡ true) u.tag refl refl))
  met {st} {at} (passed {s = s} m l e f w g more) = go (met more)
    where
      on : far st at ≡ far m (past file at)
      on = reach_step file (length file) st at false (Ok m) (omega arith) l e f

      go : Met s (far m (past file at)) → Met (keeping (bytes_at file at) [] s) (far st at)
      go (alike a b c) = alike (a ∙ sym (ap (λ (r : Reached). r.number) on)) (b ∙ sym (ap (λ (r : Reached). r.at) on)) (c ∙ sym (ap (λ (r : Reached). r.state) on))
      go (free a b) = free a (ap (λ (r : Reached). due r.state (tag_at file r.at)) on ∙ b)
  met {st} {at} (waiting m l e f w g more) =
      let on : far st at ≡ far m (past file at) = reach_step file (length file) st at false (Ok m) (omega arith) l e f in
      let k = waiting_took {st = st} (waits_still more g) (sort file st at m (omega arith) f) in
      free (step_free st (tag_at file at) k.may k.tagged)
      (ap (λ (r : Reached). due r.state (tag_at file r.at)) on ∙ far_free m (past file at) w k.behind)

  -- ---- the answers
  abbrev s : Saved
  s = saved_of file

  abbrev r : Reached
  r = far start 0

  due_both : Met s r → due s.state (tag_at file s.at) ≡ due_first file
  unfolding due_first
  due_both (alike n a t) = ap₂ (λ (x : State) (i : ℕ). due x (tag_at file i)) t a
  due_both (free a b) = a ∙ sym b

  due_same : due_first file ≡ true → Met s r → (s.number ≡ r.number) × (s.at ≡ r.at)
  unfolding due_first
  due_same d (alike n a t) = (n, a)
  due_same d (free a b) = absurd (passed_failed d b)

  -- the check has counted no step there
  no_step_lem : due_first file ≡ true → r.state.steps ≡ 0
  unfolding due_first
  no_step_lem d = none_counted (gone file (length file) start 0 (omega arith) (omega arith)).went (due_before r.state (tag_at file r.at) d)

  abbrev numbered : ℕ → ℕ
  numbered n = cond (eqb n 0) 8 n

  pub too_large : 2097152 < length file → rescue_of file ≡ answer 12 0 0
  unfolding rescue_of
  too_large h = ap (λ (b : Bool). cond b (answer 12 0 0) (saved_answer s (tag_at file s.at) (length file))) (lt-ltb 2097152 (length file) h)

  module _ (h : length file ≤ 2097152) where
    small : ltb 2097152 (length file) ≡ false
    small = le-ltb 2097152 (length file) h

    by_due : (b : Bool) → due_first file ≡ b
        → rescue_of file ≡ cond b (answer (numbered s.number) s.at 0) (cond (ltb 2097152 (length (output_by s))) (answer 12 0 0) (answer 0 (length file) s.state.steps))
    unfolding rescue_of saved_answer
    by_due b d =
        ap (λ (c : Bool). cond c (answer 12 0 0) (saved_answer s (tag_at file s.at) (length file))) small
        ∙ ap (λ (c : Bool). cond c (answer (numbered s.number) s.at 0) (cond (ltb 2097152 (length (output_by s))) (answer 12 0 0) (answer 0 (length file) s.state.steps)))
        (due_both (met (saved_file file)) ∙ d)

    check_due : due_first file ≡ true → check_of file ≡ answer (numbered r.number) r.at r.state.steps
    unfolding due_first ends
    check_due d =
        sym (not_too_large file small) ∙ walk_reach file (length file) start 0 ∙ go (eqb r.number 0)
      where
        go : (b : Bool) → cond b (ends r.state r.at) (answer r.number r.at r.state.steps) ≡ answer (cond b 8 r.number) r.at r.state.steps
        go true = ap (λ (c : Bool). cond c (answer 0 r.at r.state.steps) (answer 8 r.at r.state.steps)) (due_going r.state (tag_at file r.at) d)
        go false = refl

    not_zero : (n : ℕ) → numbered n ≡ 0 → ⊥
    not_zero n = go (eqb n 0) refl
      where
        go : (b : Bool) → eqb n 0 ≡ b → cond b 8 n ≡ 0 → ⊥
        go true e z = omega arith
        go false e z = eqb-false n 0 e z

    pub refused : due_first file ≡ true → ((check_of file).number ≡ 0 → ⊥)
    refused d z = not_zero r.number (sym (ap (λ (a : Answer). a.number) (check_due d)) ∙ z)

    pub same_number : due_first file ≡ true → (rescue_of file).number ≡ (check_of file).number
    same_number d =
        ap (λ (a : Answer). a.number) (by_due true d)
        ∙ ap numbered (due_same d (met (saved_file file))).0
        ∙ sym (ap (λ (a : Answer). a.number) (check_due d))

    pub same_place : due_first file ≡ true → (rescue_of file).place ≡ (check_of file).place
    same_place d =
        ap (λ (a : Answer). a.place) (by_due true d)
        ∙ (due_same d (met (saved_file file))).1
        ∙ sym (ap (λ (a : Answer). a.place) (check_due d))

    pub same_steps : due_first file ≡ true → (rescue_of file).steps ≡ (check_of file).steps
    same_steps d =
        ap (λ (a : Answer). a.steps) (by_due true d)
        ∙ sym (no_step_lem d)
        ∙ sym (ap (λ (a : Answer). a.steps) (check_due d))

    pub not_else : due_first file ≡ false → ((rescue_of file).number ≡ 0) ⊎ ((rescue_of file ≡ answer 12 0 0) × (2097152 < length (output_of file)))
    unfolding output_of
    not_else d = go (ltb 2097152 (length (output_by s))) refl (by_due false d)
      where
        go : (b : Bool) → ltb 2097152 (length (output_by s)) ≡ b → rescue_of file ≡ cond b (answer 12 0 0) (answer 0 (length file) s.state.steps)
            → ((rescue_of file).number ≡ 0) ⊎ ((rescue_of file ≡ answer 12 0 0) × (2097152 < length (output_by s)))
        go true e q = inr (q, ltb-true 2097152 (length (output_by s)) e)
        go false e q = inl (ap (λ (a : Answer). a.number) q)
