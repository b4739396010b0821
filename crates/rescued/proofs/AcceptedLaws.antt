-- The check accepts a rescue's output: what is kept is whole fields up to an end field, or up to where an end field may stand, and the one written there
-- counts the steps kept. Assumes nothing.
use mathlib.Core.Path.{◌≡◌, refl, sym, ap, ap₂, ◌∙◌, subst⁻¹}
use mathlib.Core.Bool.{Bool, true, false, not, cond, ◌&&◌, ◌||◌}
use mathlib.Core.List.{List, [], ◌++◌, append-nil}
use Prim.Native.Nat.{ℕ, ◌≤◌}
use native.Mathlib.Nat.{mod-eq_of_lt}
use native.Mathlib.Omega.{arith}
use lib.Dec.{ltb, eqb}
use lib.ListN.{length}
use borrow.Author.Tests.{ltb-false, le-ltb, eq-eqb, eqb-true, eqb-false}
use Rattle.whole.proofs.Choice.{passed_failed}
use Rattle.octets.specs.BigEndian.{be, bytes_of}
use Rattle.octets.proofs.ByteLaws.{be_bytes}
use Rattle.parts.specs.Header.{tag_at, past}
use Rattle.fields.specs.declared.State.{State}
use Rattle.fields.specs.Fields.{at_end, at_reading, at_voltage, at_led, only, opens, begins, gone_to, kinds, size_in, size_of, stands_in, allowed, head_of, value_of, refused_by, roof_after, state_after, taken_by}
use Rattle.stick.specs.Check.{Answer, answer, field_at, start, check_of}
use Rattle.stick.specs.Posts.{answered}
use Rattle.stick.proofs.WalkLaws.{ends_complete, not_too_large}
use Rattle.stick.proofs.ReachLaws.{walk_reach}
use Rattle.chunks.proofs.ReachChunks.{there, passing}
use Rattle.taking.specs.Posts.{Leads}
use Rattle.taking.proofs.LedLaws.{leads_so, leads_append}
use Rattle.rescue.specs.Saved.{Saved, waits, saved_of, before_steps, due}
use Rattle.rescue.specs.Answers.{end_field, output_by, output_of, saved_answer, rescue_of}
use Rattle.rescued.proofs.KeptLaws.{kept_leads, no_reading_waited, kept_few}
use Rattle.std.proofs.Common.{Err, Ok}

-- ---- whole fields up to an end field are an accepted file
pub leads_accepted : (bytes : List ℕ) (m : State) → Leads start bytes m → eqb m.stage 0 ≡ true → length bytes ≤ 2097152 → (check_of bytes).number ≡ 0
leads_accepted bytes m l e few =
    ap (λ (x : Answer). x.number)
    (sym (not_too_large bytes (le-ltb 2097152 (length bytes) few))
    ∙ walk_reach bytes (length bytes) start 0
    ∙ ap answered l.leads
    ∙ sym (ends_complete m (length bytes) e))

-- ---- the end field with the steps, where one may stand
module _ (st : State) (b : begins st ≡ true) (few : st.steps ≤ 65535) where
  abbrev steps : ℕ
  steps = st.steps

  abbrev pub closed : State
  closed = gone_to st at_end st.left st.steps

  counted : eqb (be 4 (end_field steps) 3) steps ≡ true
  unfolding end_field be bytes_of
  counted =
      let back : be 4 (bytes_of 4 steps) 0 ≡ steps = be_bytes 4 steps ∙ mod-eq_of_lt (omega arith) in
      eq-eqb (be 4 (end_field steps) 3) steps back

  end_field_lem : field_at st (end_field steps) 0 ≡ Ok closed
  unfolding field_at head_of size_of kinds size_in be taken_by refused_by allowed stands_in value_of state_after roof_after end_field bytes_of
  end_field_lem = go (begins st) (eqb (be 4 (end_field steps) 3) steps) b counted
    where
      by : Bool → Bool → ℕ
      by b c = cond (not b) 4 (cond c 0 7)

      go : (b c : Bool) → b ≡ true → c ≡ true → cond (eqb (by b c) 0) (Ok closed) (Err (by b c)) ≡ Ok closed
      go b c eb ec = ap₂ (λ (b c : Bool). cond (eqb (by b c) 0) (Ok closed) (Err (by b c))) eb ec

  end_past : past (end_field steps) 0 ≡ 7
  unfolding end_field be bytes_of
  end_past = refl

  end_long : length (end_field steps) ≡ 7
  unfolding end_field bytes_of
  end_long = refl

  going : eqb st.stage 0 ≡ false
  going = go (eqb st.stage 0) refl
    where
      go : (z : Bool) → eqb st.stage 0 ≡ z → z ≡ false
      go false e = refl
      go true e = absurd (passed_failed b (ap (λ (n : ℕ). eqb n 4 || (eqb n 5 || (eqb n 9 && not st.current)) || eqb n 12) (eqb-true st.stage 0 e)))

  pub end_leads : Leads st (end_field steps) closed
  end_leads =
      leads_so (passing closed (omega (arith, end_long)) going end_field_lem (omega (arith, end_past, end_long)) (there refl (end_past ∙ sym end_long)))

-- ---- what is known of a file that a rescue takes
pub record Rescued (file : List ℕ) : Type 0 where
  pub fits : length file ≤ 2097152
  pub no_field_due : due (saved_of file).state (tag_at file (saved_of file).at) ≡ false
  pub small : length (output_of file) ≤ 2097152

pub rescued : (file : List ℕ) → (rescue_of file).number ≡ 0 → Rescued file
unfolding rescue_of saved_answer output_of
rescued file =
    go (ltb 2097152 (length file)) refl (due s.state (tag_at file s.at)) refl (eqb s.number 0) refl (ltb 2097152 (length (output_by s))) refl
  where
    s : Saved
    s = saved_of file

    go : (a : Bool) → ltb 2097152 (length file) ≡ a → (b : Bool) → due s.state (tag_at file s.at) ≡ b → (c : Bool) → eqb s.number 0 ≡ c
        → (d : Bool) → ltb 2097152 (length (output_by s)) ≡ d
        → (cond a (answer 12 0 0) (cond b (answer (cond c 8 s.number) s.at 0) (cond d (answer 12 0 0) (answer 0 (length file) s.state.steps)))).number ≡ 0
        → Rescued file
    go true ea b eb c ec d ed z = absurd (omega arith)
    go false ea true eb true ec d ed z = absurd (omega arith)
    go false ea true eb false ec d ed z = absurd (eqb-false s.number 0 ec z)
    go false ea false eb c ec true ed z = absurd (omega arith)
    go false ea false eb c ec false ed z = record {
      fits = ltb-false 2097152 (length file) ea;
      no_field_due = eb;
      small = ltb-false 2097152 (length (output_by s)) ed;
    }

-- where no field is due, the file has ended or its end may stand, but for a reading that is waited for
not_due : (st : State) (tag : ℕ) → due st tag ≡ false → eqb st.stage 0 ≡ false → waits st ≡ false → begins st ≡ true
unfolding due
not_due st tag d z w = go (eqb st.stage 0) (begins st) (only at_reading st) (only at_voltage st) ((opens st || only at_led st) && before_steps tag) d z w
  where
    go : (z b r v i : Bool) → (not (z || (b || r || v)) || i) ≡ false → z ≡ false → (r || v) ≡ false → b ≡ true
    go z true r v i d ez ew = refl
    go true false r v i d ez ew = absurd (passed_failed refl ez)
    go false false true v i d ez ew = absurd (passed_failed refl ew)
    go false false false true i d ez ew = absurd (passed_failed refl ew)
    go false false false false i d ez ew = absurd (passed_failed refl d)

-- ---- so the check accepts the output
pub output_accepted : (file : List ℕ) → (rescue_of file).number ≡ 0 → (check_of (output_of file)).number ≡ 0
unfolding output_of output_by
output_accepted file z = go (eqb s.state.stage 0) refl known.small
  where
    s : Saved
    s = saved_of file

    known : Rescued file
    known = rescued file z

    go : (b : Bool) → eqb s.state.stage 0 ≡ b → length (s.kept ++ cond b [] (end_field s.state.steps)) ≤ 2097152
        → (check_of (s.kept ++ cond b [] (end_field s.state.steps))).number ≡ 0
    go true e few =
        leads_accepted (s.kept ++ []) s.state (subst⁻¹ (λ (l : List ℕ). Leads start l s.state) (append-nil s.kept) (kept_leads file)) e few
    go false e few =
        let b : begins s.state ≡ true =
        not_due s.state (tag_at file s.at) known.no_field_due e (no_reading_waited file) in
        leads_accepted (s.kept ++ end_field s.state.steps) (closed s.state b (kept_few file))
        (leads_append s.kept (end_field s.state.steps) (kept_leads file) (end_leads s.state b (kept_few file))) refl few
