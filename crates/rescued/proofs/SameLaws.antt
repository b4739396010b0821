-- An accepted file comes back from a rescue as it is: its walk goes over every field to the end field and the end of the bytes, so all is kept and nothing
-- is dropped. So does what a rescue gives, since the check accepts it. Assumes nothing.
use mathlib.Core.Path.{◌≡◌, refl, sym, ap, ap₂, ◌∙◌, subst⁻¹}
use mathlib.Core.Bool.{Bool, true, false, not, cond, ◌&&◌, ◌||◌}
use mathlib.Core.List.{List, [], ◌∷◌, ◌++◌, append-nil}
use Prim.Native.Nat.{ℕ, ◌+◌, ◌-◌, ◌≤◌}
use native.Mathlib.Omega.{arith}
use lib.Dec.{ltb, eqb}
use lib.ListN.{length, take, drop, take-append-drop, drop_of_length-le}
use lib.Seq.{slice, length-take-le, drop-append-le}
use borrow.Author.Tests.{ltb-false, le-ltb, le-leb, eq-eqb, eqb-true, eqb-false}
use Rattle.parts.specs.Header.{tag_at, past}
use Rattle.fields.specs.declared.State.{State}
use Rattle.stick.specs.Check.{Answer, answer, ends, start, check_of}
use Rattle.stick.specs.declared.Reached.{Reached}
use Rattle.stick.specs.Posts.{answered}
use Rattle.stick.proofs.WalkLaws.{too_large, not_too_large}
use Rattle.stick.proofs.ReachLaws.{walk_reach}
use Rattle.chunks.proofs.ReachChunks.{Went, there, passing, far, far_gone, far_all}
use Rattle.rescue.specs.Saved.{Saved, saved, ends_at, keeping, bytes_at, kept, before_steps, due, save_from, saved_of}
use Rattle.rescue.specs.Answers.{change, end_field, output_by, output_of, last_by, changes_by, changes_of, saved_answer, rescue_of}
use Rattle.rescue.proofs.SaveLaws.{save_over, save_step}
use Rattle.rescued.proofs.AcceptedLaws.{output_accepted}
use Rattle.std.proofs.Common.{Ok}

-- a field's bytes and all behind it are all from there on
with_rest : (file : List ℕ) (i n : ℕ) → i ≤ n → n ≤ length file → slice i n file ++ drop n file ≡ drop i file
with_rest file i n l h =
    let long : length (take n file) ≡ n = length-take-le n file h in
    sym (drop-append-le i (take n file) (drop n file) (omega arith)) ∙ ap (drop i) (take-append-drop n file)

-- ---- where the fields go to the end of the bytes and the last is the end field, all is kept
module _ (file : List ℕ) (m : State) (ended : m.stage ≡ 0) where
  whole_kept : {j : ℕ} {st : State} {i : ℕ} → Went file m j st i → j ≡ length file → i ≤ length file → (k : ℕ) → length file ≤ i + k
      → save_from k st file i ≡ saved 0 (length file) m (drop i file) []
  whole_kept {j} {st} {i} (there e f) a h k enough =
      let at : i ≡ length file = f ∙ a in
      let over : length file ≤ i = omega arith in
      let none : drop i file ≡ [] = drop_of_length-le file over in
      save_over file k st i (omega arith)
      ∙ ap₂ (λ (n : ℕ) (s : State). ends_at 0 n s) at e
      ∙ ap (λ (l : List ℕ). saved 0 (length file) m l []) (sym none)
  whole_kept {j} {st} {i} (passing s l e f w more) a h k enough =
      save_step file k st i false (Ok s) enough l e f
      ∙ ap (kept st i (bytes_at file i)) (whole_kept more a w (length file) (omega arith))
      ∙ ap (λ (n : ℕ). cond (eqb n 8 || eqb n 11) (ends_at 0 i st) (keeping (bytes_at file i) [] (saved 0 (length file) m (drop (past file i) file) []))) ended
      ∙ ap (λ (l : List ℕ). saved 0 (length file) m l []) (with_rest file i (past file i) (omega arith) w)

-- ---- behind the end field at the end of the bytes nothing is dropped and no field is due
nothing_last : (s : Saved) (n : ℕ) → s.state.stage ≡ 0 → n ≤ s.at → last_by s n ≡ []
unfolding last_by
nothing_last s n e l =
    ap₂ (λ (z b : Bool). cond z (cond b [] (change s.at 3 (n - s.at) ∷ [])) (change s.at 2 (n - s.at) ∷ [])) (eq-eqb s.state.stage 0 e) (le-leb n s.at l)

ended_not_due : (st : State) (tag : ℕ) → st.stage ≡ 0 → due st tag ≡ false
unfolding due
ended_not_due st tag e =
    let opening : ℕ → Bool = λ n. eqb n 5 || (eqb n 9 && not st.current) in
    ap (λ (n : ℕ). not (eqb n 0 || (eqb n 4 || opening n || eqb n 12 || eqb n 8 || eqb n 11)) || ((opening n || eqb n 12) && before_steps tag)) e

answers_zero : (s : Saved) (tag n : ℕ) → due s.state tag ≡ false → length (output_by s) ≤ 2097152 → (saved_answer s tag n).number ≡ 0
unfolding saved_answer
answers_zero s tag n d few =
    let refusal : Answer = answer (cond (eqb s.number 0) 8 s.number) s.at 0 in
    ap₂ (λ (b c : Bool). (cond b refusal (cond c (answer 12 0 0) (answer 0 n s.state.steps))).number) d (le-ltb 2097152 (length (output_by s)) few)

-- ---- the check answers 0 only where the fields go to the end of the bytes and the last is the end field
by_answer : (r : Reached) → (answered r).number ≡ 0 → (r.number ≡ 0) × (r.state.stage ≡ 0)
unfolding ends
by_answer r = go (eqb r.number 0) refl (eqb r.state.stage 0) refl
  where
    go : (a : Bool) → eqb r.number 0 ≡ a → (b : Bool) → eqb r.state.stage 0 ≡ b
        → (cond a (cond b (answer 0 r.at r.state.steps) (answer 8 r.at r.state.steps)) (answer r.number r.at r.state.steps)).number ≡ 0
        → (r.number ≡ 0) × (r.state.stage ≡ 0)
    go true ea true eb z = (eqb-true r.number 0 ea, eqb-true r.state.stage 0 eb)
    go true ea false eb z = absurd (omega arith)
    go false ea b eb z = absurd (eqb-false r.number 0 ea z)

-- ---- an accepted file
module _ (file : List ℕ) (ok : (check_of file).number ≡ 0) where
  not_large : length file ≤ 2097152
  not_large = go (ltb 2097152 (length file)) refl
    where
      go : (b : Bool) → ltb 2097152 (length file) ≡ b → length file ≤ 2097152
      go false e = ltb-false 2097152 (length file) e
      go true e = let z : ◌≡◌ {A = ℕ} 12 0 = ap (λ (x : Answer). x.number) (too_large file e) ∙ ok in absurd (omega arith)

  first : 0 ≤ length file
  first = omega arith

  abbrev reaches : Reached
  reaches = far file start 0 first

  abbrev m : State
  m = reaches.state

  known : (reaches.number ≡ 0) × (m.stage ≡ 0)
  known =
      by_answer reaches
      (ap (λ (x : Answer). x.number) (sym (walk_reach file (length file) start 0) ∙ not_too_large file (le-ltb 2097152 (length file) not_large)) ∙ ok)

  all_saved : saved_of file ≡ saved 0 (length file) m file []
  unfolding saved_of
  all_saved = whole_kept file m known.1 (far_gone file start 0 first).went (far_all file start 0 first known.0) first (length file) (omega arith)

  -- the output of what is saved so
  output_is : output_by (saved 0 (length file) m file []) ≡ file
  unfolding output_by
  output_is = ap (λ (n : ℕ). file ++ cond (eqb n 0) [] (end_field m.steps)) known.1 ∙ append-nil file

  pub same : output_of file ≡ file
  unfolding output_of
  same = ap output_by all_saved ∙ output_is

  pub no_change : changes_of file ≡ []
  unfolding changes_of changes_by
  no_change = ap (λ (s : Saved). changes_by s (length file)) all_saved ∙ nothing_last (saved 0 (length file) m file []) (length file) known.1 (omega arith)

  pub taken : (rescue_of file).number ≡ 0
  unfolding rescue_of
  taken =
      let s : Saved = saved 0 (length file) m file [] in
      let few : length (output_by s) ≤ 2097152 = subst⁻¹ (λ (l : List ℕ). length l ≤ 2097152) output_is not_large in
      let by : Bool → Saved → Answer = λ b s. cond b (answer 12 0 0) (saved_answer s (tag_at file s.at) (length file)) in
      ap₂ (λ (b : Bool) (s : Saved). (by b s).number) (le-ltb 2097152 (length file) not_large) all_saved
      ∙ answers_zero s (tag_at file (length file)) (length file) (ended_not_due m (tag_at file (length file)) known.1) few

-- ---- rescuing the output changes nothing
pub same_again : (file : List ℕ) → (rescue_of file).number ≡ 0 → output_of (output_of file) ≡ output_of file
same_again file z = same (output_of file) (output_accepted file z)

pub no_change_again : (file : List ℕ) → (rescue_of file).number ≡ 0 → changes_of (output_of file) ≡ []
no_change_again file z = no_change (output_of file) (output_accepted file z)
