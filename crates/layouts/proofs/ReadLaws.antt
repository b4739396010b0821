-- An accepted file field by field, each at the head of the bytes that are left: what a field that was taken has passed, and what follows it. Assumes nothing.
use mathlib.Core.Path.{◌≡◌, refl, sym, ap, ap₂, ◌∙◌, subst}
use mathlib.Core.Bool.{Bool, true, false, cond}
use mathlib.Core.List.{List, [], ◌++◌}
use Prim.Native.Nat.{ℕ, ◌+◌, ◌≤◌, ◌<◌}
use native.Mathlib.Omega.{arith}
use lib.Dec.{ltb, eqb}
use lib.ListN.{length, get_or, take, drop, take-append-drop}
use lib.Seq.{length-take-le, drop-length, drop-drop, get_or-drop}
use borrow.Author.Tests.{eqb-true, ltb-false}
use Rattle.whole.proofs.Choice.{passed_failed}
use Rattle.parts.specs.Header.{tag_at, length_at, past}
use Rattle.fields.specs.declared.State.{State}
use Rattle.fields.specs.Fields.{size_of, allowed, too_many, value_of, state_after}
use Rattle.fields.proofs.TakenLaws.{not_many}
use Rattle.stick.specs.Check.{Answer, field_at, reach_of, start, answer, ends, walk, check_of, Accepted}
use Rattle.stick.specs.declared.Reached.{Reached}
use Rattle.stick.specs.Posts.{answered}
use Rattle.stick.proofs.WalkLaws.{field_cases}
use Rattle.stick.proofs.SaidLaws.{free_parts}
use Rattle.stick.proofs.ReachLaws.{walk_reach}
use Rattle.chunks.proofs.FieldChunks.{field_shift, past_shift}
use Rattle.chunks.proofs.ReachChunks.{Went, there, passing, apart, far_gone, far_all}
use Rattle.layouts.proofs.LieLaws.{Lies}
use Rattle.std.proofs.Common.{Ok}

-- ---- the field at the head of bytes is taken
pub record First (st : State) (b : List ℕ) : Type 0 where
  pub bytes : (i : ℕ) → get_or b i 0 < 256
  pub going : eqb st.stage 0 ≡ false
  pub size : length_at b 0 ≡ size_of st (tag_at b 0)
  pub all : past b 0 ≤ length b
  pub allows : allowed st (tag_at b 0) ≡ true
  pub few : too_many st (tag_at b 0) ≡ false
  pub value : value_of st (tag_at b 0) b 3 ≡ 0

-- from a state on, the fields of bytes go to their end, and end there
pub data Reads : State → List ℕ → Type 0 where
  ended : {st : State} {b : List ℕ} → st.stage ≡ 0 → b ≡ [] → Reads st b
  reads : {st : State} {b : List ℕ} → First st b → Reads (state_after st (tag_at b 0) b 3) (drop (past b 0) b) → Reads st b

-- of a tag, and at a state
module _ {st : State} {b : List ℕ} (f : First st b) where
  pub lies_at : (k : ℕ) → tag_at b 0 ≡ k → Lies b k (size_of st k)
  lies_at k e = record { bytes = f.bytes; tagged = e; long = f.size ∙ ap (size_of st) e; all = f.all }

  pub value_at : (k : ℕ) → tag_at b 0 ≡ k → value_of st k b 3 ≡ 0
  value_at k e = subst (λ (t : ℕ). value_of st t b 3 ≡ 0) e f.value

  pub allows_at : (k : ℕ) → tag_at b 0 ≡ k → allowed st k ≡ true
  allows_at k e = subst (λ (t : ℕ). allowed st t ≡ true) e f.allows

-- where the end is not reached a field follows, and by its tag the fields go on behind it
pub record Field (st : State) (b : List ℕ) : Type 0 where
  pub first : First st b
  pub more : (k : ℕ) → tag_at b 0 ≡ k → Reads (state_after st k b 3) (drop (past b 0) b)

pub field_first : {st : State} {b : List ℕ} → Reads st b → eqb st.stage 0 ≡ false → Field st b
field_first (ended z n) e = absurd (passed_failed (ap (λ (n : ℕ). eqb n 0) z) e)
field_first {st} {b} (reads f more) e = record { first = f; more = λ k t. subst (λ (t : ℕ). Reads (state_after st t b 3) (drop (past b 0) b)) t more }

-- nothing follows the end
pub at_end_lem : {st : State} {b : List ℕ} → Reads st b → st.stage ≡ 0 → b ≡ []
at_end_lem (ended z n) e = n
at_end_lem (reads f more) e = absurd (passed_failed (ap (λ (n : ℕ). eqb n 0) e) f.going)

-- ---- a field that is taken
first_taken : (st m : State) (b : List ℕ) → ((i : ℕ) → get_or b i 0 < 256) → eqb st.stage 0 ≡ false → field_at st b 0 ≡ Ok m
    → First st b × (state_after st (tag_at b 0) b 3 ≡ m)
first_taken st m b small going e =
    field_cases st b 0 (omega arith)
    (λ n z c. absurd (apart e (sym c)))
    (λ hd z c.
    let parts = free_parts st (tag_at b 0) b 3 z in
    let is : state_after st (tag_at b 0) b 3 ≡ m = cc in
    (record { bytes = small; going = going; size = hd.size; all = hd.all; allows = parts.0; few = not_many st (tag_at b 0) b 3 0 (sym z) refl; value = parts.1 }, is))

module _ (file : List ℕ) (small : (i : ℕ) → get_or file i 0 < 256) where
  went_reads : {s : State} {j : ℕ} {st : State} {i : ℕ} → Went file s j st i → i ≤ length file → j ≡ length file → s.stage ≡ 0 → Reads st (drop i file)
  went_reads {s} {j} {st} {i} (there e f) h l z = ended (ap (λ (s : State). s.stage) e ∙ z) (ap (λ (n : ℕ). drop n file) (f ∙ l) ∙ drop-length file)
  went_reads {s} {j} {st} {i} (passing m n g f w more) h l z =
      let a = take i file in
      let b = drop i file in
      let long : length a ≡ i = length-take-le i file h in
      let place : length a + 0 ≡ i = omega arith in
      let whole : a ++ b ≡ file = take-append-drop i file in
      let here : field_at st b 0 ≡ Ok m = sym (field_shift st a b 0) ∙ ap₂ (field_at st) whole place ∙ f in
      let at : past file i ≡ i + past b 0 = ap₂ past (sym whole) (sym place) ∙ past_shift a b 0 ∙ ap (λ (n : ℕ). n + past b 0) long in
      let rest : drop (past file i) file ≡ drop (past b 0) b = ap (λ (n : ℕ). drop n file) at ∙ sym (drop-drop (past b 0) i file) in
      let t = first_taken st m b (λ k. subst (λ (n : ℕ). n < 256) (sym (get_or-drop i file k 0)) (small (i + k))) g here in
      reads t.0 (subst (λ (s : State). Reads s (drop (past b 0) b)) (sym t.1) (subst (Reads m) rest (went_reads more w l z)))

  -- ---- of an accepted file: it is not too long, its fields go to its end, and there they end
  size_by_lem : (b : Bool) (x : Answer) → (cond b (answer 12 0 0) x).number ≡ 0 → (b ≡ false) × (x.number ≡ 0)
  size_by_lem true x e = absurd (omega arith)
  size_by_lem false x e = (refl, e)

  ends_by : (r : Reached) → (answered r).number ≡ 0 → (r.number ≡ 0) × (r.state.stage ≡ 0)
  unfolding ends
  ends_by r = go (eqb r.number 0) refl (eqb r.state.stage 0) refl
    where
      go : (n : Bool) → eqb r.number 0 ≡ n → (z : Bool) → eqb r.state.stage 0 ≡ z
          → (cond n (cond z (answer 0 r.at r.state.steps) (answer 8 r.at r.state.steps)) (answer r.number r.at r.state.steps)).number ≡ 0
          → (r.number ≡ 0) × (r.state.stage ≡ 0)
      go true e true f z = (eqb-true r.number 0 e, eqb-true r.state.stage 0 f)
      go true e false f z = absurd (omega arith)
      go false e end f z = absurd (passed_failed (ap (λ (n : ℕ). eqb n 0) z) e)

  pub accepted_reads : Accepted file → (length file ≤ 2097152) × Reads start file
  unfolding check_of
  accepted_reads ok =
      let k = length file in
      let s = size_by_lem (ltb 2097152 k) (walk k start file 0) ok.complete in
      let e = ends_by (reach_of k start file 0) (ap (λ (x : Answer). x.number) (sym (walk_reach file k start 0)) ∙ s.1) in
      let none : 0 ≤ length file = omega arith in
      let all = far_all file start 0 none e.0 in
      (ltb-false 2097152 k s.0, went_reads (far_gone file start 0 none).went none all e.1)
