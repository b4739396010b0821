-- The places of the fields, the steps and what the step under way has, where a list of bytes that ends between two fields is followed by another: first
-- those of the one, then those of the other. Assumes nothing.
use mathlib.Core.Path.{◌≡◌, refl, sym, ap, ap₂, ◌∙◌, subst, subst⁻¹}
use mathlib.Core.Bool.{Bool, true, false, cond}
use mathlib.Core.List.{List, [], ◌∷◌, ◌++◌, map}
use Prim.Native.Nat.{ℕ, zero, suc, ◌+◌, ◌≤◌}
use native.Mathlib.Nat.{add-zero}
use native.Mathlib.Omega.{arith}
use lib.Dec.{leb, lit≤}
use lib.ListN.{length, take, length-append}
use lib.Seq.{length-take-le}
use Rattle.whole.proofs.Choice.{by_test}
use Rattle.parts.specs.Header.{tag_at, length_at, past}
use Rattle.site.specs.declared.Step.{Step}
use Rattle.site.specs.declared.Due.{Due}
use Rattle.site.specs.Site.{step_with}
use Rattle.fields.specs.declared.State.{State}
use Rattle.fields.specs.Fields.{is_reading, kinds, size_in, size_of}
use Rattle.fields.proofs.FieldLaws.{by_tag, size_else}
use Rattle.stick.specs.Check.{field_at, start}
use Rattle.stick.specs.Site.{places_from, reading_at, due_after, steps_in, due_in, steps_from, due_from}
use Rattle.stick.proofs.WalkLaws.{field_cases}
use Rattle.stick.proofs.PlaceLaws.{from, from_over, from_field, steps_over, due_over, steps_first, due_first_lem, same as places-fuel}
use Rattle.chunks.proofs.SameLaws.{Same, reading_same, due_same}
use Rattle.chunks.proofs.FieldChunks.{same_behind, same_before, tag_shift, past_shift, tag_append, past_append}
use Rattle.chunks.proofs.ReachChunks.{over_shift, Went, there, passing, went_take, far, far_gone, far_upto}
use Rattle.std.proofs.Common.{Ok}

-- ---- the bytes from a place on are whole fields: each has at least the bytes of its tag's value, and ends within the list
pub record FieldThere (a : List ℕ) (i : ℕ) : Type 0 where
  pub size : size_of start (tag_at a i) ≤ length_at a i
  pub all : past a i ≤ length a

pub data Whole (a : List ℕ) : ℕ → Type 0 where
  whole_end : {i : ℕ} → i ≡ length a → Whole a i
  whole_field : {i : ℕ} → FieldThere a i → Whole a (past a i) → Whole a i

pub whole_upto : {a : List ℕ} {i : ℕ} → Whole a i → i ≤ length a
whole_upto (whole_end e) = omega arith
whole_upto (whole_field f w) = let l = f.all in omega arith

-- at the start a unit is not longer than at any other time, nor are the connections
pub size_least : (st : State) (tag : ℕ) → size_of start tag ≤ size_of st tag
unfolding size_of kinds size_in
size_least st tag =
    by_tag (λ (t : ℕ). size_of start t ≤ size_of st t) tag
    (lit≤ tt) (by_test (λ (n : ℕ). 49 ≤ n) (leb 2 st.edition) 57 49 (λ t. lit≤ tt) (λ t. lit≤ tt)) (lit≤ tt) (lit≤ tt) (lit≤ tt) (lit≤ tt) (lit≤ tt) (lit≤ tt) (lit≤ tt) (omega arith) (lit≤ tt) (lit≤ tt)
    (λ n.
    let a = size_else start tag n in
    let b = size_else st tag n in
    let c = a ∙ sym b in
    omega (arith, c))

-- the bytes that the fields go over are whole fields
pub accepted_there : (st m : State) (a : List ℕ) (i : ℕ) → i ≤ length a → field_at st a i ≡ Ok m → FieldThere a i
accepted_there st m a i h f =
    field_cases st a i h
    (λ n z e. let o : ◌≡◌ {A = ℕ} 0 1 = cc in absurd (omega arith))
    (λ hd z e. let s = size_least st (tag_at a i) in let n = hd.size in record { size = omega arith; all = hd.all })

pub went_whole : (a : List ℕ) {s : State} {j : ℕ} {st : State} {i : ℕ} → Went a s j st i → j ≡ length a → Whole a i
went_whole a (there e f) h = whole_end (f ∙ h)
went_whole a {s} {j} {st} {i} (passing m l e f w more) h = whole_field (accepted_there st m a i (omega arith) f) (went_whole a more h)

pub reach_whole : (p : List ℕ) (st : State) (i : ℕ) (upto : i ≤ length p) → Whole (take (far p st i upto).at p) i
reach_whole p st i upto =
    let r = far p st i upto in
    let u = far_upto p st i upto in
    went_whole (take r.at p) (went_take p (far_gone p st i upto).went u) (sym (length-take-le r.at p u))

-- ---- the places
module _ (a b : List ℕ) where
  abbrev pub behind : List ℕ → List ℕ
  behind ats = map (λ (p : ℕ). length a + p) ats

  places_moved : (k i : ℕ) → places_from k (a ++ b) (length a + i) ≡ behind (places_from k b i)
  unfolding places_from
  places_moved zero i = refl
  places_moved (suc k) i =
      ap₂ (λ (t : Bool) (ats : List ℕ). cond t [] ((length a + i) ∷ ats)) (over_shift a b i) (ap (places_from k (a ++ b)) (past_shift a b i) ∙ places_moved k (past b i))
      ∙ go (leb (length b) i)
    where
      go : (t : Bool) → cond t [] ((length a + i) ∷ behind (places_from k b (past b i))) ≡ behind (cond t [] (i ∷ places_from k b (past b i)))
      go true = refl
      go false = refl

  pub places_shift : (i : ℕ) → from (a ++ b) (length a + i) ≡ behind (from b i)
  places_shift i =
      places_moved (length (a ++ b)) i ∙ ap behind (places-fuel b (length (a ++ b)) (length b) i (omega (arith, length-append a b)) (omega arith))

  -- the other begins where the one ends
  pub at_end_lem : {A : Type 0} (f : ℕ → A) (i : ℕ) → i ≡ length a → f i ≡ f (length a + 0)
  at_end_lem f i e = ap f (let z : length a + 0 ≡ length a = add-zero (length a) in omega arith)

  pub places_append : {i : ℕ} → Whole a i → from (a ++ b) i ≡ from a i ++ behind (from b 0)
  places_append {i} (whole_end e) =
      at_end_lem (from (a ++ b)) i e ∙ places_shift 0 ∙ sym (ap (λ (l : List ℕ). l ++ behind (from b 0)) (from_over a i (omega arith)))
  places_append {i} (whole_field f w) =
      let l = f.all in
      from_field (a ++ b) i (omega (arith, length-append a b))
      ∙ ap (λ (p : ℕ). i ∷ from (a ++ b) p) (past_append a b i (omega arith))
      ∙ ap (λ (ats : List ℕ). i ∷ ats) (places_append w)
      ∙ sym (ap (λ (ats : List ℕ). ats ++ behind (from b 0)) (from_field a i (omega arith)))

-- ---- whole fields behind other bytes, and behind other whole fields
module _ (a b : List ℕ) where
  pub whole_shift : {i : ℕ} → Whole b i → Whole (a ++ b) (length a + i)
  whole_shift {i} (whole_end e) = let l : length a + i ≡ length (a ++ b) = omega (arith, length-append a b) in whole_end l
  whole_shift {i} (whole_field f w) =
      let p = past_shift a b i in
      let size = f.size in
      let all = f.all in
      let tag = ap (size_of start) (tag_shift a b i) in
      let l : past (a ++ b) (length a + i) ≤ length (a ++ b) = omega (arith, length-append a b) in
      let s : size_of start (tag_at (a ++ b) (length a + i)) ≤ length_at (a ++ b) (length a + i) = omega arith in
      whole_field (record { size = s; all = l }) (subst⁻¹ (Whole (a ++ b)) p (whole_shift w))

  pub whole_append : {i : ℕ} → Whole a i → Whole b 0 → Whole (a ++ b) i
  whole_append {i} (whole_end e) v = subst (Whole (a ++ b)) (let z : length a + 0 ≡ i = omega arith in z) (whole_shift v)
  whole_append {i} (whole_field f w) v =
      let all = f.all in
      let p : past (a ++ b) i ≡ past a i = past_append a b i (omega arith) in
      let tag = ap (size_of start) (tag_append a b i (omega arith)) in
      let size = f.size in
      let l : past (a ++ b) i ≤ length (a ++ b) = omega (arith, length-append a b) in
      let s : size_of start (tag_at (a ++ b) i) ≤ length_at (a ++ b) i = omega arith in
      whole_field (record { size = s; all = l }) (subst⁻¹ (Whole (a ++ b)) p (whole_append w v))

-- ---- the steps and what the step under way has
module _ (a b : List ℕ) where
  -- ---- behind other bytes
  after_moved : (d : Due) (i : ℕ) → due_after (a ++ b) d (length a + i) ≡ due_after b d i
  after_moved d i = due_same (a ++ b) b (length a + i) i (same_behind a b i 1) (λ e. same_behind a b i 19) (λ e. same_behind a b i 5) d

  steps_moved : (d : Due) (ats : List ℕ) → steps_in (a ++ b) d (behind a b ats) ≡ steps_in b d ats
  unfolding steps_in
  steps_moved d [] = refl
  steps_moved d (i ∷ ats) =
      let tag = tag_shift a b i in
      let reading = reading_same (a ++ b) b (length a + i) i (same_behind a b i 1) (λ k l e. same_behind a b i 27) in
      let more = ap (λ (e : Due). steps_in (a ++ b) e (behind a b ats)) (after_moved d i) ∙ steps_moved (due_after b d i) ats in
      λ j. cond (is_reading (tag j)) (step_with (reading j) d ∷ more j) (more j)

  due_moved : (d : Due) (ats : List ℕ) → due_in (a ++ b) d (behind a b ats) ≡ due_in b d ats
  unfolding due_in
  due_moved d [] = refl
  due_moved d (i ∷ ats) = ap (λ (e : Due). due_in (a ++ b) e (behind a b ats)) (after_moved d i) ∙ due_moved (due_after b d i) ats

  pub steps_shift : (d : Due) (i : ℕ) → steps_from (a ++ b) d (length a + i) ≡ steps_from b d i
  unfolding steps_from
  steps_shift d i = ap (steps_in (a ++ b) d) (places_shift a b i) ∙ steps_moved d (from b i)

  pub due_shift : (d : Due) (i : ℕ) → due_from (a ++ b) d (length a + i) ≡ due_from b d i
  unfolding due_from
  due_shift d i = ap (due_in (a ++ b) d) (places_shift a b i) ∙ due_moved d (from b i)

  -- ---- before other bytes, a field that is there says the same
  module _ {i : ℕ} (f : FieldThere a i) where
    there_below : i + 3 ≤ length a
    there_below = let l = f.all in omega arith

    there_long : (n : ℕ) → n ≤ 3 + size_of start (tag_at a i) → Same a (a ++ b) i i n
    there_long n h = let l = f.all in let s = f.size in same_before a b i n (omega arith)

    pub there_tag : tag_at (a ++ b) i ≡ tag_at a i
    there_tag = tag_append a b i (let l = there_below in omega arith)

    pub there_past : past (a ++ b) i ≡ past a i
    there_past = past_append a b i there_below

    there_reading : reading_at (a ++ b) i ≡ reading_at a i
    there_reading = sym (reading_same a (a ++ b) i i (there_long 1 (omega arith)) (λ k l e. there_long 27 (let size = ap (size_of start) e ∙ l in omega arith)))

    there_due : (d : Due) → due_after (a ++ b) d i ≡ due_after a d i
    unfolding size_of kinds size_in
    there_due d =
        sym (due_same a (a ++ b) i i (there_long 1 (omega arith))
        (λ e. there_long 19 (subst⁻¹ (λ (t : ℕ). 19 ≤ 3 + size_of start t) e (lit≤ tt)))
        (λ e. there_long 5 (subst⁻¹ (λ (t : ℕ). 5 ≤ 3 + size_of start t) e (lit≤ tt))) d)

  pub steps_append : {i : ℕ} → Whole a i → (d : Due) → steps_from (a ++ b) d i ≡ steps_from a d i ++ steps_from b (due_from a d i) 0
  steps_append {i} (whole_end e) d =
      at_end_lem a b (steps_from (a ++ b) d) i e ∙ steps_shift d 0
      ∙ sym (ap₂ (λ (l : List Step) (d : Due). l ++ steps_from b d 0) (steps_over a i (omega arith) d) (due_over a i (omega arith) d))
  steps_append {i} (whole_field f w) d =
      let below : i + 3 ≤ length a = there_below f in
      let tag = there_tag f in
      let reading = there_reading f in
      let more = ap₂ (steps_from (a ++ b)) (there_due f d) (there_past f) ∙ steps_append w (due_after a d i) in
      steps_first (a ++ b) i (omega (arith, length-append a b)) d
      ∙ (λ j. cond (is_reading (tag j)) (step_with (reading j) d ∷ more j) (more j))
      ∙ go (is_reading (tag_at a i)) (step_with (reading_at a i) d) (steps_from a (due_after a d i) (past a i)) (steps_from b (due_from a (due_after a d i) (past a i)) 0)
      ∙ sym (ap₂ (λ (l : List Step) (d : Due). l ++ steps_from b d 0) (steps_first a i (omega arith) d) (due_first_lem a i (omega arith) d))
    where
      go : (r : Bool) (s : Step) (xs ys : List Step) → cond r (s ∷ (xs ++ ys)) (xs ++ ys) ≡ cond r (s ∷ xs) xs ++ ys
      go true s xs ys = refl
      go false s xs ys = refl

  pub due_append : {i : ℕ} → Whole a i → (d : Due) → due_from (a ++ b) d i ≡ due_from b (due_from a d i) 0
  due_append {i} (whole_end e) d =
      at_end_lem a b (due_from (a ++ b) d) i e ∙ due_shift d 0 ∙ sym (ap (λ (d : Due). due_from b d 0) (due_over a i (omega arith) d))
  due_append {i} (whole_field f w) d =
      let below : i + 3 ≤ length a = there_below f in
      due_first_lem (a ++ b) i (omega (arith, length-append a b)) d
      ∙ ap₂ (due_from (a ++ b)) (there_due f d) (there_past f)
      ∙ due_append w (due_after a d i)
      ∙ sym (ap (λ (d : Due). due_from b d 0) (due_first_lem a i (omega arith) d))
