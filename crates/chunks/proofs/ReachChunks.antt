-- How far the fields of a list of bytes go, where the list is a part of a longer one: the fields that are gone over stay as they are, whatever follows; a
-- refusal stands; and where the bytes ended, between two fields or within one, the fields go on from there. Assumes nothing.
use mathlib.Core.Path.{◌≡◌, refl, sym, ap, ap₂, ◌∙◌, subst, subst⁻¹}
use mathlib.Core.Bool.{Bool, true, false, cond, ◌&&◌}
use mathlib.Core.List.{List, ◌++◌, append_assoc}
use Prim.Native.Nat.{ℕ, zero, suc, ◌+◌, ◌≤◌, ◌<◌}
use native.Mathlib.Omega.{arith}
use lib.Dec.{leb, eqb}
use lib.ListN.{length, take, drop, length-append, take-append-drop}
use lib.Seq.{length-take-le}
use borrow.Author.Tests.{le-leb, lt-leb, leb-true, leb-false, eqb-true, eqb-false}
use Rattle.whole.specs.Interval.{between}
use Rattle.whole.proofs.Choice.{by_test}
use Rattle.whole.proofs.OverLaws.{and_parts}
use Rattle.octets.specs.BigEndian.{be}
use Rattle.unit.specs.Ranges.{seconds_in, edition_in}
use Rattle.parts.specs.Header.{header, tag_at, past}
use Rattle.fields.specs.declared.State.{State}
use Rattle.fields.specs.Fields.{head_of, fleet_in, is_reading, value_of, refused_by, roof_after, state_after, taken_by}
use Rattle.fields.proofs.TakenLaws.{stops, goes_on}
use Rattle.stick.specs.declared.Reached.{Reached}
use Rattle.stick.specs.Check.{field_at, reached, onward, reach_of}
use Rattle.stick.proofs.ReachLaws.{never_zero}
use Rattle.stick.proofs.WalkLaws.{field_stops, field_goes, field_cases}
use Rattle.stick.proofs.SaidLaws.{free_parts, accepted_test}
use Rattle.chunks.specs.Sizes.{largest_field}
use Rattle.chunks.specs.Holds.{moved}
use Rattle.chunks.proofs.FieldChunks.{Few, refused_not_one, head_of_shift, field_shift, past_shift, past_append, field_append, field_cut, head_cut_short}
use Rattle.std.proofs.Common.{Err, Ok, Result}

-- ---- no accepted field leads to more than 64 units: only the fleet says how many there are
pub fleet_counts : (file : List ℕ) (at : ℕ) → fleet_in file at ≡ true → (1 ≤ be 1 file (at + 1)) × (be 1 file (at + 1) ≤ 64)
unfolding fleet_in
fleet_counts file at e =
    let n = be 1 file (at + 1) in
    let form = edition_in (be 1 file at) in
    let both = and_parts (form && between 1 64 n) (seconds_in (be 4 file (at + 2))) e in
    let counted = and_parts (leb 1 n) (leb n 64) (and_parts form (between 1 64 n) both.0).1 in
    (leb-true 1 n counted.0, leb-true n 64 counted.1)

few_after : (st : State) (tag : ℕ) (file : List ℕ) (at : ℕ) → value_of st tag file at ≡ 0 → Few st → Few (state_after st tag file at)
unfolding value_of state_after roof_after
few_after st tag file at v few =
    by_test Few (eqb tag 1) _ _
    (λ t. (fleet_counts file at (accepted_test (fleet_in file at) (subst (λ (k : ℕ). value_of st k file at ≡ 0) (eqb-true tag 1 t) v))).1)
    (λ t. by_test Few (eqb tag 2) _ _ (λ t. by_test Few (leb st.left 1) _ _ (λ t. few) (λ t. few))
    (λ t. by_test Few (eqb tag 3) _ _ (λ t. few)
    (λ t. by_test Few (is_reading tag) _ _ (λ t. few)
    (λ t. by_test Few (eqb tag 6) _ _ (λ t. few)
    (λ t. by_test Few (eqb tag 7) _ _ (λ t. few)
    (λ t. by_test Few (eqb tag 8) _ _ (λ t. few)
    (λ t. by_test Few (eqb tag 10) _ _ (λ t. few)
    (λ t. by_test Few (eqb tag 11) _ _ (λ t. few)
    (λ t. by_test Few (eqb tag 12) _ _ (λ t. few) (λ t. few))))))))))

pub few_next : (st m : State) (file : List ℕ) (at : ℕ) → at ≤ length file → field_at st file at ≡ Ok m → Few st → Few m
few_next st m file at upto f few =
    field_cases st file at upto
    (λ n z e. let o : ◌≡◌ {A = ℕ} 0 1 = cc in absurd (omega arith))
    (λ hd z e.
    let is : state_after st (tag_at file at) file (at + header) ≡ m = cc in
    subst Few is (few_after st (tag_at file at) file (at + header) (free_parts st (tag_at file at) file (at + header) z).1 few))

-- ---- a field is not both accepted and refused, and is refused by one number
pub apart : {t : Result State ℕ} {s : State} {n : ℕ} → t ≡ Ok s → t ≡ Err n → ⊥
apart {t} {s} {n} a b = let z : ◌≡◌ {A = ℕ} 0 1 = cc in omega arith

same_number : {t : Result State ℕ} {m n : ℕ} → t ≡ Err m → t ≡ Err n → m ≡ n
same_number {t} {m} {n} a b = cc

-- ---- one field after another, with fields enough allowed
module _ (file : List ℕ) where
  abbrev pub by_field : ℕ → State → ℕ → Bool → Bool → Result State ℕ → Reached
  by_field k st at over ended t =
      cond over (reached 0 at st) (cond ended (reached 9 at st) (onward (λ (s : State). reach_of k s file (past file at)) at st t))

  pub reach_over : (k : ℕ) (st : State) (at : ℕ) → length file ≤ at → reach_of k st file at ≡ reached 0 at st
  unfolding reach_of
  reach_over zero st at h = refl
  reach_over (suc k) st at h = ap (λ (b : Bool). by_field k st at b (eqb st.stage 0) (field_at st file at)) (le-leb (length file) at h)

  -- however many are allowed, where they are enough
  pub reach_fuel : (j k : ℕ) (st : State) (at : ℕ) → length file ≤ at + j → length file ≤ at + k → reach_of j st file at ≡ reach_of k st file at
  unfolding reach_of
  reach_fuel zero k st at h l = sym (reach_over k st at (omega arith))
  reach_fuel (suc j) zero st at h l = reach_over (suc j) st at (omega arith)
  reach_fuel (suc j) (suc k) st at h l =
      ap (λ (r : Reached). cond (leb (length file) at) (reached 0 at st) (cond (eqb st.stage 0) (reached 9 at st) r))
      (go (λ s. reach_fuel j k s (past file at) (omega arith) (omega arith)) (field_at st file at))
    where
      go : ((s : State) → reach_of j s file (past file at) ≡ reach_of k s file (past file at)) → (t : Result State ℕ)
          → onward (λ (s : State). reach_of j s file (past file at)) at st t ≡ onward (λ (s : State). reach_of k s file (past file at)) at st t
      go more (Ok s) = more s
      go more (Err n) = refl

  pub reach_step : (k : ℕ) (st : State) (at : ℕ) (ended : Bool) (t : Result State ℕ) → length file ≤ at + k → at < length file → eqb st.stage 0 ≡ ended → field_at st file at ≡ t
      → reach_of k st file at ≡ by_field (length file) st at false ended t
  unfolding reach_of
  reach_step zero st at ended t h l e f = absurd (omega arith)
  reach_step (suc k) st at ended t h l e f =
      ap (λ (b : Bool). by_field k st at b (eqb st.stage 0) (field_at st file at)) (lt-leb (length file) at l)
      ∙ ap (λ (b : Bool). by_field k st at false b (field_at st file at)) e
      ∙ ap (by_field k st at false ended) f
      ∙ ap (cond ended (reached 9 at st)) (go t)
    where
      go : (t : Result State ℕ) → onward (λ (s : State). reach_of k s file (past file at)) at st t ≡ onward (λ (s : State). reach_of (length file) s file (past file at)) at st t
      go (Ok s) = reach_fuel k (length file) s (past file at) (omega arith) (omega arith)
      go (Err n) = refl

  -- ---- from a state and a place the fields are gone over, one by one, to a state and a place
  pub data Went (s : State) (j : ℕ) : State → ℕ → Type 0 where
    there : {st : State} {i : ℕ} → st ≡ s → i ≡ j → Went s j st i
    passing : {st : State} {i : ℕ} (m : State) → i < length file → eqb st.stage 0 ≡ false → field_at st file i ≡ Ok m → past file i ≤ length file
        → Went s j m (past file i) → Went s j st i

  pub went_upto : {s : State} {j : ℕ} {st : State} {i : ℕ} → Went s j st i → i ≤ length file → (i ≤ j) × (j ≤ length file)
  went_upto (there e f) h = (omega arith, omega arith)
  went_upto (passing m l e f w more) h = let r = went_upto more w in (omega (arith, r.0), r.1)

  pub went_few : {s : State} {j : ℕ} {st : State} {i : ℕ} → Went s j st i → Few st → Few s
  went_few (there e f) few = subst Few e few
  went_few {s} {j} {st} {i} (passing m l e f w more) few = went_few more (few_next st m file i (omega arith) f few)

  pub went_reach : {s : State} {j : ℕ} {st : State} {i : ℕ} → Went s j st i → (k n : ℕ) → length file ≤ i + k → length file ≤ j + n → reach_of k st file i ≡ reach_of n s file j
  went_reach {s} {j} {st} {i} (there e f) k n h l =
      ap₂ (λ (s : State) (p : ℕ). reach_of k s file p) e f ∙ reach_fuel k n s j (omega arith) l
  went_reach {s} {j} {st} {i} (passing m l e f w more) k n h o =
      reach_step k st i false (Ok m) h l e f ∙ went_reach more (length file) n (omega arith) o

  -- ---- why the fields stop there
  pub data Ending : Reached → Type 0 where
    all_gone : {r : Reached} → r.number ≡ 0 → r.at ≡ length file → Ending r
    after_end : {r : Reached} → r.number ≡ 9 → r.at < length file → eqb r.state.stage 0 ≡ true → Ending r
    refused : {r : Reached} → r.at < length file → eqb r.state.stage 0 ≡ false → field_at r.state file r.at ≡ Err r.number → Ending r

  pub record Gone (st : State) (at : ℕ) (r : Reached) : Type 0 where
    pub went : Went r.state r.at st at
    pub ending : Ending r

  pub gone : (k : ℕ) (st : State) (at : ℕ) → length file ≤ at + k → at ≤ length file → Gone st at (reach_of k st file at)
  unfolding reach_of
  gone zero st at h l = let e : at ≡ length file = omega arith in record { went = there refl refl; ending = all_gone {r = reached 0 at st} refl e }
  gone (suc k) st at h l =
      go (leb (length file) at) refl (eqb st.stage 0) refl (field_at st file at) refl (λ s w. gone k s (past file at) (omega arith) w)
    where
      go : (over : Bool) → leb (length file) at ≡ over → (ended : Bool) → eqb st.stage 0 ≡ ended → (t : Result State ℕ) → field_at st file at ≡ t
          → ((s : State) → past file at ≤ length file → Gone s (past file at) (reach_of k s file (past file at)))
          → Gone st at (by_field k st at over ended t)
      go true a ended b t c more =
          let m : length file ≤ at = leb-true (length file) at a in
          let e : at ≡ length file = omega arith in
          record { went = there refl refl; ending = all_gone {r = reached 0 at st} refl e }
      go false a true b t c more = record { went = there refl refl; ending = after_end {r = reached 9 at st} refl (leb-false (length file) at a) b }
      go false a false b (Err n) c more = record { went = there refl refl; ending = refused {r = reached n at st} (leb-false (length file) at a) b c }
      go false a false b (Ok s) c more =
          let m : at < length file = leb-false (length file) at a in
          let w : past file at ≤ length file = field_cases st file at l (λ n z f. absurd (apart c (sym f))) (λ hd z f. hd.all) in
          let g = more s w in
          record { went = passing s m b c w g.went; ending = g.ending }

-- ---- a field is refused by 1 only for its bytes
pub field_one : (st : State) (file : List ℕ) (at : ℕ) → field_at st file at ≡ Err 1 → head_of st file at ≡ 1
field_one st file at e = go (eqb (head_of st file at) 0) refl
  where
    N : ℕ
    N = refused_by st (tag_at file at) file (at + header)

    value : (b : Bool) → eqb N 0 ≡ b → taken_by st (tag_at file at) file (at + header) ≡ Err 1 → ⊥
    value true z f = apart (sym (goes_on st (tag_at file at) file (at + header) N refl (eqb-true N 0 z) (state_after st (tag_at file at) file (at + header)) refl)) f
    value false z f =
        refused_not_one st (tag_at file at) file (at + header) (same_number (sym (stops st (tag_at file at) file (at + header) N refl (eqb-false N 0 z))) f)

    go : (b : Bool) → eqb (head_of st file at) 0 ≡ b → head_of st file at ≡ 1
    go true z = absurd (value (eqb N 0) refl (field_goes st file at (head_of st file at) refl z ∙ e))
    go false z = same_number (sym (field_stops st file at (head_of st file at) refl z)) e

-- ---- behind other bytes the fields go as far as by themselves
module _ (a b : List ℕ) where
  pub over_shift : (i : ℕ) → leb (length (a ++ b)) (length a + i) ≡ leb (length b) i
  over_shift i = go (leb (length b) i) refl
    where
      go : (t : Bool) → leb (length b) i ≡ t → leb (length (a ++ b)) (length a + i) ≡ t
      go true e = let h : length b ≤ i = leb-true (length b) i e in le-leb (length (a ++ b)) (length a + i) (omega (arith, length-append a b))
      go false e = let h : i < length b = leb-false (length b) i e in lt-leb (length (a ++ b)) (length a + i) (omega (arith, length-append a b))

  pub reach_shift : (k : ℕ) (st : State) (i : ℕ) → reach_of k st (a ++ b) (length a + i) ≡ moved (length a) (reach_of k st b i)
  unfolding reach_of
  reach_shift zero st i = refl
  reach_shift (suc k) st i =
      ap₂ (λ (over : Bool) (t : Result State ℕ). by_field (a ++ b) k st (length a + i) over (eqb st.stage 0) t) (over_shift i) (field_shift st a b i)
      ∙ go (leb (length b) i) (eqb st.stage 0) (field_at st b i) (λ s. ap (reach_of k s (a ++ b)) (past_shift a b i) ∙ reach_shift k s (past b i))
    where
      go : (over ended : Bool) (t : Result State ℕ) → ((s : State) → reach_of k s (a ++ b) (past (a ++ b) (length a + i)) ≡ moved (length a) (reach_of k s b (past b i)))
          → by_field (a ++ b) k st (length a + i) over ended t ≡ moved (length a) (by_field b k st i over ended t)
      go true ended t more = refl
      go false true t more = refl
      go false false (Err n) more = refl
      go false false (Ok s) more = more s

  -- ---- before other bytes they go over the same fields; and without them too, where the fields end before these
  pub went_append : {s : State} {j : ℕ} {st : State} {i : ℕ} → Went a s j st i → Went (a ++ b) s j st i
  went_append (there e f) = there e f
  went_append {s} {j} {st} {i} (passing m l e f w more) =
      passing {st = st} {i = i} m (omega (arith, length-append a b)) e (field_append st a b i (Ok m) f (λ t. apart refl t)) (omega (arith, length-append a b, past_append a b i (omega arith)))
      (subst⁻¹ (Went (a ++ b) s j m) (past_append a b i (omega arith)) (went_append more))

  pub went_cut : {s : State} {j : ℕ} {st : State} {i : ℕ} → Went (a ++ b) s j st i → j ≤ length a → Went a s j st i
  went_cut (there e f) h = there e f
  went_cut {s} {j} {st} {i} (passing m l e f w more) h =
      let u = (went_upto (a ++ b) more w).0 in
      let in-a : past (a ++ b) i ≤ length a = omega arith in
      let same : past (a ++ b) i ≡ past a i = past_append a b i (omega arith) in
      passing {st = st} {i = i} m (omega arith) e (field_cut st a b i in-a ∙ f) (omega arith)
      (subst (Went a s j m) same (went_cut more h))

pub went_take : (p : List ℕ) {s : State} {j : ℕ} {st : State} {i : ℕ} → Went p s j st i → j ≤ length p → Went (take j p) s j st i
went_take p {s} {j} {st} {i} w h =
    let long : length (take j p) ≡ j = length-take-le j p h in
    went_cut (take j p) (drop j p) (subst⁻¹ (λ (l : List ℕ). Went l s j st i) (take-append-drop j p) w) (omega arith)

-- ---- the fields of p from a place on, and what follows p
module _ (p : List ℕ) (st : State) (i : ℕ) (upto : i ≤ length p) where
  abbrev pub far : Reached
  far = reach_of (length p) st p i

  pub far_gone : Gone p st i far
  far_gone = gone p (length p) st i (omega arith) upto

  pub far_from : i ≤ far.at
  far_from = (went_upto p far_gone.went upto).0

  pub far_upto : far.at ≤ length p
  far_upto = (went_upto p far_gone.went upto).1

  -- 0 only at the end of the bytes, 1 only where the bytes of a field are cut
  pub far_all : far.number ≡ 0 → far.at ≡ length p
  far_all z = go far far_upto far_gone.ending z
    where
      go : (r : Reached) → r.at ≤ length p → Ending p r → r.number ≡ 0 → r.at ≡ length p
      go r u (all_gone n e) z = e
      go r u (after_end n l b) z = absurd (omega (arith, n, z))
      go r u (refused l b f) z = absurd (never_zero r.state p r.at u r.number f z)

  pub record CutField (r : Reached) : Type 0 where
    pub head : head_of r.state (drop r.at p) 0 ≡ 1
    pub going : eqb r.state.stage 0 ≡ false
    pub bytes : r.at < length p
    pub short : length p < r.at + largest_field

  pub far_few : Few st → Few far.state
  far_few few = went_few p far_gone.went few

  pub far_cut : Few st → far.number ≡ 1 → CutField far
  far_cut few z = go far far_gone.ending (far_few few) z
    where
      go : (r : Reached) → Ending p r → Few r.state → r.number ≡ 1 → CutField r
      go r (all_gone n e) few z = absurd (omega (arith, n, z))
      go r (after_end n l b) few z = absurd (omega (arith, n, z))
      go r (refused l b f) few z =
          let one : head_of r.state p r.at ≡ 1 = field_one r.state p r.at (f ∙ ap Err z) in
          let long : length (take r.at p) ≡ r.at = length-take-le r.at p (omega arith) in
          let place : length (take r.at p) + 0 ≡ r.at = omega arith in
          record {
            head =
                sym (head_of_shift r.state (take r.at p) (drop r.at p) 0)
                ∙ ap₂ (head_of r.state) (take-append-drop r.at p) place
                ∙ one;
            going = b;
            bytes = l;
            short = head_cut_short r.state few p r.at one;
          }

  -- the bytes up to there, by themselves
  pub reach_take : reach_of (length (take far.at p)) st (take far.at p) i ≡ reached 0 far.at far.state
  reach_take =
      let long : length (take far.at p) ≡ far.at = length-take-le far.at p far_upto in
      let a = take far.at p in
      went_reach a (went_take p far_gone.went far_upto) (length a) 0 (omega arith) (omega arith)
      ∙ reach_over a 0 far.state far.at (omega arith)

  module _ (c : List ℕ) where
    -- (b) whatever follows, the fields go on from there
    pub reach_on : reach_of (length (p ++ c)) st (p ++ c) i ≡ reach_of (length (p ++ c)) far.state (p ++ c) far.at
    reach_on = went_reach (p ++ c) (went_append p c far_gone.went) (length (p ++ c)) (length (p ++ c)) (omega arith) (omega arith)

    -- (a) a refusal stands
    pub reach_stays : (far.number ≡ 0 → ⊥) → (far.number ≡ 1 → ⊥) → reach_of (length (p ++ c)) st (p ++ c) i ≡ far
    reach_stays z o = reach_on ∙ go far far_gone.ending z o
      where
        go : (r : Reached) → Ending p r → (r.number ≡ 0 → ⊥) → (r.number ≡ 1 → ⊥) → reach_of (length (p ++ c)) r.state (p ++ c) r.at ≡ r
        go r (all_gone n e) z o = absurd (z n)
        go r (after_end n l b) z o =
            reach_step (p ++ c) (length (p ++ c)) r.state r.at true (field_at r.state (p ++ c) r.at) (omega arith) (omega (arith, length-append p c)) b refl
            ∙ ap (λ (n : ℕ). reached n r.at r.state) (sym n)
        go r (refused l b f) z o =
            reach_step (p ++ c) (length (p ++ c)) r.state r.at false (Err r.number) (omega arith) (omega (arith, length-append p c)) b
            (field_append r.state p c r.at (Err r.number) f (λ e. o (same_number refl e)))

    -- (c) and as they do by themselves from there
    pub reach_append : reach_of (length (p ++ c)) st (p ++ c) i ≡ moved far.at (reach_of (length (drop far.at p ++ c)) far.state (drop far.at p ++ c) 0)
    reach_append =
        let a = take far.at p in
        let rest = drop far.at p ++ c in
        let long : length a ≡ far.at = length-take-le far.at p far_upto in
        let place : far.at ≡ length a + 0 = omega arith in
        let split : p ++ c ≡ a ++ rest = ap (λ (l : List ℕ). l ++ c) (sym (take-append-drop far.at p)) ∙ append_assoc a (drop far.at p) c in
        let total : length (p ++ c) ≡ length a + length rest = ap length split ∙ length-append a rest in
        reach_on
        ∙ ap₂ (reach_of (length (p ++ c)) far.state) split place
        ∙ reach_shift a rest (length (p ++ c)) far.state 0
        ∙ ap₂ moved long (reach_fuel rest (length (p ++ c)) (length rest) far.state 0 (omega arith) (omega arith))
