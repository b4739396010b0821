-- A field of a list of bytes that is a part of a longer list: behind other bytes a field is as it is by itself, and before other bytes it is as it is by itself
-- unless its own bytes are not all there. No field has more than `largest_field` bytes. Assumes nothing.
use mathlib.Core.Path.{◌≡◌, refl, sym, ap, ap₂, ◌∙◌, subst⁻¹}
use mathlib.Core.Bool.{Bool, true, false, not, cond, ◌&&◌}
use mathlib.Core.List.{List, ◌++◌}
use mathlib.Core.Logic.{◌⊎◌, inl, inr}
use Prim.Native.Nat.{ℕ, ◌+◌, ◌-◌, ◌≤◌, ◌<◌}
use native.Mathlib.Nat.{add_assoc}
use native.Mathlib.Omega.{arith}
use lib.Dec.{leb, ltb, eqb, lit≤}
use lib.ListN.{length, take, drop, length-append, take-append-drop, get_or-append}
use lib.Seq.{get_or-append-add, length-take-le, take_all}
use borrow.Author.Tests.{leb-true, leb-false, ltb-true, ltb-false, le-ltb, eqb-true, eqb-false}
use Rattle.whole.proofs.Choice.{by_test}
use Rattle.octets.specs.BigEndian.{be}
use Rattle.reading.specs.Choice.{usable_of, refusal_of}
use Rattle.reading.specs.Conversion.{watts_of, milli_of}
use Rattle.curve.specs.Layout.{curve_in}
use Rattle.unit.specs.Ranges.{unit_in}
use Rattle.rules.specs.Ranges.{settings_in}
use Rattle.lead.specs.Lead.{voltage_in}
use Rattle.solar.specs.Roof.{inverter_in}
use Rattle.solar.specs.Weather.{sky_of}
use Rattle.parts.specs.Header.{header, tag_at, length_at, past}
use Rattle.fields.specs.declared.State.{State}
use Rattle.fields.specs.Fields.{kinds, size_in, size_of, head_of, allowed, fleet_in, unit_at, settings_at, phase_at, phases_at, inverter_at, bounds_at, weather_at, six_unless, five_unless, value_of, too_many, refused_by, taken_by, connections_in, base_in}
use Rattle.fields.proofs.FieldLaws.{by_tag, size_else}
use Rattle.stick.specs.Check.{field_at}
use Rattle.stick.proofs.WalkLaws.{field_stops, field_goes, Headed, headed}
use Rattle.chunks.specs.Sizes.{largest_field}
use Rattle.chunks.proofs.SameLaws.{Same, same_from, same_less, tag_same, length_same, taken_same}
use Rattle.std.proofs.Common.{Err, None, Option, Result, Some, ℤ}
use Rattle.solar.specs.declared.Sun.{Sun}

-- ---- the bytes of a list behind another, and before another
pub same_behind : (a b : List ℕ) (i n : ℕ) → Same (a ++ b) b (length a + i) i n
same_behind a b i n k l = rw (add_assoc (length a) i k, get_or-append-add a b (i + k) 0)

pub same_before : (a b : List ℕ) (i n : ℕ) → i + n ≤ length a → Same a (a ++ b) i i n
same_before a b i n h k l = sym (get_or-append a b 0 (i + k) (omega arith))

-- ---- no value has more bytes than the largest field has behind its header
abbrev most : ℕ
most = largest_field - header

-- of a state with at most 64 units
abbrev pub Few : State → Type 0
Few st = st.units ≤ 64

pub size_most : (st : State) → Few st → (tag : ℕ) → (size_of st tag ≤ most) ⊎ (size_of st tag ≡ 65536)
unfolding size_of kinds size_in
size_most st few tag =
    by_tag (λ (t : ℕ). (size_of st t ≤ most) ⊎ (size_of st t ≡ 65536)) tag
    (inl (lit≤ tt)) (inl (by_test (λ (n : ℕ). n ≤ most) (leb 2 st.edition) 57 49 (λ t. lit≤ tt) (λ t. lit≤ tt)))
    (inl (lit≤ tt)) (inl (lit≤ tt)) (inl (lit≤ tt)) (inl (lit≤ tt)) (inl (lit≤ tt)) (inl (lit≤ tt)) (inl (lit≤ tt)) (inl (omega arith)) (inl (lit≤ tt)) (inl (lit≤ tt))
    (λ n. subst⁻¹ (λ (k : ℕ). (k ≤ most) ⊎ (k ≡ 65536)) (size_else st tag n) (last (eqb tag 127)))
  where
    last : (b : Bool) → (cond b 4 65536 ≤ most) ⊎ (◌≡◌ {A = ℕ} (cond b 4 65536) 65536)
    last true = inl (lit≤ tt)
    last false = inr refl

-- ---- a value that is there is never refused by 1
five_not_one : (b : Bool) → five_unless b ≡ 1 → ⊥
five_not_one true e = omega arith
five_not_one false e = omega arith

six_not_one : (s : Option Sun) → six_unless s ≡ 1 → ⊥
six_not_one (Some s) e = omega arith
six_not_one None e = omega arith

usable_not_one : (a b c : Option ℤ) → usable_of a b c ≡ 1 → ⊥
usable_not_one None b c e = omega arith
usable_not_one (Some a) None c e = omega arith
usable_not_one (Some a) (Some b) None e = omega arith
usable_not_one (Some a) (Some b) (Some c) e = omega arith

abbrev NotOne : ℕ → Type 0
NotOne n = n ≡ 1 → ⊥

module _ (st : State) (tag : ℕ) (file : List ℕ) (at : ℕ) where
  value_not_one : NotOne (value_of st tag file at)
  unfolding value_of refusal_of
  value_not_one =
      by_test NotOne (eqb tag 1) _ _ (λ t. five_not_one (fleet_in file at))
      (λ t. by_test NotOne (eqb tag 2) _ _ (λ t. five_not_one (unit_in (unit_at st.edition file at)))
      (λ t. by_test NotOne (eqb tag 3) _ _ (λ t. five_not_one (settings_in (settings_at file at) && leb (phase_at file at) 5))
      (λ t. by_test NotOne (eqb tag 4) _ _
      (λ t. by_test NotOne st.current _ _ (λ t e. omega arith) (λ t. usable_not_one (watts_of (phases_at file at).first) (watts_of (phases_at file at).second) (watts_of (phases_at file at).third)))
      (λ t. by_test NotOne (eqb tag 5) _ _ (λ t e. omega arith)
      (λ t. by_test NotOne (eqb tag 6) _ _ (λ t. five_not_one (inverter_in (inverter_at file at)))
      (λ t. by_test NotOne (eqb tag 7) _ _ (λ t. five_not_one (curve_in (bounds_at st.stage) file at))
      (λ t. by_test NotOne (eqb tag 8) _ _ (λ t. six_not_one (sky_of (weather_at file at)))
      (λ t. by_test NotOne (eqb tag 9) _ _
      (λ t. by_test NotOne st.current _ _ (λ t. usable_not_one (milli_of (phases_at file at).first) (milli_of (phases_at file at).second) (milli_of (phases_at file at).third)) (λ t e. omega arith))
      (λ t. by_test NotOne (eqb tag 10) _ _ (λ t. five_not_one (connections_in st.units file at))
      (λ t. by_test NotOne (eqb tag 11) _ _ (λ t. five_not_one (base_in (be 1 file at)))
      (λ t. by_test NotOne (eqb tag 12) _ _ (λ t. five_not_one (voltage_in (be 2 file at)))
      (λ t. by_test NotOne (eqb (be 4 file at) st.steps) 0 7 (λ t e. omega arith) (λ t e. omega arith)))))))))))))

  pub refused_not_one : refused_by st tag file at ≡ 1 → ⊥
  unfolding refused_by
  refused_not_one =
      by_test NotOne (not (allowed st tag)) _ _ (λ t e. omega arith)
      (λ t. by_test NotOne (too_many st tag) _ _ (λ t e. omega arith) (λ t. value_not_one))

-- ---- the head, by the bytes left, the size of the tag and the length that stands there
abbrev tested : Bool → Bool → Bool → Bool → ℕ
tested few unknown same cut = cond few 1 (cond unknown 2 (cond (not same) 3 (cond cut 1 0)))

abbrev head_test : ℕ → ℕ → ℕ → ℕ
head_test left size len = tested (ltb left 3) (eqb size 65536) (eqb len size) (ltb (left - 3) len)

head_by_lem : (st : State) (file : List ℕ) (at : ℕ) → head_of st file at ≡ head_test (length file - at) (size_of st (tag_at file at)) (length_at file at)
unfolding head_of
head_by_lem st file at = refl

-- the bytes left are too few for a head, or for the value
abbrev Cut : ℕ → ℕ → ℕ → Type 0
Cut left size len = (left < 3) ⊎ ((size ≡ 65536 → ⊥) × ((len ≡ size) × (left - 3 < len)))

module _ (size len : ℕ) where
  -- it says 1 only there
  test_cut : (left : ℕ) → head_test left size len ≡ 1 → Cut left size len
  test_cut left = go (ltb left 3) (eqb size 65536) (eqb len size) (ltb (left - 3) len) refl refl refl refl
    where
      go : (a b c d : Bool) → ltb left 3 ≡ a → eqb size 65536 ≡ b → eqb len size ≡ c → ltb (left - 3) len ≡ d → tested a b c d ≡ 1 → Cut left size len
      go true b c d ea eb ec ed h = inl (ltb-true left 3 ea)
      go false true c d ea eb ec ed h = absurd (omega (arith, h))
      go false false false d ea eb ec ed h = absurd (omega (arith, h))
      go false false true true ea eb ec ed h = inr (eqb-false size 65536 eb, (eqb-true len size ec, ltb-true (left - 3) len ed))
      go false false true false ea eb ec ed h = absurd (omega (arith, h))

  -- so with more bytes it says the same
  test_more : (left more : ℕ) → left ≤ more → (head_test left size len ≡ 1 → ⊥) → head_test more size len ≡ head_test left size len
  test_more left more l = go (ltb left 3) (eqb size 65536) (eqb len size) (ltb (left - 3) len) refl refl
    where
      go : (a b c d : Bool) → ltb left 3 ≡ a → ltb (left - 3) len ≡ d → (tested a b c d ≡ 1 → ⊥) → tested (ltb more 3) b c (ltb (more - 3) len) ≡ tested a b c d
      go true b c d ea ed n = absurd (n refl)
      go false b c d ea ed n =
          let three : 3 ≤ left = ltb-false left 3 ea in
          ap (λ (t : Bool). tested t b c (ltb (more - 3) len)) (le-ltb more 3 (omega arith)) ∙ last b c d ed n
        where
          last : (b c d : Bool) → ltb (left - 3) len ≡ d → (tested false b c d ≡ 1 → ⊥) → tested false b c (ltb (more - 3) len) ≡ tested false b c d
          last true c d ed n = refl
          last false false d ed n = refl
          last false true true ed n = absurd (n refl)
          last false true false ed n = let s : len ≤ left - 3 = ltb-false (left - 3) len ed in ap (tested false false true) (le-ltb (more - 3) len (omega arith))

-- ---- heads and fields by the bytes that they have
module _ (st : State) (F G : List ℕ) (p q : ℕ) (left : length F - p ≡ length G - q) where
  pub heads_same : Same F G p q 3 → head_of st F p ≡ head_of st G q
  heads_same h =
      let tag = tag_same F G p q (same_less F G p q 3 h 1 (lit≤ tt)) in
      let len = length_same F G p q h in
      let e : head_test (length F - p) (size_of st (tag_at F p)) (length_at F p) ≡ head_test (length G - q) (size_of st (tag_at G q)) (length_at G q) = λ i. head_test (left i) (size_of st (tag i)) (len i) in
      head_by_lem st F p ∙ e ∙ sym (head_by_lem st G q)

  pub fields_same : Same F G p q 3 → Same F G (p + 3) (q + 3) (size_of st (tag_at F p)) → field_at st F p ≡ field_at st G q
  unfolding field_at
  fields_same h v =
      let tag = tag_same F G p q (same_less F G p q 3 h 1 (lit≤ tt)) in
      ap₂ (λ (n : ℕ) (t : Result State ℕ). cond (eqb n 0) t (Err n)) (heads_same h)
      (taken_same F G (p + 3) (q + 3) st (tag_at F p) v ∙ ap (λ (t : ℕ). taken_by st t G (q + header)) tag)

-- ---- behind other bytes
module _ (st : State) (a b : List ℕ) (i : ℕ) where
  left_behind : length (a ++ b) - (length a + i) ≡ length b - i
  left_behind = omega (arith, length-append a b)

  pub head_of_shift : head_of st (a ++ b) (length a + i) ≡ head_of st b i
  head_of_shift = heads_same st (a ++ b) b (length a + i) i left_behind (same_behind a b i 3)

  pub field_shift : field_at st (a ++ b) (length a + i) ≡ field_at st b i
  field_shift =
      let n = size_of st (tag_at (a ++ b) (length a + i)) in
      fields_same st (a ++ b) b (length a + i) i left_behind (same_behind a b i 3) (same_from (a ++ b) b (length a + i) i (3 + n) (same_behind a b i (3 + n)) 3 n (omega arith))

pub tag_shift : (a b : List ℕ) (i : ℕ) → tag_at (a ++ b) (length a + i) ≡ tag_at b i
tag_shift a b i = tag_same (a ++ b) b (length a + i) i (same_behind a b i 1)

pub past_shift : (a b : List ℕ) (i : ℕ) → past (a ++ b) (length a + i) ≡ length a + past b i
past_shift a b i = omega (arith, length_same (a ++ b) b (length a + i) i (same_behind a b i 3))

-- ---- before other bytes
module _ (a b : List ℕ) (i : ℕ) where
  pub tag_append : i < length a → tag_at (a ++ b) i ≡ tag_at a i
  tag_append h = sym (tag_same a (a ++ b) i i (same_before a b i 1 (omega arith)))

  pub length_at_append : i + 3 ≤ length a → length_at (a ++ b) i ≡ length_at a i
  length_at_append h = sym (length_same a (a ++ b) i i (same_before a b i 3 h))

  pub past_append : i + 3 ≤ length a → past (a ++ b) i ≡ past a i
  past_append h = ap (λ (n : ℕ). i + header + n) (length_at_append h)

module _ (st : State) (a b : List ℕ) (i : ℕ) where
  three_there : (head_of st a i ≡ 1 → ⊥) → i + 3 ≤ length a
  three_there n = go (ltb (length a - i) 3) refl
    where
      go : (t : Bool) → ltb (length a - i) 3 ≡ t → i + 3 ≤ length a
      go true e = absurd (n (head_by_lem st a i ∙ ap (λ (t : Bool). tested t (eqb (size_of st (tag_at a i)) 65536) (eqb (length_at a i) (size_of st (tag_at a i))) (ltb (length a - i - 3) (length_at a i))) e))
      go false e = let three : 3 ≤ length a - i = ltb-false (length a - i) 3 e in omega arith

  pub head_of_append : (head_of st a i ≡ 1 → ⊥) → head_of st (a ++ b) i ≡ head_of st a i
  head_of_append n =
      let h : i + 3 ≤ length a = three_there n in
      let tag = tag_append a b i (omega arith) in
      let len = length_at_append a b i h in
      let more : length a - i ≤ length (a ++ b) - i = omega (arith, length-append a b) in
      head_by_lem st (a ++ b) i
      ∙ ap₂ (λ (t l : ℕ). head_test (length (a ++ b) - i) (size_of st t) l) tag len
      ∙ test_more (size_of st (tag_at a i)) (length_at a i) (length a - i) (length (a ++ b) - i) more (λ e. n (head_by_lem st a i ∙ e))
      ∙ sym (head_by_lem st a i)

  pub field_whole : (head_of st a i ≡ 1 → ⊥) → field_at st (a ++ b) i ≡ field_at st a i
  field_whole n = go (eqb (head_of st a i) 0) refl
    where
      go : (t : Bool) → eqb (head_of st a i) 0 ≡ t → field_at st (a ++ b) i ≡ field_at st a i
      go true e =
          let h : i + 3 ≤ length a = three_there n in
          let hd : Headed st a i = headed st a i (omega arith) e in
          let tag = tag_append a b i (omega arith) in
          let size = hd.size in
          let all = hd.all in
          let v : Same a (a ++ b) (i + 3) (i + 3) (size_of st (tag_at a i)) = same_before a b (i + 3) (size_of st (tag_at a i)) (omega arith) in
          sym (field_goes st (a ++ b) i (head_of st a i) (sym (head_of_append n)) e)
          ∙ ap (λ (t : ℕ). taken_by st t (a ++ b) (i + header)) tag
          ∙ sym (taken_same a (a ++ b) (i + 3) (i + 3) st (tag_at a i) v)
          ∙ field_goes st a i (head_of st a i) refl e
      go false e = sym (field_stops st (a ++ b) i (head_of st a i) (sym (head_of_append n)) e) ∙ field_stops st a i (head_of st a i) refl e

  pub field_append : (t : Result State ℕ) → field_at st a i ≡ t → (t ≡ Err 1 → ⊥) → field_at st (a ++ b) i ≡ t
  field_append t e n = field_whole (λ h. n (sym e ∙ sym (field_stops st a i 1 (sym h) refl))) ∙ e

  -- the other way round, where the field ends before the other bytes
  pub field_cut : past (a ++ b) i ≤ length a → field_at st a i ≡ field_at st (a ++ b) i
  field_cut h = sym (field_whole (λ e. not_cut (test_cut (size_of st (tag_at a i)) (length_at a i) (length a - i) (sym (head_by_lem st a i) ∙ e))))
    where
      not_cut : Cut (length a - i) (size_of st (tag_at a i)) (length_at a i) → ⊥
      not_cut (inl l) = omega arith
      not_cut (inr c) = let l = c.1.1 in omega (arith, length_at_append a b i (omega arith))

-- ---- a field that is cut has fewer bytes than the largest field
pub head_cut_short : (st : State) → Few st → (a : List ℕ) (i : ℕ) → head_of st a i ≡ 1 → length a < i + largest_field
head_cut_short st few a i e = go (test_cut (size_of st (tag_at a i)) (length_at a i) (length a - i) (sym (head_by_lem st a i) ∙ e)) (size_most st few (tag_at a i))
  where
    go : Cut (length a - i) (size_of st (tag_at a i)) (length_at a i)
        → (size_of st (tag_at a i) ≤ most) ⊎ (size_of st (tag_at a i) ≡ 65536) → length a < i + largest_field
    go (inl l) m = omega arith
    go (inr c) (inl m) = let s = c.1.0 in let l = c.1.1 in omega arith
    go (inr c) (inr m) = absurd (c.0 m)

pub field_take : (st : State) → Few st → (b : List ℕ) (i n : ℕ) → i + largest_field ≤ n → field_at st (take n b) i ≡ field_at st b i
field_take st few b i n h = go (leb (length b) n) refl
  where
    go : (t : Bool) → leb (length b) n ≡ t → field_at st (take n b) i ≡ field_at st b i
    go true e = ap (λ (l : List ℕ). field_at st l i) (take_all n b (leb-true (length b) n e))
    go false e =
        let l : n < length b = leb-false (length b) n e in
        let long : length (take n b) ≡ n = length-take-le n b (omega arith) in
        sym (field_whole st (take n b) (drop n b) i (λ c. let s = head_cut_short st few (take n b) i c in omega arith))
        ∙ ap (λ (l : List ℕ). field_at st l i) (take-append-drop n b)
