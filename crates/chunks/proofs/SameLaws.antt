-- What is read at a place depends on the bytes there only: where so many bytes from a place on are those from another place on, in the same list or another,
-- every value that lies in them is the same, and what becomes of the field too. Assumes nothing.
use mathlib.Core.Path.{◌≡◌, refl, sym, ap, ap₂, ◌∙◌, subst, subst⁻¹}
use mathlib.Core.Bool.{Bool, true, false, not, cond, ◌&&◌}
use mathlib.Core.List.{List, ◌∷◌}
use Prim.Native.Nat.{ℕ, zero, suc, ◌+◌, ◌-◌, ◌*◌, ◌≤◌, ◌<◌}
use native.Mathlib.Nat.{add_assoc, le_refl, le_step}
use native.Mathlib.Omega.{arith}
use lib.Dec.{leb, eqb, lit≤}
use lib.Ieee.{binary64, of_bits}
use lib.ListN.{length, get_or}
use mir.Syntax.{w32}
use mir.Val.{to_z}
use borrow.Author.Tests.{leb-true, leb-false, lt-leb, eqb-true, ne_eqb}
use Rattle.whole.specs.Over.{all_of}
use Rattle.whole.proofs.Choice.{by_test}
use Rattle.octets.specs.BigEndian.{be}
use Rattle.octets.proofs.ByteLaws.{be_same}
use Rattle.reading.specs.declared.Phases.{Phases}
use Rattle.reading.specs.declared.Reading.{Reading}
use Rattle.reading.specs.declared.Reading.TheVariants.{Missing, Power, Current}
use Rattle.reading.specs.Choice.{refusal_of}
use Rattle.curve.specs.declared.Bounds.{Bounds}
use Rattle.curve.specs.Curve.{Point, point}
use Rattle.curve.specs.Ranges.{point_in, points_in}
use Rattle.curve.specs.Layout.{curve_bytes, count_at, x_at, y_at, points_from, points_at, rest_in, curve_in}
use Rattle.curve.proofs.PointLaws.{points_count}
use Rattle.unit.specs.Ranges.{own_limits, direct_in, grid_in, unit_in, connection_in}
use Rattle.rules.specs.Rules.{by_current}
use Rattle.rules.specs.Ranges.{settings_in}
use Rattle.lead.specs.Lead.{voltage_in}
use Rattle.solar.specs.declared.Sun.{Sun}
use Rattle.solar.specs.Roof.{inverter_in}
use Rattle.solar.specs.Weather.{sky_of, sun_or}
use Rattle.site.specs.declared.Due.{Due}
use Rattle.site.specs.Site.{due, none_yet}
use Rattle.parts.specs.Header.{header, tag_at, length_at, past}
use Rattle.fields.specs.declared.State.{State}
use Rattle.fields.specs.Fields.{at_units, at_connections, bounds_at, kinds, size_in, size_of, allowed, fleet_in, unit_at, settings_at, phase_at, is_reading, base_in, flags, flags_of, phases_at, inverter_at, weather_at, six_unless, five_unless, value_of, too_many, refused_by, state_of, state_after, taken_by, phases_in, volts_in, connections_in}
use Rattle.fields.proofs.FieldLaws.{by_tag}
use Rattle.fields.proofs.TakenLaws.{room_end, value_end}
use Rattle.stick.specs.Check.{start}
use Rattle.stick.specs.Site.{head_by, roof_at, function_at, reading_at, sun_at, voltage_at, due_after}
use Rattle.std.proofs.Common.{Err, Ok, Option, Some}

-- ---- n bytes of F from p on are those of G from q on
abbrev pub Same : List ℕ → List ℕ → ℕ → ℕ → ℕ → Type 0
Same F G p q n = (i : ℕ) → i < n → get_or F (p + i) 0 ≡ get_or G (q + i) 0

-- two tests that agree below n; and no list of more than sixteen points is in its ranges
all_same : (n : ℕ) (a b : ℕ → Bool) → ((i : ℕ) → i < n → a i ≡ b i) → all_of n a ≡ all_of n b
unfolding all_of
all_same zero a b h = refl
all_same (suc n) a b h = ap₂ ◌&&◌ (all_same n a b (λ i l. h i (le_step l))) (h n (le_refl (suc n)))

too_many_lem : (b : Bounds) (points : List Point) → 16 < length points → points_in b points ≡ false
unfolding points_in
too_many_lem b points l = go (leb 2 (length points)) (lt-leb (length points) 16 l)
  where
    go : (s : Bool) → leb (length points) 16 ≡ false → (s && leb (length points) 16 && all_of (length points) (point_in b points)) ≡ false
    go true e = ap (λ (t : Bool). t && all_of (length points) (point_in b points)) e
    go false e = refl

module _ (F G : List ℕ) (p q : ℕ) where
  -- some of them
  pub same_from : (n : ℕ) → Same F G p q n → (o m : ℕ) → o + m ≤ n → Same F G (p + o) (q + o) m
  same_from n h o m l i j = rw (add_assoc p o i, add_assoc q o i) (h (o + i) (omega arith))

  pub same_less : (n : ℕ) → Same F G p q n → (m : ℕ) → m ≤ n → Same F G p q m
  same_less n h m l i j = h i (omega arith)

  -- the number in m of them, from the first on and further on
  pub be_front : (n : ℕ) → Same F G p q n → (m : ℕ) → m ≤ n → be m F p ≡ be m G q
  be_front n h m l = be_same m F G p q (same_less n h m l)

  pub be_within : (n : ℕ) → Same F G p q n → (o m : ℕ) → o + m ≤ n → be m F (p + o) ≡ be m G (q + o)
  be_within n h o m l = be_same m F G (p + o) (q + o) (same_from n h o m l)

  pub be_deep : (n : ℕ) → Same F G p q n → (o u m : ℕ) → o + u + m ≤ n → be m F (p + o + u) ≡ be m G (q + o + u)
  be_deep n h o u m l = rw (add_assoc p o u, add_assoc q o u) (be_within n h (o + u) m l)

  -- ---- tag, length, and how far off the next field is
  pub tag_same : Same F G p q 1 → tag_at F p ≡ tag_at G q
  tag_same h = be_front 1 h 1 (lit≤ tt)

  pub length_same : Same F G p q 3 → length_at F p ≡ length_at G q
  length_same h = be_within 3 h 1 2 (lit≤ tt)

  pub past_same : Same F G p q 3 → (past F p - p) ≡ (past G q - q)
  past_same h = omega (arith, length_same h)

  -- ---- the values
  pub fleet_same : Same F G p q 6 → fleet_in F p ≡ fleet_in G q
  unfolding fleet_in
  fleet_same h = rw (be_front 6 h 1 (lit≤ tt), be_within 6 h 1 1 (lit≤ tt), be_within 6 h 2 4 (lit≤ tt))

  pub unit_same : (edition : ℕ) → Same F G p q (cond (own_limits edition) 57 49) → unit_at edition F p ≡ unit_at edition G q
  unfolding unit_at
  unit_same edition h =
      let most : Same F G p q 49 = same_less (cond (own_limits edition) 57 49) h 49 (by_test (λ (n : ℕ). 49 ≤ n) (own_limits edition) 57 49 (λ t. lit≤ tt) (λ t. lit≤ tt)) in
      let rated = be_front 49 most 8 (lit≤ tt) in
      let reserve = be_within 49 most 8 8 (lit≤ tt) in
      let stored = be_within 49 most 16 8 (lit≤ tt) in
      let rating = be_within 49 most 24 4 (lit≤ tt) in
      let kva = be_within 49 most 28 4 (lit≤ tt) in
      let loss = be_within 49 most 32 4 (lit≤ tt) in
      let vars = be_within 49 most 36 4 (lit≤ tt) in
      let weight = be_within 49 most 40 2 (lit≤ tt) in
      let inverter = be_within 49 most 42 2 (lit≤ tt) in
      let charge = be_within 49 most 44 2 (lit≤ tt) in
      let discharge = be_within 49 most 46 2 (lit≤ tt) in
      let priority = be_within 49 most 48 1 (lit≤ tt) in
      let provide = limit 49 (lit≤ tt) (own_limits edition) h kva in
      let absorb = limit 53 (lit≤ tt) (own_limits edition) h kva in
      λ i. record {
        rated = rated i;
        reserve = reserve i;
        stored = stored i;
        rating = rating i;
        kva = kva i;
        dc_loss = direct_in edition (loss i);
        var_request = to_z w32 (vars i);
        weight = weight i;
        inverter = inverter i;
        charge = charge i;
        discharge = discharge i;
        priority = priority i;
        provide = provide i;
        absorb = absorb i;
        grid_loss = grid_in edition (loss i);
        link = 0;
      }
    where
      limit : (o : ℕ) → o + 4 ≤ 57 → (own : Bool) → Same F G p q (cond own 57 49) → {k l : ℕ} → k ≡ l → cond own (be 4 F (p + o)) k ≡ cond own (be 4 G (q + o)) l
      limit o l true h e = be_within 57 h o 4 l
      limit o l false h e = e

  pub settings_same : Same F G p q 12 → settings_at F p ≡ settings_at G q
  unfolding settings_at
  settings_same h =
      let mode = be_front 12 h 1 (lit≤ tt) in
      let target = be_within 12 h 1 4 (lit≤ tt) in
      let band = be_within 12 h 5 4 (lit≤ tt) in
      let factor = be_within 12 h 9 2 (lit≤ tt) in
      λ i. record { mode = mode i; target = to_z w32 (target i); band = band i; factor = factor i }

  pub phase_same : Same F G p q 12 → phase_at F p ≡ phase_at G q
  phase_same h = be_within 12 h 11 1 (lit≤ tt)

  pub phases_same : Same F G p q 24 → phases_at F p ≡ phases_at G q
  unfolding phases_at
  phases_same h =
      let first = be_front 24 h 8 (lit≤ tt) in
      let second = be_within 24 h 8 8 (lit≤ tt) in
      let third = be_within 24 h 16 8 (lit≤ tt) in
      λ i. record { first = of_bits binary64 (first i); second = of_bits binary64 (second i); third = of_bits binary64 (third i) }

  -- of so many units, three bytes each
  pub connections_same : (n : ℕ) → Same F G p q (3 * n) → connections_in n F p ≡ connections_in n G q
  unfolding connections_in
  connections_same n h =
      all_same n (λ (i : ℕ). connection_in (phases_in F p i) (volts_in F p i)) (λ (i : ℕ). connection_in (phases_in G q i) (volts_in G q i))
      (λ i l. ap₂ connection_in (be_within (3 * n) h (3 * i) 1 (omega arith)) (be_deep (3 * n) h (3 * i) 1 2 (omega arith)))

  pub inverter_same : Same F G p q 19 → inverter_at F p ≡ inverter_at G q
  unfolding inverter_at
  inverter_same h =
      let array = be_front 19 h 4 (lit≤ tt) in
      let kva = be_within 19 h 4 4 (lit≤ tt) in
      let opens = be_within 19 h 8 2 (lit≤ tt) in
      let shuts = be_within 19 h 10 2 (lit≤ tt) in
      let limit = be_within 19 h 12 2 (lit≤ tt) in
      let vars = be_within 19 h 14 4 (lit≤ tt) in
      let priority = be_within 19 h 18 1 (lit≤ tt) in
      λ i. record { array = array i; kva = kva i; cut_in = opens i; cut_out = shuts i; limit = limit i; var_request = to_z w32 (vars i); priority = priority i }

  pub weather_same : Same F G p q 16 → weather_at F p ≡ weather_at G q
  unfolding weather_at
  weather_same h =
      let irradiance = be_front 16 h 8 (lit≤ tt) in
      let temperature = be_within 16 h 8 8 (lit≤ tt) in
      λ i. record { irradiance = of_bits binary64 (irradiance i); temperature = of_bits binary64 (temperature i) }

  -- ---- a curve: of at most sixteen points each lies in its bytes; of more, no list is in its ranges
  pub count_same : Same F G p q curve_bytes → count_at F p ≡ count_at G q
  unfolding count_at
  count_same h = be_front 129 h 1 (lit≤ tt)

  from_same : Same F G p q curve_bytes → (n i : ℕ) → i + n ≤ 16 → points_from n i F p ≡ points_from n i G q
  unfolding points_from x_at y_at
  from_same h zero i l = refl
  from_same h (suc n) i l =
      let x = be_deep 129 h 1 (8 * i) 4 (omega arith) in
      let y = be_deep 129 h 5 (8 * i) 4 (omega arith) in
      let more = from_same h n (suc i) (omega arith) in
      λ j. point (to_z w32 (x j)) (to_z w32 (y j)) ∷ more j

  pub points_same : Same F G p q curve_bytes → count_at F p ≤ 16 → points_at F p ≡ points_at G q
  unfolding points_at
  points_same h l = from_same h (count_at F p) 0 (omega arith) ∙ ap (λ (n : ℕ). points_from n 0 G q) (count_same h)

  rest_same : Same F G p q curve_bytes → rest_in F p ≡ rest_in G q
  unfolding rest_in
  rest_same h =
      all_same (16 - count_at F p) (λ (i : ℕ). eqb (be 8 F (p + 1 + 8 * (count_at F p + i))) 0) (λ (i : ℕ). eqb (be 8 G (q + 1 + 8 * (count_at F p + i))) 0)
      (λ i l. ap (λ (n : ℕ). eqb n 0) (be_deep 129 h 1 (8 * (count_at F p + i)) 8 (omega arith)))
      ∙ ap (λ (c : ℕ). all_of (16 - c) (λ (i : ℕ). eqb (be 8 G (q + 1 + 8 * (c + i))) 0)) (count_same h)

  pub curve_same : (b : Bounds) → Same F G p q curve_bytes → curve_in b F p ≡ curve_in b G q
  unfolding curve_in
  curve_same b h = go (leb (count_at F p) 16) refl
    where
      go : (t : Bool) → leb (count_at F p) 16 ≡ t → (points_in b (points_at F p) && rest_in F p) ≡ (points_in b (points_at G q) && rest_in G q)
      go true e = ap₂ ◌&&◌ (ap (points_in b) (points_same h (leb-true (count_at F p) 16 e))) (rest_same h)
      go false e =
          let m : 16 < count_at F p = leb-false (count_at F p) 16 e in
          let l : 16 < count_at G q = subst (λ (n : ℕ). 16 < n) (count_same h) m in
          ap (λ (t : Bool). t && rest_in F p) (too_many_lem b (points_at F p) (subst⁻¹ (λ (n : ℕ). 16 < n) (points_count F p) m))
          ∙ sym (ap (λ (t : Bool). t && rest_in G q) (too_many_lem b (points_at G q) (subst⁻¹ (λ (n : ℕ). 16 < n) (points_count G q) l)))

module _ (F G : List ℕ) (p q : ℕ) where
  -- ---- what a value is refused by, the next state, and what becomes of the field
  pub value_same : (st : State) (tag : ℕ) → Same F G p q (size_of st tag) → value_of st tag F p ≡ value_of st tag G q
  unfolding value_of size_of kinds size_in
  value_same st tag =
      by_tag (λ (t : ℕ). Same F G p q (size_of st t) → value_of st t F p ≡ value_of st t G q) tag
      (λ h. ap five_unless (fleet_same F G p q h))
      (λ h. ap (λ u. five_unless (unit_in u)) (unit_same F G p q st.edition h))
      (λ h. ap₂ (λ s n. five_unless (settings_in s && leb n 5)) (settings_same F G p q h) (phase_same F G p q h))
      (λ h. ap (λ r. cond st.current 5 (refusal_of (Power r))) (phases_same F G p q h))
      (λ h. refl)
      (λ h. ap (λ v. five_unless (inverter_in v)) (inverter_same F G p q h))
      (λ h. ap five_unless (curve_same F G p q (bounds_at st.stage) h))
      (λ h. ap (λ w. six_unless (sky_of w)) (weather_same F G p q h))
      (λ h. ap (λ r. cond st.current (refusal_of (Current r)) 5) (phases_same F G p q h))
      (λ h. ap five_unless (connections_same F G p q st.units h))
      (λ h. ap (λ (n : ℕ). five_unless (base_in n)) (be_front F G p q 1 h 1 (lit≤ tt)))
      (λ h. ap (λ (n : ℕ). five_unless (voltage_in n)) (be_front F G p q 2 h 2 (lit≤ tt)))
      (λ n h.
      let four : 0 + 4 ≤ size_of st tag = room_end st tag 0 (size_of st tag) (omega arith) n in
      sym (value_end st tag F p n)
      ∙ ap (λ (k : ℕ). cond (eqb k st.steps) 0 7) (be_front F G p q (size_of st tag) h 4 (omega arith))
      ∙ value_end st tag G q n)

  pub refused_same : (st : State) (tag : ℕ) → Same F G p q (size_of st tag) → refused_by st tag F p ≡ refused_by st tag G q
  unfolding refused_by
  refused_same st tag h = ap (λ (n : ℕ). cond (not (allowed st tag)) 4 (cond (too_many st tag) 12 n)) (value_same st tag h)

  pub after_same : (st : State) (tag : ℕ) → Same F G p q (size_of st tag) → state_after st tag F p ≡ state_after st tag G q
  unfolding state_after size_of kinds size_in
  after_same st tag =
      by_tag (λ (t : ℕ). Same F G p q (size_of st t) → state_after st t F p ≡ state_after st t G q) tag
      (λ h. ap₂ (λ (e u : ℕ). state_of at_units e u u st.steps (flags_of st)) (be_front F G p q 6 h 1 (lit≤ tt)) (be_within F G p q 6 h 1 1 (lit≤ tt)))
      (λ h. refl)
      (λ h. ap (λ (m : ℕ). state_of at_connections st.edition st.units 64 st.steps (flags (by_current m) st.led)) (be_front F G p q 12 h 1 (lit≤ tt)))
      (λ h. refl) (λ h. refl) (λ h. refl) (λ h. refl) (λ h. refl) (λ h. refl) (λ h. refl) (λ h. refl) (λ h. refl)
      (λ n h. simp (ne_eqb tag 1 n.n₁, ne_eqb tag 3 n.n₃))

  pub taken_same : (st : State) (tag : ℕ) → Same F G p q (size_of st tag) → taken_by st tag F p ≡ taken_by st tag G q
  unfolding taken_by
  taken_same st tag h = ap₂ (λ (n : ℕ) (s : State). cond (eqb n 0) (Ok s) (Err n)) (refused_same st tag h) (after_same st tag h)

  -- ---- what a field says, from its tag on: a reading, whose bytes need be there only where it has powers or currents; a sun, a voltage
  pub reading_same : Same F G p q 1 → ((k : ℕ) → size_of start k ≡ 24 → tag_at F p ≡ k → Same F G p q 27) → reading_at F p ≡ reading_at G q
  unfolding reading_at size_of kinds size_in
  reading_same t h =
      ap (λ (n : ℕ). reading n (phases_at F (p + header))) (tag_same F G p q t) ∙ go (eqb (tag_at F p) 4) (eqb (tag_at F p) 9) refl refl
    where
      reading : ℕ → Phases → Reading
      reading n r = cond (eqb n 4) (Power r) (cond (eqb n 9) (Current r) Missing)

      said : (k : ℕ) → size_of start k ≡ 24 → tag_at F p ≡ k → reading (tag_at G q) (phases_at F (p + header)) ≡ reading (tag_at G q) (phases_at G (q + header))
      said k l e = ap (reading (tag_at G q)) (phases_same F G (p + 3) (q + 3) (same_from F G p q 27 (h k l e) 3 24 (lit≤ tt)))

      go : (a b : Bool) → eqb (tag_at F p) 4 ≡ a → eqb (tag_at F p) 9 ≡ b → reading (tag_at G q) (phases_at F (p + header)) ≡ reading (tag_at G q) (phases_at G (q + header))
      go true b ea eb = said 4 refl (eqb-true (tag_at F p) 4 ea)
      go false true ea eb = said 9 refl (eqb-true (tag_at F p) 9 eb)
      go false false ea eb =
          let same = sym (tag_same F G p q t) in
          let four : eqb (tag_at G q) 4 ≡ false = ap (λ (n : ℕ). eqb n 4) same ∙ ea in
          let nine : eqb (tag_at G q) 9 ≡ false = ap (λ (n : ℕ). eqb n 9) same ∙ eb in
          simp (four, nine)

  pub sun_same : Same F G p q 19 → sun_at F p ≡ sun_at G q
  unfolding sun_at
  sun_same h = ap (λ w. sun_or (sky_of w)) (weather_same F G (p + 3) (q + 3) (same_from F G p q 19 h 3 16 (lit≤ tt)))

  pub voltage_same : Same F G p q 5 → voltage_at F p ≡ voltage_at G q
  unfolding voltage_at
  voltage_same h = ap Some (be_within F G p q 5 h 3 2 (lit≤ tt))

  -- and what the step under way has behind it, where the bytes of a weather or of a voltage are there
  pub due_same : Same F G p q 1 → (tag_at F p ≡ 8 → Same F G p q 19) → (tag_at F p ≡ 12 → Same F G p q 5) → (d : Due) → due_after F d p ≡ due_after G d q
  unfolding due_after
  due_same t w v d =
      go (is_reading (tag_at F p)) (eqb (tag_at F p) 8) (eqb (tag_at F p) 12) refl refl
      ∙ ap (λ (n : ℕ). has (is_reading n) (eqb n 8) (eqb n 12) (sun_at G q) (voltage_at G q)) (tag_same F G p q t)
    where
      has : Bool → Bool → Bool → Sun → Option ℕ → Due
      has r a b s x = cond r none_yet (cond a (due s d.voltage) (cond b (due d.sun x) d))

      go : (r a b : Bool) → eqb (tag_at F p) 8 ≡ a → eqb (tag_at F p) 12 ≡ b → has r a b (sun_at F p) (voltage_at F p) ≡ has r a b (sun_at G q) (voltage_at G q)
      go true a b ea eb = refl
      go false true b ea eb = ap (λ (s : Sun). due s d.voltage) (sun_same (w (eqb-true (tag_at F p) 8 ea)))
      go false false true ea eb = ap (due d.sun) (voltage_same (v (eqb-true (tag_at F p) 12 eb)))
      go false false false ea eb = refl

  -- ---- a roof: an inverter field and two curve fields
  pub roof_same : length_at F p ≡ 19 → length_at F (p + 22) ≡ 129 → count_at F (p + 25) ≤ 16 → count_at F (p + 157) ≤ 16 → Same F G p q 286 → roof_at F p ≡ roof_at G q
  unfolding roof_at
  roof_same a b c d h =
      let near : length_at G q ≡ 19 = sym (length_same F G p q (same_less F G p q 286 h 3 (lit≤ tt))) ∙ a in
      let far : length_at G (q + 22) ≡ 129 = sym (length_same F G (p + 22) (q + 22) (same_from F G p q 286 h 22 3 (lit≤ tt))) ∙ b in
      let f₁ : past F p ≡ p + 22 = omega arith in
      let g₁ : past G q ≡ q + 22 = omega arith in
      let f₂ : past F (p + 22) ≡ p + 154 = omega arith in
      let g₂ : past G (q + 22) ≡ q + 154 = omega arith in
      let f₃ : past F (past F p) ≡ p + 154 = ap (past F) f₁ ∙ f₂ in
      let g₃ : past G (past G q) ≡ q + 154 = ap (past G) g₁ ∙ g₂ in
      let inverter = inverter_same F G (p + 3) (q + 3) (same_from F G p q 286 h 3 19 (lit≤ tt)) in
      let warm =
      ap (λ (n : ℕ). points_at F (n + header)) f₁ ∙ ap (points_at F) (plus p 22 3) ∙ points_same F G (p + 25) (q + 25) (same_from F G p q 286 h 25 129 (lit≤ tt)) c
      ∙ sym (ap (points_at G) (plus q 22 3)) ∙ sym (ap (λ (n : ℕ). points_at G (n + header)) g₁) in
      let efficiency =
      ap (λ (n : ℕ). points_at F (n + header)) f₃ ∙ ap (points_at F) (plus p 154 3) ∙ points_same F G (p + 157) (q + 157) (same_from F G p q 286 h 157 129 (lit≤ tt)) d
      ∙ sym (ap (points_at G) (plus q 154 3)) ∙ sym (ap (λ (n : ℕ). points_at G (n + header)) g₃) in
      λ i. record { inverter = inverter i; warm = warm i; efficiency = efficiency i }
    where
      plus : (n a b : ℕ) → n + a + b ≡ n + (a + b)
      plus n a b = add_assoc n a b

  -- ---- a function: its field and a curve field
  pub function_same : length_at F p ≡ 1 → count_at F (p + 7) ≤ 16 → Same F G p q 136 → function_at F p ≡ function_at G q
  unfolding function_at
  function_same a c h =
      let near : length_at G q ≡ 1 = sym (length_same F G p q (same_less F G p q 136 h 3 (lit≤ tt))) ∙ a in
      let f : past F p + 3 ≡ p + 7 = omega arith in
      let g : past G q + 3 ≡ q + 7 = omega arith in
      let base = be_within F G p q 136 h 3 1 (lit≤ tt) in
      let curve = ap (points_at F) f ∙ points_same F G (p + 7) (q + 7) (same_from F G p q 136 h 7 129 (lit≤ tt)) c ∙ sym (ap (points_at G) g) in
      λ i. record { base = base i; curve = curve i }

-- ---- the head of a site, by the values of two fields
pub head_same : (F G : List ℕ) (f g s t : ℕ) → Same F G f g 6 → Same F G s t 12 → head_by F f s ≡ head_by G g t
unfolding head_by
head_same F G f g s t h k =
    let edition = be_front F G f g 6 h 1 (lit≤ tt) in
    let seconds = be_within F G f g 6 h 2 4 (lit≤ tt) in
    let settings = settings_same F G s t k in
    let phase = phase_same F G s t k in
    λ i. record { edition = edition i; seconds = seconds i; settings = settings i; phase = phase i }
