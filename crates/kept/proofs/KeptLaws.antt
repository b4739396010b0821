-- What is well kept has room in its bytes: it comes back from them, and they are a state that goes on. The bytes of a run that was refused, or is over, are a
-- state too, with no tail. Assumes nothing.
use mathlib.Core.Path.{◌≡◌, refl, sym, ap, ap₂, ◌∙◌, subst}
use mathlib.Core.Logic.{◌⊎◌, inl, inr}
use mathlib.Core.Bool.{Bool, true, false, not, cond, ◌&&◌, ◌||◌}
use mathlib.Core.List.{List, [], ◌++◌, append_assoc, append-nil}
use Prim.Native.Nat.{ℕ, zero, suc, ◌+◌, ◌-◌, ◌*◌, ◌^◌, ◌≤◌, ◌<◌}
use native.Mathlib.Nat.{le_refl, le_step, le_trans, lt_of_le_of_lt}
use native.Mathlib.Omega.{arith}
use lib.Dec.{leb, eqb, lit<}
use lib.IntN.{ℤ, pos, nat_abs}
use lib.ListN.{length, get_or, replicate, length-append, length-replicate, get_or-replicate, get_or-append}
use lib.Seq.{slice, slice_empty, get_or-append-add}
use borrow.Author.Tests.{leb-true, eqb-true, le-leb, eq-eqb}
use mir.Syntax.{w32}
use Rattle.whole.specs.Interval.{between}
use Rattle.whole.specs.Over.{all_of}
use Rattle.whole.proofs.Choice.{by_test, passed_failed}
use Rattle.whole.proofs.OverLaws.{and_parts, all_at}
use Rattle.whole.proofs.SignLaws.{size_fits}
use Rattle.octets.specs.BigEndian.{bytes_of}
use Rattle.octets.proofs.ByteLaws.{be_one, bytes_length}
use Rattle.members.specs.Ranges.{some_above, some_below}
use Rattle.records.proofs.LayLaws.{both, longer}
use Rattle.solar.specs.declared.Sun.{Sun}
use Rattle.solar.specs.Posts.{Shining}
use Rattle.lead.specs.Lead.{voltage_in}
use Rattle.unit.proofs.RangeLaws.{Bounds, bounds}
use Rattle.site.specs.Site.{count, unit_of}
use Rattle.site.proofs.RangeLaws.{unit_ranged}
use Rattle.parts.specs.Header.{header, tag_at}
use Rattle.fields.specs.declared.State.{State}
use Rattle.fields.specs.Fields.{at_end, at_reading, at_voltage, is_reading, state_after, roof_after}
use Rattle.stick.specs.declared.Reached.{Reached}
use Rattle.stick.specs.Check.{reach_of, start}
use Rattle.stick.specs.Site.{site_of}
use Rattle.stick.specs.Check.{Accepted}
use Rattle.stick.proofs.SiteProved.{sited}
use Rattle.chunks.proofs.ReachChunks.{Went, there, passing, far_gone}
use Rattle.chunks.proofs.HeadChunks.{accepted_field}
use Rattle.fleet.specs.Step.{Stands}
use Rattle.kept.specs.Kept.{Kept, begun_at, begun}
use Rattle.kept.specs.Layout.{tail_most, site_most, rest_size, place_most}
use Rattle.kept.specs.Layout.{tail_place, held_place, flag_place, vars_place, site_place, state_size, filled, volts_of, all_vars, numbers_of, held_of, flags_of, vars_of, top_of, stands_of, mark_of, bytes_for, stopped_bytes, number_in, place_in}
use Rattle.kept.specs.Layout.{steps_kept, stage_in, site_bytes, tail_bytes, site_part, tail_part, sun_kept, due_kept, known_by, state_in, store_at, request_at, flag_at, up_to, units_kept, roofs_kept, stands_in, kept_in}
use Rattle.kept.specs.Formed.{clear, site_fits, beside, place_fits, sun_fits, volt_fits, tail_fits, unit_fits, held_fits, flag_fits, var_fits, lists_fit, stands_fit, rest_clear, mark_fits, well_formed}
use Rattle.kept.specs.Posts.{WellKept}
use Rattle.kept.proofs.StandLaws.{up_to_length, held_length, flags_length, vars_length}
use Rattle.kept.proofs.NumberLaws.{numbers_length}
use Rattle.kept.proofs.ListLaws.{part_accepted, few_units, few_roofs}
use Rattle.kept.proofs.WellLaws.{small, fits_as_read, going_on, well_going, well_stopped}
use Rattle.kept.proofs.FitLaws.{stopped_is}
use Rattle.kept.proofs.ReadLaws.{flags_flag}
use Rattle.kept.proofs.BackLaws.{Room, Keepable, number_back, top_length, before_flags, before_vars, before_site, size, site_bytes_back, tail_bytes_back, site_back, tail_back, flags_back, state_back, var_back, volts_back, back}
use Rattle.kept.proofs.BackLaws.{stopped_size, stopped_number, stopped_place, stopped_steps}

-- ---- a test that passes for each
all_so : (n : ℕ) (ok : ℕ → Bool) → ((i : ℕ) → i < n → ok i ≡ true) → all_of n ok ≡ true
unfolding all_of
all_so zero ok h = refl
all_so (suc n) ok h = ap₂ ◌&&◌ (all_so n ok (λ i l. h i (le_step l))) (h n (le_refl (suc n)))

-- zeros behind some bytes, and before others, are clear
clear_in : (a b : List ℕ) (n from to : ℕ) → length a ≡ from → to - from ≡ n → (s : List ℕ) → s ≡ a ++ (replicate n 0 ++ b) → clear s from to ≡ true
unfolding clear
clear_in a b n from to l e s is =
    all_so (to - from) (λ (i : ℕ). eqb (get_or s (from + i) 0) 0)
    (λ i h.
    let long : length {A = ℕ} (replicate n 0) ≡ n = length-replicate n 0 in
    eq-eqb (get_or s (from + i) 0) 0
    (ap₂ (λ (t : List ℕ) (j : ℕ). get_or t (j + i) 0) is (sym l)
    ∙ get_or-append-add a (replicate n 0 ++ b) i 0
    ∙ get_or-append (replicate n 0) b 0 i (omega arith)
    ∙ get_or-replicate n i 0 0 (omega arith)))

-- ---- a stage is a small number
after_small : (st : State) (tag : ℕ) (file : List ℕ) (at : ℕ) → (state_after st tag file at).stage ≤ 12
unfolding state_after roof_after
after_small st tag file at =
    let P : State → Type 0 = λ (s : State). s.stage ≤ 12 in
    let Q : ℕ → Type 0 = λ (n : ℕ). n ≤ 12 in
    by_test P (eqb tag 1) _ _ (λ t. omega arith)
    (λ t. by_test P (eqb tag 2) _ _ (λ t. by_test P (leb st.left 1) _ _ (λ u. omega arith) (λ u. omega arith))
    (λ t. by_test P (eqb tag 3) _ _ (λ t. omega arith)
    (λ t. by_test P (is_reading tag) _ _ (λ t. omega arith)
    (λ t. by_test P (eqb tag 6) _ _ (λ t. omega arith)
    (λ t. by_test P (eqb tag 7) _ _
    (λ t. by_test Q (eqb st.stage 6) 7 _ (λ u. omega arith) (λ u. by_test Q (eqb st.stage 7) 5 12 (λ v. omega arith) (λ v. omega arith)))
    (λ t. by_test P (eqb tag 8) _ _ (λ t. omega arith)
    (λ t. by_test P (eqb tag 10) _ _ (λ t. omega arith)
    (λ t. by_test P (eqb tag 11) _ _ (λ t. omega arith)
    (λ t. by_test P (eqb tag 12) _ _ (λ t. omega arith) (λ t. omega arith))))))))))

went_small : (file : List ℕ) {s : State} {j : ℕ} {st : State} {i : ℕ} → Went file s j st i → st.stage ≤ 12 → s.stage ≤ 12
went_small file (there e f) h = subst (λ (s : State). s.stage ≤ 12) e h
went_small file {s} {j} {st} {i} (passing m l e f w more) h =
    went_small file more (subst (λ (s : State). s.stage ≤ 12) (accepted_field file st m i (omega arith) f).is (after_small st (tag_at file i) file (i + header)))

known_small : (site : List ℕ) → (known_by site).stage ≤ 12
unfolding known_by
known_small site = went_small site (far_gone site start 0 (omega arith)).went (omega arith)

begun_small : (n : ℕ) → begun_at n ≡ true → n ≤ 12
begun_small n = go (eqb n 0) (eqb n 4) (eqb n 8) (eqb n 11) refl refl refl refl
  where
    go : (x y z v : Bool) → eqb n 0 ≡ x → eqb n 4 ≡ y → eqb n 8 ≡ z → eqb n 11 ≡ v → (x || y || z || v) ≡ true → n ≤ 12
    go true y z v ex ey ez ev c = let e = eqb-true n 0 ex in omega arith
    go false true z v ex ey ez ev c = let e = eqb-true n 4 ey in omega arith
    go false false true v ex ey ez ev c = let e = eqb-true n 8 ez in omega arith
    go false false false true ex ey ez ev c = let e = eqb-true n 11 ev in omega arith
    go false false false false ex ey ez ev c = absurd (passed_failed c refl)

-- ---- a place, a sun and a voltage that fit
place_few : (place stage steps site tail : ℕ) → place_fits place stage steps site tail ≡ true → site ≤ site_most → steps ≤ 65535 → tail ≤ tail_most → place ≤ 4000000
unfolding place_fits beside
place_few place stage steps site tail t a b d =
    let n = beside stage site tail in
    let top = n + 51 * steps + cond (eqb stage at_voltage) 19 0 in
    let hi = leb-true place top (and_parts (leb (n + 3 * steps) place) (leb place top) t).1 in
    let upto : (b : Bool) (x : ℕ) → cond b x 0 ≤ x = λ b x. by_test (λ (n : ℕ). n ≤ x) b x 0 (λ u. omega arith) (λ u. omega arith) in
    omega (arith, upto (eqb stage at_reading) 19, upto (eqb stage at_voltage) 5, upto (eqb stage at_voltage) 19, upto (eqb stage at_end) 7)

pub fits_shining : (stage : ℕ) (s : Sun) → sun_fits stage s ≡ true → Shining s
unfolding sun_fits
fits_shining stage s = go (eqb stage at_reading || eqb stage at_voltage)
  where
    go : (b : Bool) → cond b (leb s.irradiance 100000000 && leb (nat_abs s.temperature) 100000000) (eqb s.irradiance 0 && eqb (nat_abs s.temperature) 0) ≡ true → Shining s
    go true t =
        let p = and_parts (leb s.irradiance 100000000) (leb (nat_abs s.temperature) 100000000) t in
        record { irradiance_small = leb-true s.irradiance 100000000 p.0; temperature_small = leb-true (nat_abs s.temperature) 100000000 p.1 }
    go false t =
        let p = and_parts (eqb s.irradiance 0) (eqb (nat_abs s.temperature) 0) t in
        let a = eqb-true s.irradiance 0 p.0 in
        let b = eqb-true (nat_abs s.temperature) 0 p.1 in
        record { irradiance_small = omega arith; temperature_small = omega arith }

volts_few : (stage volts : ℕ) → volt_fits stage volts ≡ true → volts ≤ 20000
unfolding volt_fits
volts_few stage volts t = go (eqb stage at_voltage) t
  where
    go : (b : Bool) → cond b (voltage_in volts) (eqb volts 0) ≡ true → volts ≤ 20000
    go true e = leb-true volts 20000 e
    go false e = let z = eqb-true volts 0 e in omega arith

-- ---- what is well kept has room in its bytes
module _ (k : Kept) (well : WellKept k) where
  abbrev K : State
  K = known_by k.site

  abbrev stored : List ℕ
  stored = k.stands.units.stored

  abbrev rs : List ℤ
  rs = k.stands.units.requests

  abbrev on : List Bool
  on = k.stands.on

  abbrev vs : List ℤ
  vs = all_vars k.stands

  site_test : site_fits (reach_of (length k.site) start k.site 0) k.state.stage k.state.steps ≡ true
  unfolding site_fits
  site_test =
      ap (λ (r : Reached). site_fits r k.state.stage k.state.steps) well.known
      ∙ ap₂ ◌&&◌ (eq-eqb K.steps 0 well.no_steps_is) (go (begun k.state) refl)
    where
      go : (b : Bool) → begun k.state ≡ b → cond (begun k.state) (eqb K.stage 0) (eqb K.stage k.state.stage && eqb k.state.steps 0) ≡ true
      go true e = ap (λ (b : Bool). cond b (eqb K.stage 0) (eqb K.stage k.state.stage && eqb k.state.steps 0)) e ∙ eq-eqb K.stage 0 (well.closed e)
      go false e =
          ap (λ (b : Bool). cond b (eqb K.stage 0) (eqb K.stage k.state.stage && eqb k.state.steps 0)) e
          ∙ ap₂ ◌&&◌ (eq-eqb K.stage k.state.stage (well.waiting e).0) (eq-eqb k.state.steps 0 (well.waiting e).1)

  pub stage_small : k.state.stage ≤ 12
  stage_small = go (begun k.state) refl
    where
      go : (b : Bool) → begun k.state ≡ b → k.state.stage ≤ 12
      go true e = begun_small k.state.stage e
      go false e = subst (λ (n : ℕ). n ≤ 12) (well.waiting e).0 (known_small k.site)

  pub place_small : k.place ≤ 4000000
  place_small =
      place_few k.place k.state.stage k.state.steps (length k.site) (length k.tail) well.placed well.site_short well.few well.tail_short

  -- once the steps have begun the site part is an accepted file
  module _ (b : begun k.state ≡ true) where
    site_accepted : Accepted k.site
    site_accepted = part_accepted k.site k.state.stage k.state.steps well.site_short site_test b

    unit_bounds : (i : ℕ) → i < count (site_of k.site) → Bounds (unit_of (site_of k.site) i) (site_of k.site).head.seconds
    unit_bounds i l = bounds (unit_ranged (site_of k.site) (sited k.site site_accepted) i l)

  -- what stands fits its unit
  held_at : (i : ℕ) → i < length stored → (get_or stored i 0 ≤ (unit_of (site_of k.site) i).rated) × (nat_abs (get_or rs i (pos 0)) ≤ (unit_of (site_of k.site) i).rating)
  unfolding held_fits unit_fits
  held_at i l =
      let site = site_of k.site in
      let all = (and_parts (all_of (length stored) (unit_fits site stored rs)) (not (some_above rs && some_below rs)) well.held).0 in
      let one = all_at (length stored) (unit_fits site stored rs) all i l in
      let p = and_parts (leb (get_or stored i 0) (unit_of site i).rated) (leb (nat_abs (get_or rs i (pos 0))) (unit_of site i).rating) one in
      (leb-true (get_or stored i 0) (unit_of site i).rated p.0, leb-true (nat_abs (get_or rs i (pos 0))) (unit_of site i).rating p.1)

  none_stored : begun k.state ≡ false → length stored ≡ 0
  none_stored e = ap (λ (s : Stands). length s.units.stored) (well.none_stands e)

  held_few : (i : ℕ) → i < length stored → (get_or stored i 0 ≤ 10000000000000) × (nat_abs (get_or rs i (pos 0)) ≤ 100000000)
  held_few i l = go (begun k.state) refl
    where
      go : (b : Bool) → begun k.state ≡ b → (get_or stored i 0 ≤ 10000000000000) × (nat_abs (get_or rs i (pos 0)) ≤ 100000000)
      go true e =
          let n = well.stores e in
          let u = unit_bounds e i (omega arith) in
          let h = held_at i l in
          (le_trans h.0 u.rated_most, le_trans h.1 u.rating_most)
      go false e = let n = none_stored e in absurd (omega arith)

  stores_most : length stored ≤ 64
  stores_most = go (begun k.state) refl
    where
      go : (b : Bool) → begun k.state ≡ b → length stored ≤ 64
      go true e = let n = well.stores e in let m = few_units k.site (site_accepted e) in omega arith
      go false e = let n = none_stored e in omega arith

  on_most : length on ≤ 64
  on_most = go (begun k.state) refl
    where
      go : (b : Bool) → begun k.state ≡ b → length on ≤ 64
      go true e = let n = well.flags e in let m = few_roofs k.site (site_accepted e) in omega arith
      go false e = let n : length on ≡ 0 = ap (λ (s : Stands). length s.on) (well.none_stands e) in omega arith

  -- as many vars as units and inverters
  vars_are : length vs ≡ length stored + length on
  vars_are = length-append k.stands.units.vars k.stands.vars ∙ ap₂ ◌+◌ well.leads well.shines

  kept_room : Room k
  kept_room = record {
    tail_room = well.tail_short;
    stored_room = stores_most;
    on_room = on_most;
    vars_room = omega (arith, vars_are, stores_most, on_most);
    site_room = well.site_short;
  }

  pub keepable : Keepable k
  keepable =
      let sun = fits_shining k.state.stage k.due.sun well.sunny in
      record {
        room = kept_room;
        place_fits_is = lt_of_le_of_lt place_small (lit< tt);
        steps_fit = lt_of_le_of_lt well.few (lit< tt);
        stage_fits = lt_of_le_of_lt stage_small (lit< tt);
        light_fits = lt_of_le_of_lt sun.irradiance_small (lit< tt);
        warm_fits = size_fits w32 k.due.sun.temperature (lt_of_le_of_lt sun.temperature_small (lit< tt));
        volts_fit = lt_of_le_of_lt (volts_few k.state.stage (volts_of k.due.voltage) well.volted) (lit< tt);
        said = well.said;
        stores_fit = λ i l. lt_of_le_of_lt (held_few i l).0 (lit< tt);
        requests_fit = λ i l. let n = well.asks in size_fits w32 (get_or rs i (pos 0)) (lt_of_le_of_lt (held_few i (omega arith)).1 (lit< tt));
        vars_fit = λ i l. size_fits w32 (get_or vs i (pos 0)) (lt_of_le_of_lt (well.small i l) (lit< tt));
        asked = well.asks;
        led = well.leads;
        shone = well.shines;
        once_begun = λ e. (well.stores e, well.flags e);
        not_begun = well.none_stands;
        state_is = well.state_is;
      }

  -- ---- so it comes back from them
  pub kept_back : kept_in (bytes_for k) ≡ k
  kept_back = back k keepable

  pub kept_number : number_in (bytes_for k) ≡ 0
  kept_number = number_back k

  -- ---- and they are a state that goes on
  abbrev S : List ℕ
  S = bytes_for k

  stage_is : stage_in S ≡ k.state.stage
  unfolding state_in
  stage_is = ap (λ (st : State). st.stage) (state_back k keepable)

  steps_is : steps_kept S ≡ k.state.steps
  unfolding state_in
  steps_is = ap (λ (st : State). st.steps) (state_back k keepable)

  place_is : place_in S ≡ k.place
  unfolding kept_in
  place_is = ap (λ (x : Kept). x.place) kept_back

  sun_is : sun_kept S ≡ k.due.sun
  unfolding kept_in due_kept
  sun_is = ap (λ (x : Kept). x.due.sun) kept_back

  stored_is : up_to (units_kept S) (store_at S) ≡ stored
  unfolding kept_in stands_in
  stored_is = ap (λ (x : Kept). x.stands.units.stored) kept_back

  requests_are_lem : up_to (units_kept S) (request_at S) ≡ rs
  unfolding kept_in stands_in
  requests_are_lem = ap (λ (x : Kept). x.stands.units.requests) kept_back

  on_is : up_to (roofs_kept S) (flag_at S) ≡ on
  unfolding kept_in stands_in
  on_is = ap (λ (x : Kept). x.stands.on) kept_back

  units_are : units_kept S ≡ length stored
  units_are = sym (up_to_length (units_kept S) (store_at S)) ∙ ap length stored_is

  roofs_are : roofs_kept S ≡ length on
  roofs_are = sym (up_to_length (roofs_kept S) (flag_at S)) ∙ ap length on_is

  small_so : small S ≡ true
  small_so =
      let a = site_bytes_back k kept_room in
      let b = tail_bytes_back k kept_room in
      let d = steps_is in
      let x = well.site_short in
      let y = well.tail_short in
      let z = well.few in
      ap₂ ◌&&◌ (ap₂ ◌&&◌ (le-leb (site_bytes S) site_most (omega arith)) (le-leb (tail_bytes S) tail_most (omega arith))) (le-leb (steps_kept S) 65535 (omega arith))

  site_so : site_fits (reach_of (length (site_part S)) start (site_part S) 0) (stage_in S) (steps_kept S) ≡ true
  site_so =
      sym
      (fits_as_read S (reach_of (length k.site) start k.site 0) k.state.stage k.state.steps true
      (ap (λ (p : List ℕ). reach_of (length p) start p 0) (sym (site_back k kept_room))) (sym stage_is) (sym steps_is) (sym site_test))

  place_so : (p q st t n m a b d e : ℕ) → p ≡ q → st ≡ t → n ≡ m → a ≡ b → d ≡ e → place_fits p st n a d ≡ place_fits q t m b e
  place_so p q st t n m a b d e f g h i j = cc

  mark_so : mark_fits S ≡ true
  unfolding mark_fits
  mark_so =
      ap₂ ◌&&◌
      (ap₂ ◌&&◌
      (ap₂ ◌&&◌
      (place_so (place_in S) k.place (stage_in S) k.state.stage (steps_kept S) k.state.steps (site_bytes S) (length k.site) (tail_bytes S) (length k.tail)
      place_is stage_is steps_is (site_bytes_back k kept_room) (tail_bytes_back k kept_room)
      ∙ well.placed)
      (ap₂ sun_fits stage_is sun_is ∙ well.sunny))
      (ap₂ volt_fits stage_is (volts_back k keepable) ∙ well.volted))
      (ap₂ tail_fits (state_back k keepable) (tail_back k kept_room) ∙ well.tailed)

  flag_most : (b : Bool) → leb (cond b 1 0) 1 ≡ true
  flag_most true = refl
  flag_most false = refl

  flag_so : (i : ℕ) → i < roofs_kept S → flag_fits S i ≡ true
  unfolding flag_fits
  flag_so i l =
      let n = roofs_are in
      let m = flags_length (length on) on in
      ap (λ (v : ℕ). leb v 1) (flags_back k kept_room i (omega arith) ∙ flags_flag on (length on) i (omega arith))
      ∙ flag_most (get_or on i false)

  var_so : (i : ℕ) → i < units_kept S + roofs_kept S → var_fits S i ≡ true
  unfolding var_fits
  var_so i l =
      let m : i < length vs = omega (arith, vars_are, units_are, roofs_are) in
      ap (λ (z : ℤ). leb (nat_abs z) 100000000) (var_back k keepable i m) ∙ le-leb (nat_abs (get_or vs i (pos 0))) 100000000 (well.small i m)

  lists_so : stands_fit S ≡ true
  unfolding stands_fit lists_fit
  lists_so =
      ap₂ ◌&&◌
      (ap₂ ◌&&◌
      (ap (λ (p : List ℕ). held_fits (site_of p) (up_to (units_kept S) (store_at S)) (up_to (units_kept S) (request_at S))) (site_back k kept_room)
      ∙ ap₂ (held_fits (site_of k.site)) stored_is requests_are_lem
      ∙ well.held)
      (all_so (roofs_kept S) (flag_fits S) flag_so))
      (all_so (units_kept S + roofs_kept S) (var_fits S) var_so)

  -- ---- what is not in use is 0
  abbrev top : List ℕ
  top = top_of (mark_of k) k.tail

  abbrev held : List ℕ
  held = held_of (length stored) stored rs

  abbrev flags : List ℕ
  flags = flags_of (length on) on

  abbrev vars : List ℕ
  vars = vars_of (length vs) vs

  abbrev stands : List ℕ
  stands = stands_of stored rs vs on

  abbrev site : List ℕ
  site = filled site_most k.site

  abbrev zeros : ℕ → List ℕ
  zeros n = replicate n 0

  tail_grouped : (n t z s p : List ℕ) → n ++ (t ++ z) ++ s ++ p ≡ (n ++ t) ++ (z ++ (s ++ p))
  tail_grouped n t z s p = simp append_assoc

  held_grouped : (a h z f v p : List ℕ) → a ++ (h ++ z ++ f ++ v) ++ p ≡ (a ++ h) ++ (z ++ (f ++ (v ++ p)))
  held_grouped a h z f v p = simp append_assoc

  flags_grouped : (a h f z v p : List ℕ) → a ++ (h ++ (f ++ z) ++ v) ++ p ≡ (a ++ h ++ f) ++ (z ++ (v ++ p))
  flags_grouped a h f z v p = simp append_assoc

  vars_grouped : (a h f v z p : List ℕ) → a ++ (h ++ f ++ (v ++ z)) ++ p ≡ (a ++ (h ++ f) ++ v) ++ (z ++ p)
  vars_grouped a h f v z p = simp append_assoc

  site_grouped : (a p z : List ℕ) → a ++ (p ++ z) ≡ (a ++ p) ++ (z ++ [])
  site_grouped a p z = sym (append_assoc a p z) ∙ ap (λ (l : List ℕ). (a ++ p) ++ l) (sym (append-nil z))

  tail_clear : clear S (tail_place + tail_bytes S) held_place ≡ true
  unfolding bytes_for top_of filled
  tail_clear =
      let t = length k.tail in
      let few = well.tail_short in
      ap (λ (n : ℕ). clear S (tail_place + n) held_place) (tail_bytes_back k kept_room)
      ∙ clear_in (numbers_of (mark_of k) ++ k.tail) (stands ++ site) (tail_most - t) (tail_place + t) held_place
      (both (numbers_of (mark_of k)) k.tail 27 t (numbers_length (mark_of k)) refl) (omega arith) S
      (tail_grouped (numbers_of (mark_of k)) k.tail (zeros (tail_most - t)) stands site)

  held_clear : clear S (held_place + 12 * units_kept S) flag_place ≡ true
  unfolding bytes_for stands_of filled
  held_clear =
      let n = length stored in
      let l : length held ≡ 12 * n = held_length n stored rs in
      let few : n ≤ 64 = kept_room.stored_room in
      ap (λ (m : ℕ). clear S (held_place + 12 * m) flag_place) units_are
      ∙ clear_in (top ++ held) (filled 64 flags ++ (filled 512 vars ++ site)) (768 - length held) (held_place + 12 * n) flag_place
      (both top held held_place (12 * n) (top_length k kept_room) l) (omega arith) S
      (held_grouped top held (zeros (768 - length held)) (filled 64 flags) (filled 512 vars) site)

  flags_clear : clear S (flag_place + roofs_kept S) vars_place ≡ true
  unfolding bytes_for stands_of filled
  flags_clear =
      let n = length on in
      let l : length flags ≡ n = flags_length n on in
      let few : n ≤ 64 = kept_room.on_room in
      ap (λ (m : ℕ). clear S (flag_place + m) vars_place) roofs_are
      ∙ clear_in (top ++ filled 768 held ++ flags) (filled 512 vars ++ site) (64 - length flags) (flag_place + n) vars_place
      (both (top ++ filled 768 held) flags flag_place n (before_flags k kept_room) l) (omega arith) S
      (flags_grouped top (filled 768 held) flags (zeros (64 - length flags)) (filled 512 vars) site)

  vars_clear : clear S (vars_place + 4 * (units_kept S + roofs_kept S)) site_place ≡ true
  unfolding bytes_for stands_of filled
  vars_clear =
      let n = length vs in
      let l : length vars ≡ 4 * n = vars_length n vs in
      let few : n ≤ 128 = kept_room.vars_room in
      ap (λ (m : ℕ). clear S (vars_place + 4 * m) site_place) (ap₂ ◌+◌ units_are roofs_are ∙ sym vars_are)
      ∙ clear_in (top ++ (filled 768 held ++ filled 64 flags) ++ vars) site (512 - length vars) (vars_place + 4 * n) site_place
      (both (top ++ (filled 768 held ++ filled 64 flags)) vars vars_place (4 * n) (before_vars k kept_room) l) (omega arith) S
      (vars_grouped top (filled 768 held) (filled 64 flags) vars (zeros (512 - length vars)) site)

  site_clear : clear S (site_place + site_bytes S) state_size ≡ true
  unfolding bytes_for filled
  site_clear =
      let n = length k.site in
      let few = well.site_short in
      ap (λ (m : ℕ). clear S (site_place + m) state_size) (site_bytes_back k kept_room)
      ∙ clear_in (top ++ stands ++ k.site) [] (site_most - n) (site_place + n) state_size
      (both (top ++ stands) k.site site_place n (before_site k kept_room) refl) (omega arith) S
      (site_grouped (top ++ stands) k.site (zeros (site_most - n)))

  rest_so : rest_clear S (units_kept S) (roofs_kept S) ≡ true
  unfolding rest_clear
  rest_so = ap₂ ◌&&◌ (ap₂ ◌&&◌ (ap₂ ◌&&◌ (ap₂ ◌&&◌ tail_clear held_clear) flags_clear) vars_clear) site_clear

  pub kept_formed : well_formed (bytes_for k) ≡ true
  kept_formed =
      sym (well_going S true (size k kept_room) kept_number (going_on S true true small_so site_so (sym mark_so) (sym (ap₂ ◌&&◌ lists_so rest_so))))

-- ---- a run that was refused, or is over
abbrev pub Refusal : ℕ → Type 0
Refusal n = ((1 ≤ n) × (n ≤ 9)) ⊎ (n ≡ 12)

module _ (number place steps : ℕ) where
  stopped_clear : clear (stopped_bytes number place steps) 13 state_size ≡ true
  unfolding stopped_bytes
  stopped_clear =
      let a = bytes_of 1 number in
      let b = a ++ bytes_of 8 place in
      let lb = longer a 1 8 place (bytes_length 1 number) in
      let d = b ++ bytes_of 4 steps in
      clear_in d [] rest_size 13 state_size (longer b 9 4 steps lb) (omega arith) (stopped_bytes number place steps)
      (ap (λ (l : List ℕ). d ++ l) (sym (append-nil (replicate rest_size 0))))

  -- it keeps no tail
  pub stopped_tail : tail_part (stopped_bytes number place steps) ≡ []
  unfolding tail_part clear
  stopped_tail =
      let s = stopped_bytes number place steps in
      let none : tail_bytes s ≡ 0 =
      be_one s 16 ∙ eqb-true (get_or s 16 0) 0 (all_at (state_size - 13) (λ (i : ℕ). eqb (get_or s (13 + i) 0) 0) stopped_clear 3 (lit< tt)) in
      ap (λ (n : ℕ). slice tail_place (tail_place + n) s) none ∙ slice_empty tail_place s

  module _ (r : Refusal number) (few : steps ≤ 65535) (near : place ≤ place_most + 51 * steps) where
    number_few : number < 256
    number_few = go r
      where
        go : Refusal number → number < 256
        go (inl (a, b)) = omega arith
        go (inr e) = omega arith

    place_room : place < 2 ^ 64
    place_room = let p : place ≤ 4000000 = omega arith in lt_of_le_of_lt p (lit< tt)

    pub stopped_number_back : number_in (stopped_bytes number place steps) ≡ number
    stopped_number_back = stopped_number number place steps number_few

    pub stopped_place_back : place_in (stopped_bytes number place steps) ≡ place
    stopped_place_back = stopped_place number place steps place_room

    pub stopped_steps_back : steps_kept (stopped_bytes number place steps) ≡ steps
    stopped_steps_back = stopped_steps number place steps (lt_of_le_of_lt few (lit< tt))

    pub refusal_some : number ≡ 0 → ⊥
    refusal_some z = go r
      where
        go : Refusal number → ⊥
        go (inl (a, b)) = omega arith
        go (inr e) = omega arith

    number_so : (between 1 9 number || eqb number 12) ≡ true
    number_so = go r
      where
        or_last : (a b : Bool) → b ≡ true → (a || b) ≡ true
        or_last true b e = refl
        or_last false b e = e

        go : Refusal number → (between 1 9 number || eqb number 12) ≡ true
        go (inl (a, b)) = ap (λ (x : Bool). x || eqb number 12) (ap₂ ◌&&◌ (le-leb 1 number a) (le-leb number 9 b))
        go (inr e) = or_last (between 1 9 number) (eqb number 12) (eq-eqb number 12 e)

    pub stopped_formed : well_formed (stopped_bytes number place steps) ≡ true
    stopped_formed =
        let s = stopped_bytes number place steps in
        let n = stopped_number_back in
        sym
        (well_stopped s true (stopped_size number place steps) (λ z. refusal_some (sym n ∙ z))
        (sym (ap₂ ◌&&◌ (ap₂ ◌&&◌ (ap₂ ◌&&◌ number_so (le-leb steps 65535 few)) (le-leb place (place_most + 51 * steps) near)) refl)
        ∙ stopped_is s number place steps true (sym n) (sym stopped_place_back) (sym stopped_steps_back) (sym stopped_clear)))
