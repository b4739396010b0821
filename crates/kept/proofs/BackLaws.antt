-- The bytes of what is kept are those of a state's size, and what is kept comes back from them; so do the three numbers of a run that is over. The bytes
-- behind a state's site part are 0. Assumes nothing.
use mathlib.Core.Path.{◌≡◌, refl, sym, ap, ap₂, ◌∙◌}
use mathlib.Core.Bool.{Bool, true, false, cond, ◌&&◌}
use mathlib.Core.List.{List, ◌++◌, append_assoc}
use Prim.Native.Nat.{ℕ, ◌+◌, ◌-◌, ◌*◌, ◌^◌, ◌≤◌, ◌<◌}
use native.Mathlib.Nat.{add_assoc, le_trans, le_of_eq}
use native.Mathlib.Omega.{arith}
use lib.Dec.{eqb, lit<}
use lib.IntN.{ℤ, pos}
use lib.ListN.{length, get_or, drop, replicate, length-append, length-replicate, take-append-drop, get_or-append}
use lib.Seq.{slice, drop-drop, get_or-append-add}
use borrow.Author.Tests.{eq-eqb, eqb-true}
use mir.Syntax.{w32}
use mir.Val.{SFits, to_z, of_z}
use mir.ValLaws.{to_z-of_z, of_z_fits}
use Rattle.whole.proofs.OverLaws.{and_parts}
use Rattle.octets.specs.BigEndian.{be, bytes_of}
use Rattle.octets.proofs.ByteLaws.{bytes_length}
use Rattle.records.proofs.LayLaws.{both, longer}
use Rattle.solar.specs.declared.Sun.{Sun}
use Rattle.site.specs.declared.Due.{Due}
use Rattle.site.specs.Site.{due, count}
use Rattle.fields.specs.declared.State.{State}
use Rattle.fields.specs.Fields.{at_voltage, gone_to}
use Rattle.stick.specs.Check.{reach_of, start}
use Rattle.stick.specs.Site.{site_of, roofs_of}
use Rattle.fleet.specs.Step.{Stands, standing}
use Rattle.kept.specs.declared.Mark.{Mark}
use Rattle.kept.specs.Kept.{Kept, begun, no_standing}
use Rattle.kept.specs.Layout.{tail_most, site_most, rest_size, volts_of, all_vars, tail_place, held_place, flag_place, vars_place, site_place, state_size, filled, progress_of, parts_of, numbers_of, held_of, flags_of, vars_of, top_of, stands_of, mark_of, bytes_for, stopped_bytes, number_in, place_in, steps_kept, stage_in, site_bytes, tail_bytes, site_part, tail_part, sun_kept, due_kept, known_by, state_in, store_at, request_at, flag_at, var_at, up_to, units_kept, roofs_kept, stands_in, kept_in}
use Rattle.kept.specs.Formed.{clear, site_fits, stands_fit, rest_clear, mark_fits, going, stopped, well_formed}
use Rattle.kept.specs.Posts.{Sized}
use Rattle.kept.proofs.PieceLaws.{filled_long}
use Rattle.kept.proofs.StandLaws.{held_length, flags_length, vars_length}
use Rattle.kept.proofs.NumberLaws.{take_drop, progress_length, numbers_length}
use Rattle.kept.proofs.ListLaws.{site_part_length}
use Rattle.kept.proofs.WellLaws.{small, sized_by_lem}
use Rattle.kept.proofs.ReadLaws.{read_left, read_right, read_here, read_first, read_second, read_third, read_fourth, slice_in, clear_zero, up_to_is, held_store, held_request, flags_flag, flag_back, vars_var}
use Rattle.std.proofs.Common.{None, Option, Some}

-- ---- what is kept has room in its bytes
pub record Room (k : Kept) : Type 0 where
  pub tail_room : length k.tail ≤ tail_most
  pub stored_room : length k.stands.units.stored ≤ 64
  pub on_room : length k.stands.on ≤ 64
  pub vars_room : length (all_vars k.stands) ≤ 128
  pub site_room : length k.site ≤ site_most

-- its numbers have room in theirs, a voltage is behind a voltage field alone, its lists are as long as its site says, and its state is what the site part leads to
pub record Keepable (k : Kept) : Type 0 where
  pub room : Room k
  pub place_fits_is : k.place < 2 ^ 64
  pub steps_fit : k.state.steps < 2 ^ 32
  pub stage_fits : k.state.stage < 256
  pub light_fits : k.due.sun.irradiance < 2 ^ 32
  pub warm_fits : SFits w32 k.due.sun.temperature
  pub volts_fit : volts_of k.due.voltage < 2 ^ 16
  pub said : k.due.voltage ≡ cond (eqb k.state.stage at_voltage) (Some (volts_of k.due.voltage)) None
  pub stores_fit : (i : ℕ) → i < length k.stands.units.stored → get_or k.stands.units.stored i 0 < 2 ^ 64
  pub requests_fit : (i : ℕ) → i < length k.stands.units.requests → SFits w32 (get_or k.stands.units.requests i (pos 0))
  pub vars_fit : (i : ℕ) → i < length (all_vars k.stands) → SFits w32 (get_or (all_vars k.stands) i (pos 0))
  pub asked : length k.stands.units.requests ≡ length k.stands.units.stored
  pub led : length k.stands.units.vars ≡ length k.stands.units.stored
  pub shone : length k.stands.vars ≡ length k.stands.on
  pub once_begun : begun k.state ≡ true → (length k.stands.units.stored ≡ count (site_of k.site)) × (length k.stands.on ≡ length (roofs_of k.site))
  pub not_begun : begun k.state ≡ false → k.stands ≡ no_standing
  pub state_is : gone_to (known_by k.site) k.state.stage (known_by k.site).left k.state.steps ≡ k.state

-- ---- the pieces, grouped anew
first_of : (n t s p : List ℕ) → n ++ t ++ s ++ p ≡ n ++ (t ++ (s ++ p))
first_of n t s p = simp append_assoc

second_of : (n t z s p : List ℕ) → n ++ (t ++ z) ++ s ++ p ≡ n ++ (t ++ (z ++ (s ++ p)))
second_of n t z s p = simp append_assoc

third_of : (a h z f v p : List ℕ) → a ++ (h ++ z ++ f ++ v) ++ p ≡ a ++ (h ++ (z ++ (f ++ (v ++ p))))
third_of a h z f v p = simp append_assoc

fourth_of : (a h f z v p : List ℕ) → a ++ (h ++ (f ++ z) ++ v) ++ p ≡ (a ++ h) ++ (f ++ (z ++ (v ++ p)))
fourth_of a h f z v p = simp append_assoc

fifth_of : (a h f v z p : List ℕ) → a ++ (h ++ f ++ (v ++ z)) ++ p ≡ (a ++ (h ++ f)) ++ (v ++ (z ++ p))
fifth_of a h f v z p = simp append_assoc

-- ---- the numbers
module _ (m : Mark) where
  progress_read : (n at : ℕ) → at + n ≤ 14 → be n (numbers_of m) at ≡ be n (progress_of m) at
  unfolding numbers_of
  progress_read n at h = read_left n (progress_of m) (parts_of m) at (le_trans h (le_of_eq (sym (progress_length m))))

  abbrev warm : ℕ
  warm = of_z w32 m.due.sun.temperature

  -- the parts before the voltage
  abbrev sunlit : List ℕ
  sunlit = bytes_of 2 m.site ++ bytes_of 1 m.tail ++ bytes_of 4 m.due.sun.irradiance ++ bytes_of 4 warm

  sunlit_length : length sunlit ≡ 11
  unfolding bytes_of
  sunlit_length = refl

  parts_read : (n at : ℕ) → at + n ≤ 11 → be n (numbers_of m) (14 + at) ≡ be n sunlit at
  unfolding numbers_of parts_of
  parts_read n at h =
      read_right n (progress_of m) (parts_of m) 14 at (progress_length m)
      ∙ read_left n sunlit (bytes_of 2 (volts_of m.due.voltage)) at (le_trans h (le_of_eq (sym sunlit_length)))

  number_read : be 1 (numbers_of m) 0 ≡ 0
  unfolding progress_of
  number_read =
      progress_read 1 0 (omega arith)
      ∙ read_first (bytes_of 1 0) (bytes_of 8 m.place) (bytes_of 4 m.state.steps) (bytes_of 1 m.state.stage) 1 8 4 (bytes_length 1 0) (bytes_length 8 m.place) (bytes_length 4 m.state.steps)
      ∙ read_here 1 0 (lit< tt)

  place_read : m.place < 2 ^ 64 → be 8 (numbers_of m) 1 ≡ m.place
  unfolding progress_of
  place_read h =
      progress_read 8 1 (omega arith)
      ∙ read_second (bytes_of 1 0) (bytes_of 8 m.place) (bytes_of 4 m.state.steps) (bytes_of 1 m.state.stage) 1 8 4 (bytes_length 1 0) (bytes_length 8 m.place) (bytes_length 4 m.state.steps)
      ∙ read_here 8 m.place h

  steps_read : m.state.steps < 2 ^ 32 → be 4 (numbers_of m) 9 ≡ m.state.steps
  unfolding progress_of
  steps_read h =
      progress_read 4 9 (omega arith)
      ∙ read_third (bytes_of 1 0) (bytes_of 8 m.place) (bytes_of 4 m.state.steps) (bytes_of 1 m.state.stage) 1 8 4 (bytes_length 1 0) (bytes_length 8 m.place) (bytes_length 4 m.state.steps)
      ∙ read_here 4 m.state.steps h

  stage_read : m.state.stage < 256 → be 1 (numbers_of m) 13 ≡ m.state.stage
  unfolding progress_of
  stage_read h =
      progress_read 1 13 (omega arith)
      ∙ read_fourth (bytes_of 1 0) (bytes_of 8 m.place) (bytes_of 4 m.state.steps) (bytes_of 1 m.state.stage) 1 8 4 (bytes_length 1 0) (bytes_length 8 m.place) (bytes_length 4 m.state.steps) 1
      ∙ read_here 1 m.state.stage h

  site_read : m.site ≤ site_most → be 2 (numbers_of m) 14 ≡ m.site
  site_read h =
      parts_read 2 0 (omega arith)
      ∙ read_first (bytes_of 2 m.site) (bytes_of 1 m.tail) (bytes_of 4 m.due.sun.irradiance) (bytes_of 4 warm) 2 1 4 (bytes_length 2 m.site) (bytes_length 1 m.tail) (bytes_length 4 m.due.sun.irradiance)
      ∙ read_here 2 m.site (below h)
    where
      below : m.site ≤ site_most → m.site < 65536
      below h = omega arith

  tail_read : m.tail ≤ tail_most → be 1 (numbers_of m) 16 ≡ m.tail
  tail_read h =
      parts_read 1 2 (omega arith)
      ∙ read_second (bytes_of 2 m.site) (bytes_of 1 m.tail) (bytes_of 4 m.due.sun.irradiance) (bytes_of 4 warm) 2 1 4 (bytes_length 2 m.site) (bytes_length 1 m.tail) (bytes_length 4 m.due.sun.irradiance)
      ∙ read_here 1 m.tail (below h)
    where
      below : m.tail ≤ tail_most → m.tail < 256
      below h = omega arith

  light_read : m.due.sun.irradiance < 2 ^ 32 → be 4 (numbers_of m) 17 ≡ m.due.sun.irradiance
  light_read h =
      parts_read 4 3 (omega arith)
      ∙ read_third (bytes_of 2 m.site) (bytes_of 1 m.tail) (bytes_of 4 m.due.sun.irradiance) (bytes_of 4 warm) 2 1 4 (bytes_length 2 m.site) (bytes_length 1 m.tail) (bytes_length 4 m.due.sun.irradiance)
      ∙ read_here 4 m.due.sun.irradiance h

  warm_read : SFits w32 m.due.sun.temperature → to_z w32 (be 4 (numbers_of m) 21) ≡ m.due.sun.temperature
  warm_read h =
      ap (to_z w32)
      (parts_read 4 7 (omega arith)
      ∙ read_fourth (bytes_of 2 m.site) (bytes_of 1 m.tail) (bytes_of 4 m.due.sun.irradiance) (bytes_of 4 warm) 2 1 4 (bytes_length 2 m.site) (bytes_length 1 m.tail) (bytes_length 4 m.due.sun.irradiance) 4
      ∙ read_here 4 warm (of_z_fits w32 m.due.sun.temperature h).fits)
      ∙ to_z-of_z w32 m.due.sun.temperature h

  volts_read : volts_of m.due.voltage < 2 ^ 16 → be 2 (numbers_of m) 25 ≡ volts_of m.due.voltage
  unfolding numbers_of parts_of
  volts_read h =
      read_right 2 (progress_of m) (parts_of m) 14 11 (progress_length m)
      ∙ read_right 2 sunlit (bytes_of 2 (volts_of m.due.voltage)) 11 0 sunlit_length
      ∙ read_here 2 (volts_of m.due.voltage) h

-- ---- the whole
module _ (k : Kept) where
  abbrev top : List ℕ
  top = top_of (mark_of k) k.tail

  abbrev stored : List ℕ
  stored = k.stands.units.stored

  abbrev rs : List ℤ
  rs = k.stands.units.requests

  abbrev on : List Bool
  on = k.stands.on

  abbrev vs : List ℤ
  vs = all_vars k.stands

  abbrev stands : List ℕ
  stands = stands_of stored rs vs on

  abbrev held : List ℕ
  held = held_of (length stored) stored rs

  abbrev flags : List ℕ
  flags = flags_of (length on) on

  abbrev vars : List ℕ
  vars = vars_of (length vs) vs

  -- a number of the first 27 bytes
  numbers_back : (n at : ℕ) → at + n ≤ 27 → be n (bytes_for k) at ≡ be n (numbers_of (mark_of k)) at
  unfolding bytes_for top_of
  numbers_back n at h =
      let numbers = numbers_of (mark_of k) in
      let tail = filled tail_most k.tail in
      let site = filled site_most k.site in
      ap (λ (s : List ℕ). be n s at) (first_of numbers tail stands site)
      ∙ read_left n numbers (tail ++ (stands ++ site)) at (le_trans h (le_of_eq (sym (numbers_length (mark_of k)))))

  pub number_back : number_in (bytes_for k) ≡ 0
  number_back = numbers_back 1 0 (omega arith) ∙ number_read (mark_of k)

  module _ (r : Room k) where
    pub top_length : length top ≡ held_place
    unfolding top_of
    top_length = both (numbers_of (mark_of k)) (filled tail_most k.tail) 27 tail_most (numbers_length (mark_of k)) (filled_long tail_most k.tail r.tail_room)

    pub held_room : length held ≤ 768
    held_room = omega (arith, held_length (length stored) stored rs, r.stored_room)

    flags_room : length flags ≤ 64
    flags_room = omega (arith, flags_length (length on) on, r.on_room)

    vars_most : length vars ≤ 512
    vars_most = omega (arith, vars_length (length vs) vs, r.vars_room)

    -- what lies before the flags, and before the vars
    pub before_flags : length (top ++ filled 768 held) ≡ flag_place
    before_flags = both top (filled 768 held) held_place 768 top_length (filled_long 768 held held_room)

    units_length : length (filled 768 held ++ filled 64 flags) ≡ 832
    units_length = both (filled 768 held) (filled 64 flags) 768 64 (filled_long 768 held held_room) (filled_long 64 flags flags_room)

    pub before_vars : length (top ++ (filled 768 held ++ filled 64 flags)) ≡ vars_place
    before_vars = both top (filled 768 held ++ filled 64 flags) held_place 832 top_length units_length

    stands_length : length stands ≡ 1344
    unfolding stands_of
    stands_length = both (filled 768 held ++ filled 64 flags) (filled 512 vars) 832 512 units_length (filled_long 512 vars vars_most)

    pub before_site : length (top ++ stands) ≡ site_place
    before_site = both top stands held_place 1344 top_length stands_length

    pub size : length (bytes_for k) ≡ state_size
    unfolding bytes_for
    size = both (top ++ stands) (filled site_most k.site) site_place site_most before_site (filled_long site_most k.site r.site_room)

    pub site_bytes_back : site_bytes (bytes_for k) ≡ length k.site
    site_bytes_back = numbers_back 2 14 (omega arith) ∙ site_read (mark_of k) r.site_room

    pub tail_bytes_back : tail_bytes (bytes_for k) ≡ length k.tail
    tail_bytes_back = numbers_back 1 16 (omega arith) ∙ tail_read (mark_of k) r.tail_room

    pub site_back : site_part (bytes_for k) ≡ k.site
    unfolding site_part bytes_for filled
    site_back =
        ap (λ (n : ℕ). slice site_place (site_place + n) (bytes_for k)) site_bytes_back
        ∙ slice_in (top ++ stands) k.site (replicate (site_most - length k.site) 0) site_place (length k.site) before_site refl

    pub tail_back : tail_part (bytes_for k) ≡ k.tail
    unfolding tail_part bytes_for top_of filled
    tail_back =
        let zeros : List ℕ = replicate (tail_most - length k.tail) 0 in
        let site = filled site_most k.site in
        ap (λ (n : ℕ). slice tail_place (tail_place + n) (bytes_for k)) tail_bytes_back
        ∙ ap (slice tail_place (tail_place + length k.tail)) (second_of (numbers_of (mark_of k)) k.tail zeros stands site)
        ∙ slice_in (numbers_of (mark_of k)) k.tail (zeros ++ (stands ++ site)) 27 (length k.tail) (numbers_length (mark_of k)) refl

    -- a number of what units hold and are asked, a flag, and vars
    held_back : (n at : ℕ) → at + n ≤ length held → be n (bytes_for k) (held_place + at) ≡ be n held at
    unfolding bytes_for stands_of filled
    held_back n at h =
        let zeros : List ℕ = replicate (768 - length held) 0 in
        let rest = filled 64 flags ++ (filled 512 vars ++ filled site_most k.site) in
        ap (λ (s : List ℕ). be n s (held_place + at)) (third_of top held zeros (filled 64 flags) (filled 512 vars) (filled site_most k.site))
        ∙ read_right n top (held ++ (zeros ++ rest)) held_place at top_length
        ∙ read_left n held (zeros ++ rest) at h

    pub flags_back : (at : ℕ) → at < length flags → be 1 (bytes_for k) (flag_place + at) ≡ be 1 flags at
    unfolding bytes_for stands_of filled
    flags_back at h =
        let zeros : List ℕ = replicate (64 - length flags) 0 in
        let rest = filled 512 vars ++ filled site_most k.site in
        ap (λ (s : List ℕ). be 1 s (flag_place + at)) (fourth_of top (filled 768 held) flags zeros (filled 512 vars) (filled site_most k.site))
        ∙ read_right 1 (top ++ filled 768 held) (flags ++ (zeros ++ rest)) flag_place at before_flags
        ∙ read_left 1 flags (zeros ++ rest) at (omega arith)

    vars_back : (at : ℕ) → at + 4 ≤ length vars → be 4 (bytes_for k) (vars_place + at) ≡ be 4 vars at
    unfolding bytes_for stands_of filled
    vars_back at h =
        let zeros : List ℕ = replicate (512 - length vars) 0 in
        let site = filled site_most k.site in
        ap (λ (s : List ℕ). be 4 s (vars_place + at)) (fifth_of top (filled 768 held) (filled 64 flags) vars zeros site)
        ∙ read_right 4 (top ++ (filled 768 held ++ filled 64 flags)) (vars ++ (zeros ++ site)) vars_place at before_vars
        ∙ read_left 4 vars (zeros ++ site) at h

  module _ (w : Keepable k) where
    stage_back : stage_in (bytes_for k) ≡ k.state.stage
    stage_back = numbers_back 1 13 (omega arith) ∙ stage_read (mark_of k) w.stage_fits

    pub state_back : state_in (bytes_for k) ≡ k.state
    unfolding state_in
    state_back =
        let steps = numbers_back 4 9 (omega arith) ∙ steps_read (mark_of k) w.steps_fit in
        let known = known_by k.site in
        ap (λ (p : List ℕ). gone_to (known_by p) (stage_in (bytes_for k)) (known_by p).left (steps_kept (bytes_for k))) (site_back w.room)
        ∙ ap₂ (λ (a b : ℕ). gone_to known a known.left b) stage_back steps
        ∙ w.state_is

    -- as many units and inverters as the lists are long
    units_by_lem : (b : Bool) → begun k.state ≡ b → cond b (count (site_of k.site)) 0 ≡ length stored
    units_by_lem true e = sym (w.once_begun e).0
    units_by_lem false e = sym (ap (λ (s : Stands). length s.units.stored) (w.not_begun e))

    roofs_by_lem : (b : Bool) → begun k.state ≡ b → cond b (length (roofs_of k.site)) 0 ≡ length on
    roofs_by_lem true e = sym (w.once_begun e).1
    roofs_by_lem false e = sym (ap (λ (s : Stands). length s.on) (w.not_begun e))

    units_back : units_kept (bytes_for k) ≡ length stored
    unfolding units_kept
    units_back =
        ap₂ (λ (st : State) (p : List ℕ). cond (begun st) (count (site_of p)) 0) state_back (site_back w.room)
        ∙ units_by_lem (begun k.state) refl

    roofs_back : roofs_kept (bytes_for k) ≡ length on
    unfolding roofs_kept
    roofs_back =
        ap₂ (λ (st : State) (p : List ℕ). cond (begun st) (length (roofs_of p)) 0) state_back (site_back w.room)
        ∙ roofs_by_lem (begun k.state) refl

    stores_back : up_to (units_kept (bytes_for k)) (store_at (bytes_for k)) ≡ stored
    unfolding store_at
    stores_back =
        up_to_is (units_kept (bytes_for k)) (store_at (bytes_for k)) 0 stored units_back
        (λ i h.
        held_back w.room 8 (12 * i) (omega (arith, held_length (length stored) stored rs))
        ∙ held_store stored rs (length stored) i h (w.stores_fit i h))

    requests_back : up_to (units_kept (bytes_for k)) (request_at (bytes_for k)) ≡ rs
    unfolding request_at
    requests_back =
        up_to_is (units_kept (bytes_for k)) (request_at (bytes_for k)) (pos 0) rs (units_back ∙ sym w.asked)
        (λ i h.
        let l : i < length stored = le_trans h (le_of_eq w.asked) in
        ap (to_z w32)
        (ap (be 4 (bytes_for k)) (add_assoc held_place (12 * i) 8)
        ∙ held_back w.room 4 (12 * i + 8) (omega (arith, held_length (length stored) stored rs))
        ∙ held_request stored rs (length stored) i l (w.requests_fit i h))
        ∙ to_z-of_z w32 (get_or rs i (pos 0)) (w.requests_fit i h))

    on_back : up_to (roofs_kept (bytes_for k)) (flag_at (bytes_for k)) ≡ on
    unfolding flag_at
    on_back =
        up_to_is (roofs_kept (bytes_for k)) (flag_at (bytes_for k)) false on roofs_back
        (λ i h.
        ap (λ (n : ℕ). eqb n 1) (flags_back w.room i (omega (arith, flags_length (length on) on)) ∙ flags_flag on (length on) i h)
        ∙ flag_back (get_or on i false))

    -- vars last requested, of the units and behind them of the inverters
    pub var_back : (i : ℕ) → i < length vs → var_at (bytes_for k) i ≡ get_or vs i (pos 0)
    unfolding var_at
    var_back i h =
        ap (to_z w32) (vars_back w.room (4 * i) (omega (arith, vars_length (length vs) vs)) ∙ vars_var vs (length vs) i h (w.vars_fit i h))
        ∙ to_z-of_z w32 (get_or vs i (pos 0)) (w.vars_fit i h)

    vars_of_units : up_to (units_kept (bytes_for k)) (var_at (bytes_for k)) ≡ k.stands.units.vars
    vars_of_units =
        let a = k.stands.units.vars in
        let b = k.stands.vars in
        up_to_is (units_kept (bytes_for k)) (var_at (bytes_for k)) (pos 0) a (units_back ∙ sym w.led)
        (λ i h. var_back i (omega (arith, length-append a b)) ∙ get_or-append a b (pos 0) i h)

    vars_of_roofs : up_to (roofs_kept (bytes_for k)) (λ (i : ℕ). var_at (bytes_for k) (units_kept (bytes_for k) + i)) ≡ k.stands.vars
    vars_of_roofs =
        let a = k.stands.units.vars in
        let b = k.stands.vars in
        up_to_is (roofs_kept (bytes_for k)) (λ (i : ℕ). var_at (bytes_for k) (units_kept (bytes_for k) + i)) (pos 0) b (roofs_back ∙ sym w.shone)
        (λ i h.
        ap (λ (n : ℕ). var_at (bytes_for k) (n + i)) (units_back ∙ sym w.led)
        ∙ var_back (length a + i) (omega (arith, length-append a b))
        ∙ get_or-append-add a b i (pos 0))

    stands_back : stands_in (bytes_for k) (units_kept (bytes_for k)) (roofs_kept (bytes_for k)) ≡ k.stands
    unfolding stands_in
    stands_back =
        let s = bytes_for k in
        let n = units_kept s in
        let m = roofs_kept s in
        all_back (up_to n (store_at s)) stored stores_back (up_to n (request_at s)) rs requests_back (up_to n (var_at s)) k.stands.units.vars vars_of_units
        (up_to m (flag_at s)) on on_back (up_to m (λ (i : ℕ). var_at s (n + i))) k.stands.vars vars_of_roofs
      where
        stands_of_lem : List ℕ → List ℤ → List ℤ → List Bool → List ℤ → Stands
        stands_of_lem stored rs us on vs = record { units = standing stored rs us; on = on; vars = vs }

        all_back : (h h' : List ℕ) → h ≡ h' → (q q' : List ℤ) → q ≡ q' → (u u' : List ℤ) → u ≡ u' → (o o' : List Bool) → o ≡ o' → (v v' : List ℤ) → v ≡ v'
            → stands_of_lem h q u o v ≡ stands_of_lem h' q' u' o' v'
        all_back h h' a q q' b u u' d o o' e v v' f = cc

    sun_back : sun_kept (bytes_for k) ≡ k.due.sun
    unfolding sun_kept
    sun_back =
        ap₂ sun_of
        (numbers_back 4 17 (omega arith) ∙ light_read (mark_of k) w.light_fits)
        (ap (to_z w32) (numbers_back 4 21 (omega arith)) ∙ warm_read (mark_of k) w.warm_fits)
      where
        sun_of : ℕ → ℤ → Sun
        sun_of light warm = record { irradiance = light; temperature = warm }

    pub volts_back : be 2 (bytes_for k) 25 ≡ volts_of k.due.voltage
    volts_back = numbers_back 2 25 (omega arith) ∙ volts_read (mark_of k) w.volts_fit

    due_back : due_kept (bytes_for k) ≡ k.due
    unfolding due_kept
    due_back =
        ap₂ due sun_back
        (ap₂ (λ (stage x : ℕ). cond {A = (Option ℕ)} (eqb stage at_voltage) (Some x) None) stage_back volts_back ∙ sym w.said)

    -- all that is kept comes back
    pub back : kept_in (bytes_for k) ≡ k
    unfolding kept_in
    back =
        let s = bytes_for k in
        let place = numbers_back 8 1 (omega arith) ∙ place_read (mark_of k) w.place_fits_is in
        all_back (place_in s) k.place place (state_in s) k.state state_back (site_part s) k.site (site_back w.room)
        (due_kept s) k.due due_back (stands_in s (units_kept s) (roofs_kept s)) k.stands stands_back (tail_part s) k.tail (tail_back w.room)
      where
        kept_of : ℕ → State → List ℕ → Due → Stands → List ℕ → Kept
        kept_of place st site due stands tail = record { place = place; state = st; site = site; due = due; stands = stands; tail = tail }

        all_back : (p p' : ℕ) → p ≡ p' → (t t' : State) → t ≡ t' → (s s' : List ℕ) → s ≡ s' → (n n' : Due) → n ≡ n' → (h h' : Stands) → h ≡ h'
            → (l l' : List ℕ) → l ≡ l' → kept_of p t s n h l ≡ kept_of p' t' s' n' h' l'
        all_back p p' a t t' b s s' d n n' e h h' f l l' g = cc

-- ---- a run that is over
module _ (number place steps : ℕ) where
  pub stopped_size : length (stopped_bytes number place steps) ≡ state_size
  unfolding stopped_bytes
  stopped_size =
      let a = bytes_of 1 number in
      let b = a ++ bytes_of 8 place in
      let lb = longer a 1 8 place (bytes_length 1 number) in
      both (b ++ bytes_of 4 steps) (replicate rest_size 0) 13 rest_size (longer b 9 4 steps lb) (length-replicate {A = ℕ} rest_size 0)

  pub stopped_number : number < 256 → number_in (stopped_bytes number place steps) ≡ number
  unfolding stopped_bytes
  stopped_number h =
      read_first (bytes_of 1 number) (bytes_of 8 place) (bytes_of 4 steps) (replicate rest_size 0) 1 8 4 (bytes_length 1 number) (bytes_length 8 place) (bytes_length 4 steps)
      ∙ read_here 1 number h

  pub stopped_place : place < 2 ^ 64 → place_in (stopped_bytes number place steps) ≡ place
  unfolding stopped_bytes
  stopped_place h =
      read_second (bytes_of 1 number) (bytes_of 8 place) (bytes_of 4 steps) (replicate rest_size 0) 1 8 4 (bytes_length 1 number) (bytes_length 8 place) (bytes_length 4 steps)
      ∙ read_here 8 place h

  pub stopped_steps : steps < 2 ^ 32 → steps_kept (stopped_bytes number place steps) ≡ steps
  unfolding stopped_bytes
  stopped_steps h =
      read_third (bytes_of 1 number) (bytes_of 8 place) (bytes_of 4 steps) (replicate rest_size 0) 1 8 4 (bytes_length 1 number) (bytes_length 8 place) (bytes_length 4 steps)
      ∙ read_here 4 steps h

-- ---- a state of a run that goes on
module _ (s : List ℕ) (w : well_formed s ≡ true) (n : number_in s ≡ 0) where
  long : length s ≡ state_size
  unfolding well_formed
  long = eqb-true (length s) state_size (and_parts (eqb (length s) state_size) (cond (eqb (number_in s) 0) (going s) (stopped s)) w).0

  pub well_goes : going s ≡ true
  unfolding well_formed
  well_goes =
      sym (ap (λ (b : Bool). cond b (going s) (stopped s)) (eq-eqb (number_in s) 0 n))
      ∙ (and_parts (eqb (length s) state_size) (cond (eqb (number_in s) 0) (going s) (stopped s)) w).1

  abbrev site_test : Bool
  site_test = site_fits (reach_of (length (site_part s)) start (site_part s) 0) (stage_in s) (steps_kept s)

  abbrev list_test : Bool
  list_test = stands_fit s && rest_clear s (units_kept s) (roofs_kept s)

  well_small : small s ≡ true
  unfolding going
  well_small =
      let three = (and_parts (small s && site_test && mark_fits s) list_test well_goes).0 in
      let two = (and_parts (small s && site_test) (mark_fits s) three).0 in
      (and_parts (small s) site_test two).0

  pub well_sized : Sized s
  well_sized = sized_by_lem s long well_small

  well_clear : clear s (site_place + site_bytes s) state_size ≡ true
  unfolding going rest_clear
  well_clear =
      let lists = (and_parts (small s && site_test && mark_fits s) list_test well_goes).1 in
      let rest = (and_parts (stands_fit s) (rest_clear s (units_kept s) (roofs_kept s)) lists).1 in
      let before = clear s (tail_place + tail_bytes s) held_place && clear s (held_place + 12 * units_kept s) flag_place && clear s (flag_place + roofs_kept s) vars_place && clear s (vars_place + 4 * (units_kept s + roofs_kept s)) site_place in
      (and_parts before (clear s (site_place + site_bytes s) state_size) rest).1

  -- what lies behind the site part's place is the site part, and 0 behind it
  pub site_kept : drop site_place s ≡ filled site_most (site_part s)
  unfolding filled site_part
  site_kept =
      let b = site_bytes s in
      let l : length (site_part s) ≡ b = site_part_length s well_sized in
      let few : b ≤ site_most = well_sized.site_fits_is in
      let e : state_size - (site_place + b) ≡ site_most - length (site_part s) = omega arith in
      sym (take-append-drop b (drop site_place s))
      ∙ ap₂ ◌++◌ (take_drop b site_place s) (drop-drop b site_place s ∙ clear_zero s (site_place + b) state_size long well_clear ∙ ap (λ (j : ℕ). replicate j 0) e)
