-- The fields before the steps of a file whose walk is accepted, whatever its size: they end where the first step stands, no step is before it, and with the end
-- field of no steps behind them they are an accepted file. Assumes nothing.
use mathlib.Core.Path.{◌≡◌, refl, sym, ap, ap₂, ◌∙◌, subst, subst⁻¹}
use mathlib.Core.Bool.{Bool, true, false, cond, ◌||◌}
use mathlib.Core.List.{List, [], ◌∷◌, ◌++◌}
use Prim.Native.Nat.{ℕ, zero, suc, ◌+◌, ◌-◌, ◌*◌, ◌≤◌, ◌<◌}
use native.Mathlib.Nat.{add_assoc, mul-one, mul-suc}
use native.Mathlib.Omega.{arith}
use lib.Dec.{leb, eqb}
use lib.ListN.{length, take, length-append}
use lib.Seq.{length-take-le, take-append_seam}
use borrow.Author.Tests.{le-ltb, leb-false, eqb-true}
use Rattle.whole.proofs.Choice.{by_test, passed_failed}
use Rattle.octets.specs.BigEndian.{be}
use Rattle.parts.specs.Header.{header, tag_at, past}
use Rattle.site.specs.declared.Due.{Due}
use Rattle.fields.specs.declared.State.{State}
use Rattle.fields.specs.Fields.{at_end, at_fleet, at_units, at_settings, at_steps, at_inverters, at_temperature, at_efficiency, at_connections, at_volt_var, at_led, begins, unit_size, kinds, size_in, size_of, head_of, stands_in, allowed, is_reading, value_of, refused_by, Flags, flags, flags_of, state_of, gone_to, roof_after, state_after, taken_by}
use Rattle.fields.proofs.FieldLaws.{fleet_alone, units_alone, settings_alone, connections_alone, warm_alone, efficiency_alone, volt_var_alone, fewer, fewer_more}
use Rattle.stick.specs.Check.{Answer, answer, field_at, reached, reach_of, ends, start, Accepted}
use Rattle.stick.specs.declared.Reached.{Reached}
use Rattle.stick.specs.Site.{steps_from, of_steps, head_from}
use Rattle.stick.specs.Posts.{answered, fleet_bytes, roof_bytes, wide, edition_at, units_at, unit_bytes, unit_place, settings_place, connections_place, connected, roof_place, function_bytes, steps_place}
use Rattle.stick.proofs.StepLaws.{steps_only}
use Rattle.stick.proofs.WalkLaws.{whole, OnTheWay, way_starts, not_too_large}
use Rattle.stick.proofs.ReachLaws.{walk_reach}
use Rattle.stick.proofs.PlaceLaws.{from_field, closes_none}
use Rattle.stick.proofs.SaidLaws.{unknown, bytes_follow, One, one, Waited, waited}
use Rattle.stick.proofs.RoofLaws.{RoofThere}
use Rattle.stick.proofs.SiteProved.{current_at, known_at, fleet_has, long, fleet_field_lem, unit_fields, settings_field_lem, connection_field, roof_fields_is, many, function_field, end_is, roofs_there}
use Rattle.chunks.specs.Sizes.{head_most}
use Rattle.chunks.specs.Holds.{moved}
use Rattle.chunks.proofs.ReachChunks.{Went, there, passing, went_reach, went_append, went_take, reach_shift, far, far_gone, far_all}
use Rattle.chunks.proofs.HeadChunks.{head_end, head_from_field, Placed, fleet, units, settings, connections, inverters, warm, efficiency, volt_var, led, FieldTaken, accepted_field, placed_on, head_most_lem}

-- ---- no step is before the end of the head
no_reading : (tag : ℕ) → of_steps tag ≡ false → (is_reading tag ≡ false) × ((eqb tag 8 ≡ false) × (eqb tag 12 ≡ false))
no_reading tag = go (is_reading tag) (eqb tag 8) (eqb tag 12) (eqb tag 127)
  where
    go : (a b c d : Bool) → (a || b || c || d) ≡ false → (a ≡ false) × ((b ≡ false) × (c ≡ false))
    go true b c d e = absurd (passed_failed refl e)
    go false true c d e = absurd (passed_failed refl e)
    go false false true d e = absurd (passed_failed refl e)
    go false false false d e = (refl, (refl, refl))

pub steps_head : (file : List ℕ) (d : Due) (k at : ℕ) → steps_from file d at ≡ steps_from file d (head_from k file at)
unfolding head_from steps_from
steps_head file d zero at = refl
steps_head file d (suc k) at = go (leb (length file) at) refl (of_steps (tag_at file at)) refl (steps_head file d k (past file at))
  where
    go : (over : Bool) → leb (length file) at ≡ over → (o : Bool) → of_steps (tag_at file at) ≡ o → steps_from file d (past file at) ≡ steps_from file d (head_from k file (past file at))
        → steps_from file d at ≡ steps_from file d (cond over at (cond o at (head_from k file (past file at))))
    go true e o f more = refl
    go false e true f more = refl
    go false e false f more =
        let n = no_reading (tag_at file at) f in
        closes_none file (record { tagged = refl; followed = from_field file at (leb-false (length file) at e) }) d n.0 n.1.0 n.1.1 ∙ more

-- ---- the head of an accepted walk, field by field
module _ (file : List ℕ) where
  head_passes : (tag at next : ℕ) → of_steps tag ≡ false → at < length file → tag_at file at ≡ tag → past file at ≡ next → head_end file at ≡ head_end file next
  head_passes tag at next o l t p =
      head_from_field file at l ∙ ap (λ (b : Bool). cond b at (head_end file (past file at))) (ap of_steps t ∙ o) ∙ ap (head_end file) p

  roof_head : (at : ℕ) → RoofThere file at → head_end file at ≡ head_end file (at + roof_bytes)
  roof_head at t =
      let l = t.bytes in
      head_passes 6 at (at + 22) refl (omega arith) t.inverter_field_is.tagged t.first
      ∙ head_passes 7 (at + 22) (at + 154) refl (omega arith) t.warm_field.tagged t.second
      ∙ head_passes 7 (at + 154) (at + roof_bytes) refl (omega arith) t.efficiency_field.tagged t.third

module _ (file : List ℕ) (ok : (whole file).number ≡ 0) where
  pass : (tag : ℕ) (st : State) (at next : ℕ) → of_steps tag ≡ false → eqb st.stage 0 ≡ false → OnTheWay file st at → Waited file ok tag st at next → head_end file at ≡ head_end file next
  pass tag st at next o e w v = head_passes file tag at next o (bytes_follow file ok st at w e) v.passed.tagged v.behind

  module _ (edition count size : ℕ) (wide_is : wide edition ≡ size) where
    unit_waited : (left at next : ℕ) → at + size ≡ next → OnTheWay file (state_of at_units edition count left 0 unknown) at → Waited file ok 2 (state_of at_units edition count left 0 unknown) at next
    unfolding size_of
    unit_waited left at next e w =
        waited file ok 2 (state_of at_units edition count left 0 unknown) at next refl (units_alone edition count left 0 unknown (tag_at file at))
        (add_assoc at header (unit_size (state_of at_units edition count left 0 unknown)) ∙ ap (λ (n : ℕ). at + n) wide_is ∙ e) w

    units_heads : (m at next : ℕ) → at + size * suc m ≡ next → OnTheWay file (state_of at_units edition count (suc m) 0 unknown) at → head_end file at ≡ head_end file next
    unfolding state_after
    units_heads zero at next e w =
        let long : at + size ≡ next = ap (λ (n : ℕ). at + n) (sym (mul-one size)) ∙ e in
        pass 2 (state_of at_units edition count 1 0 unknown) at next refl refl w (unit_waited 1 at next long w)
    units_heads (suc m) at next e w =
        let st : State = state_of at_units edition count (suc (suc m)) 0 unknown in
        let u : Waited file ok 2 st at (at + size) = unit_waited (suc (suc m)) at (at + size) refl w in
        let less : suc (suc m) - 1 ≡ suc m = omega arith in
        let on : fewer st ≡ state_of at_units edition count (suc m) 0 unknown =
        sym (fewer_more st (omega arith)) ∙ ap (λ (n : ℕ). state_of at_units edition count n 0 unknown) less in
        let far : size * suc (suc m) ≡ size * suc m + size = mul-suc size (suc m) in
        pass 2 st at (at + size) refl refl w u
        ∙ units_heads m (at + size) next (omega arith) (subst (λ (s : State). OnTheWay file s (at + size)) on u.rest)

  all_heads : (n next : ℕ) → 1 ≤ n → unit_place file n ≡ next → OnTheWay file (state_of at_units (edition_at file) (units_at file) n 0 unknown) fleet_bytes → head_end file fleet_bytes ≡ head_end file next
  all_heads zero next h e w = absurd (omega arith)
  all_heads (suc m) next h e w = units_heads (edition_at file) (units_at file) (unit_bytes file) (long file ok) m fleet_bytes next e w

  fleet_head : head_end file 0 ≡ head_end file fleet_bytes
  unfolding size_of
  fleet_head =
      pass 1 start 0 fleet_bytes refl refl (way_starts file) (waited file ok 1 start 0 fleet_bytes refl (fleet_alone 0 0 0 0 unknown (tag_at file 0)) refl (way_starts file))

  units_head : head_end file fleet_bytes ≡ head_end file (settings_place file)
  unfolding units_at edition_at
  units_head = all_heads (units_at file) (settings_place file) (fleet_has file (fleet_field_lem file ok).fleet).some refl (fleet_field_lem file ok).rest

  settings_head : head_end file (settings_place file) ≡ head_end file (connections_place file)
  unfolding size_of
  settings_head =
      let e : settings_place file + 3 + 12 ≡ connections_place file = omega arith in
      let st : State = state_of at_settings (edition_at file) (units_at file) 0 0 unknown in
      let w : OnTheWay file st (settings_place file) = (unit_fields file ok).rest in
      pass 3 st (settings_place file) (connections_place file) refl refl w
      (waited file ok 3 st (settings_place file) (connections_place file) refl (settings_alone (edition_at file) (units_at file) 0 0 unknown (tag_at file (settings_place file))) e w)

  connections_head : head_end file (connections_place file) ≡ head_end file (roof_place file 0)
  unfolding connected
  connections_head = go (connected file) refl
    where
      place : ℕ
      place = connections_place file

      go : (b : Bool) → connected file ≡ b → head_end file place ≡ head_end file (roof_place file 0)
      go true e =
          let st : State = state_of at_connections (edition_at file) (units_at file) 64 0 (known_at file) in
          let below : place < length file = bytes_follow file ok st place (settings_field_lem file ok).rest refl in
          head_passes file 10 place (roof_place file 0) refl below (eqb-true (tag_at file place) 10 e) ((connection_field file ok).behind e)
      go false e = ap (head_end file) ((connection_field file ok).nothing e)

  roofs_heads : (i : ℕ) → i ≤ many file ok → head_end file (roof_place file 0) ≡ head_end file (roof_place file i)
  roofs_heads zero l = refl
  roofs_heads (suc i) l =
      let e : roof_place file i + roof_bytes ≡ roof_place file (suc i) = omega arith in
      roofs_heads i (omega arith) ∙ roof_head file (roof_place file i) (roofs_there file ok i (omega arith)) ∙ ap (head_end file) e

  -- over the function, if there is one
  function_passed : (left at : ℕ) → tag_at file at ≡ 11 → OnTheWay file (state_of at_inverters (edition_at file) (units_at file) left 0 (known_at file)) at → head_end file at ≡ head_end file (at + function_bytes)
  unfolding size_of state_after roof_after
  function_passed left at t w =
      let st : State = state_of at_inverters (edition_at file) (units_at file) left 0 (known_at file) in
      let v : Waited file ok 11 st at (at + 4) = waited file ok 11 st at (at + 4) refl (λ z. t) (omega arith) w in
      let known : Flags = flags (current_at file) true in
      let curving : State = state_of at_volt_var (edition_at file) (units_at file) left 0 known in
      pass 11 st at (at + 4) refl refl w v
      ∙ pass 7 curving (at + 4) (at + function_bytes) refl refl v.rest
      (waited file ok 7 curving (at + 4) (at + function_bytes) refl (volt_var_alone (edition_at file) (units_at file) left 0 known (tag_at file (at + 4))) (omega arith) v.rest)

  abbrev roofs_end : ℕ
  roofs_end = (roof_fields_is file ok).next

  abbrev function_there : Bool
  function_there = eqb (tag_at file roofs_end) 11

  abbrev function_end : ℕ
  function_end = roofs_end + cond function_there function_bytes 0

  function_head : head_end file roofs_end ≡ head_end file function_end
  function_head = go function_there refl
    where
      go : (b : Bool) → function_there ≡ b → head_end file roofs_end ≡ head_end file (roofs_end + cond b function_bytes 0)
      go true e = function_passed (roof_fields_is file ok).said.remaining roofs_end (eqb-true (tag_at file roofs_end) 11 e) (roof_fields_is file ok).said.rest
      go false e = let same : roofs_end ≡ roofs_end + 0 = omega arith in ap (head_end file) same

  -- at the first step
  abbrev waiting : State
  waiting = state_of at_steps (edition_at file) (units_at file) (roof_fields_is file ok).said.remaining 0 (flags (current_at file) function_there)

  first_step : One file ok waiting function_end
  first_step = one file ok waiting function_end (function_field file ok).rest refl

  stops_there : head_end file function_end ≡ function_end
  stops_there =
      head_from_field file function_end first_step.bytes
      ∙ ap (λ (b : Bool). cond b function_end (head_end file (past file function_end)))
      (steps_only (edition_at file) (units_at file) (roof_fields_is file ok).said.remaining 0 (flags (current_at file) function_there) (tag_at file function_end) first_step.allows)

  head_next : head_end file 0 ≡ function_end
  head_next =
      let e : roof_place file (many file ok) ≡ roofs_end = let i = (roof_fields_is file ok).is in omega arith in
      fleet_head ∙ units_head ∙ settings_head ∙ connections_head ∙ roofs_heads (many file ok) (omega arith) ∙ ap (head_end file) e ∙ function_head ∙ stops_there

  -- so the head ends where the first step stands, within the file
  pub head_place : head_from (length file) file 0 ≡ steps_place file
  head_place = head_next ∙ end_is file ok

  pub head_within : head_from (length file) file 0 < length file
  head_within = subst⁻¹ (λ (n : ℕ). n < length file) head_next first_step.bytes

-- ---- the state where the head ends: an inverter may stand there, after the connections or, by watts, without them; or the function has come
pub data Opening (st : State) : Type 0 where
  at_inverters_lem : st.stage ≡ at_inverters → Opening st
  at_connections_lem : st.stage ≡ at_connections → st.current ≡ false → Opening st
  at_led_lem : st.stage ≡ at_led → Opening st

module _ (st : State) (tag : ℕ) where
  at_stage : (n : ℕ) → st.stage ≡ n → allowed st tag ≡ true → allowed (state_of n st.edition st.units st.left st.steps (flags_of st)) tag ≡ true
  at_stage n e a = ap (λ (n : ℕ). allowed (state_of n st.edition st.units st.left st.steps (flags_of st)) tag) (sym e) ∙ a

  no_step_lem : (k : ℕ) → of_steps k ≡ false → tag ≡ k → of_steps tag ≡ true → Opening st
  no_step_lem k o e s = absurd (passed_failed s (ap of_steps e ∙ o))

  -- a field of a step stands first only there
  placed_stage : {i : ℕ} → Placed st i → allowed st tag ≡ true → of_steps tag ≡ true → Opening st
  placed_stage (fleet e z) a = no_step_lem 1 refl (fleet_alone st.edition st.units st.left st.steps (flags_of st) tag (at_stage at_fleet e a))
  placed_stage (units e few l h) a = no_step_lem 2 refl (units_alone st.edition st.units st.left st.steps (flags_of st) tag (at_stage at_units e a))
  placed_stage (settings e few h) a = no_step_lem 3 refl (settings_alone st.edition st.units st.left st.steps (flags_of st) tag (at_stage at_settings e a))
  placed_stage (connections e few h) a = go st.current refl
    where
      go : (c : Bool) → st.current ≡ c → of_steps tag ≡ true → Opening st
      go true c =
          no_step_lem 10 refl
          (connections_alone st.edition st.units st.left st.steps st.led tag
          (subst (λ (b : Bool). allowed (state_of at_connections st.edition st.units st.left st.steps (flags b st.led)) tag ≡ true) c (at_stage at_connections e a)))
      go false c = λ s. at_connections_lem e c
  placed_stage (inverters e h) a = λ s. at_inverters_lem e
  placed_stage (warm e h) a = no_step_lem 7 refl (warm_alone st.edition st.units st.left st.steps (flags_of st) tag (at_stage at_temperature e a))
  placed_stage (efficiency e h) a = no_step_lem 7 refl (efficiency_alone st.edition st.units st.left st.steps (flags_of st) tag (at_stage at_efficiency e a))
  placed_stage (volt_var e h) a = no_step_lem 7 refl (volt_var_alone st.edition st.units st.left st.steps (flags_of st) tag (at_stage at_volt_var e a))
  placed_stage (led e h) a = λ s. at_led_lem e

  -- no other field counts as a step
  pub steps_kept_lem : (file : List ℕ) (at : ℕ) → is_reading tag ≡ false → (state_after st tag file at).steps ≡ st.steps
  unfolding state_after roof_after
  steps_kept_lem file at r =
      by_test Kept (eqb tag 1) _ _ (λ t. refl)
      (λ t. by_test Kept (eqb tag 2) _ _ (λ t. by_test Kept (leb st.left 1) _ _ (λ t. refl) (λ t. refl))
      (λ t. by_test Kept (eqb tag 3) _ _ (λ t. refl)
      (λ t. by_test Kept (is_reading tag) _ _ (λ t. absurd (passed_failed t r))
      (λ t. by_test Kept (eqb tag 6) _ _ (λ t. refl)
      (λ t. by_test Kept (eqb tag 7) _ _ (λ t. refl)
      (λ t. by_test Kept (eqb tag 8) _ _ (λ t. refl)
      (λ t. by_test Kept (eqb tag 10) _ _ (λ t. refl)
      (λ t. by_test Kept (eqb tag 11) _ _ (λ t. refl)
      (λ t. by_test Kept (eqb tag 12) _ _ (λ t. refl) (λ t. refl))))))))))
    where
      Kept : State → Type 0
      Kept s = s.steps ≡ st.steps

pub head_from_least : (file : List ℕ) (k at : ℕ) → at ≤ head_from k file at
unfolding head_from
head_from_least file zero at = omega arith
head_from_least file (suc k) at = go (leb (length file) at) (of_steps (tag_at file at)) (head_from_least file k (past file at))
  where
    go : (over o : Bool) → past file at ≤ head_from k file (past file at) → at ≤ cond over at (cond o at (head_from k file (past file at)))
    go true o more = omega arith
    go false true more = omega arith
    go false false more = omega arith

pub record HeadWent (file : List ℕ) (st : State) (i : ℕ) : Type 0 where
  pub middle : State
  pub went : Went file middle (head_end file i) st i
  pub stage : Opening middle
  pub none : middle.steps ≡ 0

pub went_head : (file : List ℕ) {s : State} {j : ℕ} {st : State} {i : ℕ} → Went file s j st i → Placed st i → st.steps ≡ 0 → head_end file i < j → HeadWent file st i
went_head file {s} {j} {st} {i} (there e f) p z h = let l = head_from_least file (length file) i in absurd (omega arith)
went_head file {s} {j} {st} {i} (passing m l e f w more) p z h = go (of_steps (tag_at file i)) refl (went_head file more)
  where
    taken : FieldTaken file st m i
    taken = accepted_field file st m i (omega arith) f

    go : (b : Bool) → of_steps (tag_at file i) ≡ b → (Placed m (past file i) → m.steps ≡ 0 → head_end file (past file i) < j → HeadWent file m (past file i)) → HeadWent file st i
    go true o further =
        let here : head_end file i ≡ i = head_from_field file i l ∙ ap (λ (b : Bool). cond b i (head_end file (past file i))) o in
        record { middle = st; went = there refl (sym here); stage = placed_stage st (tag_at file i) p taken.allows o; none = z }
    go false o further =
        let on : head_end file i ≡ head_end file (past file i) = head_from_field file i l ∙ ap (λ (b : Bool). cond b i (head_end file (past file i))) o in
        let kept : m.steps ≡ 0 = ap (λ (s : State). s.steps) (sym taken.is) ∙ steps_kept_lem st (tag_at file i) file (i + header) (no_reading (tag_at file i) o).0 ∙ z in
        let r : HeadWent file m (past file i) = further (placed_on file st m i (omega arith) f o p) kept (subst (λ (n : ℕ). n < j) on h) in
        record {
          middle = r.middle;
          went = subst⁻¹ (λ (n : ℕ). Went file r.middle n st i) on (passing m l e f w r.went);
          stage = r.stage;
          none = r.none;
        }

-- ---- the end field of no steps
abbrev pub end_field : List ℕ
end_field = 0x7F ∷ 0x00 ∷ 0x04 ∷ 0x00 ∷ 0x00 ∷ 0x00 ∷ 0x00 ∷ []

end_reached : (st : State) → eqb st.stage 0 ≡ false → begins st ≡ true → st.steps ≡ 0 → reach_of 7 st end_field 0 ≡ reached 0 7 (gone_to st at_end st.left 0)
unfolding reach_of field_at head_of size_of kinds size_in be taken_by refused_by allowed stands_in value_of state_after roof_after
end_reached st e b n = simp (e, b, n)

-- it may stand where the head ends
going : {st : State} → Opening st → eqb st.stage 0 ≡ false
going (at_inverters_lem e) = ap (λ (n : ℕ). eqb n 0) e
going (at_connections_lem e c) = ap (λ (n : ℕ). eqb n 0) e
going (at_led_lem e) = ap (λ (n : ℕ). eqb n 0) e

beginning : (st : State) → Opening st → begins st ≡ true
beginning st = go
  where
    at : ℕ → Bool → Bool
    at stage current = begins (state_of stage st.edition st.units st.left st.steps (flags current st.led))

    go : Opening st → begins st ≡ true
    go (at_inverters_lem e) = ap (λ (n : ℕ). at n st.current) e
    go (at_connections_lem e c) = ap₂ at e c
    go (at_led_lem e) = ap (λ (n : ℕ). at n st.current) e

-- ---- bytes with whole fields up to where a step may stand first, and the end field of no steps behind them, are an accepted file
pub went_of_reach : (a : List ℕ) (m : State) → reach_of (length a) start a 0 ≡ reached 0 (length a) m → Went a m (length a) start 0
went_of_reach a m e = subst (λ (r : Reached). Went a r.state r.at start 0) e (far_gone a start 0 (omega arith)).went

module _ (a : List ℕ) (m : State) (w : Went a m (length a) start 0) (stage : Opening m) (none : m.steps ≡ 0) where
  abbrev ended : State
  ended = gone_to m at_end m.left 0

  closes : reach_of 7 m end_field 0 ≡ reached 0 7 ended
  closes = end_reached m (going stage) (beginning m stage) none

  pub closed_reached : reach_of (length (a ++ end_field)) start (a ++ end_field) 0 ≡ reached 0 (length a + 7) ended
  closed_reached =
      let total : length (a ++ end_field) ≡ length a + 7 = length-append a end_field in
      let place : length a ≡ length a + 0 = omega arith in
      went_reach (a ++ end_field) (went_append a end_field w) (length (a ++ end_field)) 7 (omega arith) (omega arith)
      ∙ ap (reach_of 7 m (a ++ end_field)) place
      ∙ reach_shift a end_field 7 m 0
      ∙ ap (moved (length a)) closes

  pub closed_walked : whole (a ++ end_field) ≡ answer 0 (length a + 7) 0
  unfolding ends
  closed_walked = walk_reach (a ++ end_field) (length (a ++ end_field)) start 0 ∙ ap answered closed_reached

  pub closed_accepted : length a ≤ 2097145 → Accepted (a ++ end_field)
  closed_accepted few =
      let total : length (a ++ end_field) ≡ length a + 7 = length-append a end_field in
      record {
        complete =
            ap (λ (x : Answer). x.number) (sym (not_too_large (a ++ end_field) (le-ltb 2097152 (length (a ++ end_field)) (omega arith))))
            ∙ ap (λ (x : Answer). x.number) closed_walked;
      }

-- ---- so is the head of a file whose walk is accepted
abbrev pub head_file : List ℕ → List ℕ
head_file file = take (head_from (length file) file 0) file ++ end_field

-- which is known as soon as the head's bytes are
pub head_file_is : (a b : List ℕ) → head_from (length (a ++ b)) (a ++ b) 0 ≡ length a → head_file (a ++ b) ≡ a ++ end_field
head_file_is a b e = ap (λ (n : ℕ). take n (a ++ b) ++ end_field) e ∙ ap (λ (l : List ℕ). l ++ end_field) (take-append_seam a b)

module _ (file : List ℕ) (ok : (whole file).number ≡ 0) where
  abbrev h : ℕ
  h = head_from (length file) file 0

  -- the fields go to the file's end
  reach_number : (reach_of (length file) start file 0).number ≡ 0
  reach_number = go (reach_of (length file) start file 0) (ap (λ (x : Answer). x.number) (sym (walk_reach file (length file) start 0)) ∙ ok)
    where
      go : (r : Reached) → (answered r).number ≡ 0 → r.number ≡ 0
      go r e = by_number_lem (eqb r.number 0) refl e
        where
          by_number_lem : (b : Bool) → eqb r.number 0 ≡ b → (cond b (ends r.state r.at) (answer r.number r.at r.state.steps)).number ≡ 0 → r.number ≡ 0
          by_number_lem true t e = eqb-true r.number 0 t
          by_number_lem false t e = e

  first : 0 ≤ length file
  first = omega arith

  to_end : (far file start 0 first).at ≡ length file
  to_end = far_all file start 0 first reach_number

  pub head_went : HeadWent file start 0
  head_went =
      let l = head_within file ok in
      let e = to_end in
      went_head file (far_gone file start 0 first).went (fleet refl refl) refl (omega arith)

  pub head_few : h ≤ head_most
  head_few = let l = head_within file ok in let e = to_end in head_most_lem file (omega arith)

  pub head_long : length (take h file) ≡ h
  head_long = let l = head_within file ok in length-take-le h file (omega arith)

  -- the head by itself
  pub head_alone : Went (take h file) head_went.middle (length (take h file)) start 0
  head_alone =
      let l = head_within file ok in
      subst⁻¹ (λ (n : ℕ). Went (take h file) head_went.middle n start 0) head_long (went_take file head_went.went (omega arith))

  pub head_ok : (whole (head_file file)).number ≡ 0
  head_ok = ap (λ (x : Answer). x.number) (closed_walked (take h file) head_went.middle head_alone head_went.stage head_went.none)

  pub head_accepted : Accepted (head_file file)
  head_accepted =
      let few = head_few in
      let long = head_long in
      closed_accepted (take h file) head_went.middle head_alone head_went.stage head_went.none (omega arith)

  -- no steps are before the head's end
  pub steps_behind_head : (d : Due) → steps_from file d 0 ≡ steps_from file d h
  steps_behind_head d = steps_head file d (length file) 0
