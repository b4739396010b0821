-- The fields of an accepted file before its steps, stage by stage: each part of what the file says, in its ranges, with its fields laid out and then the rest. Assumes nothing.
use mathlib.Core.Path.{◌≡◌, refl, sym, ap, ap₂, ◌∙◌, subst}
use mathlib.Core.Bool.{Bool, true, false, not, ◌&&◌}
use mathlib.Core.List.{List, [], ◌∷◌, ◌++◌, append_assoc}
use mathlib.Core.Logic.{◌⊎◌, inl, inr}
use Prim.Native.Nat.{ℕ, zero, suc, ◌-◌, ◌≤◌, ◌<◌, zero-le}
use native.Mathlib.Omega.{arith}
use lib.Dec.{leb, eqb}
use lib.ListN.{length, drop}
use borrow.Author.Tests.{eqb-true, eqb-false, leb-true}
use Rattle.whole.proofs.Choice.{passed_failed}
use Rattle.whole.proofs.OverLaws.{and_parts}
use Rattle.octets.specs.BigEndian.{be}
use Rattle.parts.specs.Header.{tag_at, past}
use Rattle.unit.specs.declared.Unit.{Unit}
use Rattle.unit.specs.Ranges.{unit_in}
use Rattle.rules.specs.Rules.{by_current}
use Rattle.rules.specs.Ranges.{settings_in}
use Rattle.curve.specs.Layout.{points_at, curve_in}
use Rattle.solar.specs.Roof.{Roof, inverter_in, roof_in, warm_bounds, efficiency_bounds}
use Rattle.lead.specs.Lead.{Leading, unled, led, volt_var_bounds, function_in}
use Rattle.site.specs.declared.Head.{Head}
use Rattle.site.specs.Ranges.{Guided}
use Rattle.fields.specs.declared.State.{State}
use Rattle.fields.specs.Fields.{at_units, at_settings, at_inverters, at_temperature, at_efficiency, at_connections, at_volt_var, kinds, size_in, size_of, stands_in, allowed, value_of, unit_at, settings_at, phase_at, inverter_at, connections_in, base_in, Flags, flags, state_of, roof_after, state_after}
use Rattle.fields.proofs.FieldLaws.{NoTag, by_tag, stands_nowhere, units_alone, settings_alone, warm_alone, efficiency_alone, volt_var_alone, connections_alone, fewer_more}
use Rattle.stick.specs.Site.{of_steps}
use Rattle.stick.proofs.SaidLaws.{accepted_test}
use Rattle.layouts.specs.Written.{Connection, no_weather}
use Rattle.layouts.specs.Layout.{u8, field, joined, unit_field, settings_field, connections_field, inverter_field, curve_field, roof_fields, function_fields}
use Rattle.layouts.specs.Ranges.{Each, UnitFits, Connected}
use Rattle.layouts.proofs.LieLaws.{unit_lies, settings_lie, connections_lie, inverter_lies, curve_lies, base_lies}
use Rattle.layouts.proofs.ReadLaws.{Reads, Field, field_first, lies_at, value_at}
use Rattle.layouts.proofs.ReadSteps.{opened, behind_function_lem, StepsRead, read_steps}
use Rattle.std.proofs.Common.{None}

-- a list before the others of a list
behind : (x xs rest : List ℕ) {b c : List ℕ} → b ≡ x ++ c → c ≡ xs ++ rest → b ≡ (x ++ xs) ++ rest
behind x xs rest e f = e ∙ ap (λ (t : List ℕ). x ++ t) f ∙ sym (append_assoc x xs rest)

-- ---- as many units as are waited for
module _ (e u : ℕ) where
  pub record UnitsRead (left : ℕ) (b : List ℕ) : Type 0 where
    pub units : List Unit
    pub count : length units ≡ left
    pub each : Each (UnitFits e) units
    pub rest : List ℕ
    pub laid : b ≡ joined (unit_field e) units ++ rest
    pub more : Reads (state_of at_settings e u 0 0 (flags false false)) rest

  abbrev awaiting : ℕ → State
  awaiting left = state_of at_units e u left 0 (flags false false)

  record UnitRead (left : ℕ) (b : List ℕ) : Type 0 where
    unit : Unit
    fits : UnitFits e unit
    laid : b ≡ unit_field e unit ++ drop (past b 0) b
    more : Reads (state_after (awaiting left) 2 b 3) (drop (past b 0) b)

  unit_read : (left : ℕ) {b : List ℕ} → Reads (awaiting left) b → UnitRead left b
  unfolding size_of kinds size_in value_of
  unit_read left {b} r =
      let f = field_first r refl in
      let tag : tag_at b 0 ≡ 2 = units_alone e u left 0 (flags false false) (tag_at b 0) f.first.allows in
      let one = unit_lies b e (lies_at f.first 2 tag) (accepted_test (unit_in (unit_at e b 3)) (value_at f.first 2 tag)) in
      record { unit = one.0; fits = one.1.0; laid = one.1.1.1; more = f.more 2 tag }

  pub read_units : (left : ℕ) {b : List ℕ} → Reads (awaiting (suc left)) b → UnitsRead (suc left) b
  unfolding state_after joined
  read_units zero {b} r =
      let one = unit_read 1 r in
      record {
        units = one.unit ∷ [];
        count = refl;
        each = (one.fits, zero-le);
        rest = drop (past b 0) b;
        laid = behind (unit_field e one.unit) [] (drop (past b 0) b) one.laid refl;
        more = one.more;
      }
  read_units (suc left) {b} r =
      let one = unit_read (suc (suc left)) r in
      let fewer : suc (suc left) - 1 ≡ suc left = omega arith in
      let next : state_after (awaiting (suc (suc left))) 2 b 3 ≡ awaiting (suc left) = sym (fewer_more (awaiting (suc (suc left))) (omega arith)) ∙ ap awaiting fewer in
      let some = read_units left (subst (λ (s : State). Reads s (drop (past b 0) b)) next one.more) in
      record {
        units = one.unit ∷ some.units;
        count = ap suc some.count;
        each = (one.fits, some.each);
        rest = some.rest;
        laid = behind (unit_field e one.unit) (joined (unit_field e) some.units) some.rest one.laid some.laid;
        more = some.more;
      }

  -- ---- the settings
  pub record SettingsRead (b : List ℕ) : Type 0 where
    pub inside : settings_in (settings_at b 3) ≡ true
    pub phase : phase_at b 3 ≤ 5
    pub laid : (h : Head) → h.settings ≡ settings_at b 3 → h.phase ≡ phase_at b 3 → b ≡ settings_field h ++ drop (past b 0) b
    pub more : Reads (state_of at_connections e u 64 0 (flags (by_current (settings_at b 3).mode) false)) (drop (past b 0) b)

  pub read_settings : {b : List ℕ} → Reads (state_of at_settings e u 0 0 (flags false false)) b → SettingsRead b
  unfolding size_of kinds size_in value_of state_after settings_at
  read_settings {b} r =
      let f = field_first r refl in
      let tag : tag_at b 0 ≡ 3 = settings_alone e u 0 0 (flags false false) (tag_at b 0) f.first.allows in
      let v = and_parts (settings_in (settings_at b 3)) (leb (phase_at b 3) 5) (accepted_test (settings_in (settings_at b 3) && leb (phase_at b 3) 5) (value_at f.first 3 tag)) in
      record { inside = v.0; phase = leb-true (phase_at b 3) 5 v.1; laid = settings_lie b (lies_at f.first 3 tag); more = f.more 3 tag }

-- ---- where an inverter, the function, a step or the end may come: behind the connections, or in their place
data Opening (stage tag : ℕ) : Type 0 where
  behind_connections_lem : stage ≡ at_inverters → Opening stage tag
  no_connections : stage ≡ at_connections → (tag ≡ 10 → ⊥) → Opening stage tag

-- a tag that no step has is then an inverter's, and one may still come, or the function's
abbrev Roofing : ℕ → ℕ → Type 0
Roofing left tag = ((tag ≡ 6) × (1 ≤ left)) ⊎ (tag ≡ 11)

no_other_tag : (st : State) (tag : ℕ) → NoTag tag → allowed st tag ≡ true → of_steps tag ≡ false → ⊥
no_other_tag st tag n a o = go (eqb tag 127) refl
  where
    go : (b : Bool) → eqb tag 127 ≡ b → ⊥
    go true e = passed_failed (ap of_steps (eqb-true tag 127 e)) o
    go false e = passed_failed a (sym (stands_nowhere st tag n (eqb-false tag 127 e)))

module _ (edition count left steps : ℕ) (said : Flags) (tag : ℕ) where
  at_inverters_lem : allowed (state_of at_inverters edition count left steps said) tag ≡ true → of_steps tag ≡ false → Roofing left tag
  unfolding allowed kinds stands_in
  at_inverters_lem =
      by_tag (λ (t : ℕ). allowed (state_of at_inverters edition count left steps said) t ≡ true → of_steps t ≡ false → Roofing left t) tag
      (λ a o. absurd (passed_failed a refl)) (λ a o. absurd (passed_failed a refl)) (λ a o. absurd (passed_failed a refl))
      (λ a o. absurd (passed_failed refl o)) (λ a o. absurd (passed_failed refl o))
      (λ a o. inl (refl, leb-true 1 left a))
      (λ a o. absurd (passed_failed a refl)) (λ a o. absurd (passed_failed refl o)) (λ a o. absurd (passed_failed refl o)) (λ a o. absurd (passed_failed a refl))
      (λ a o. inr refl) (λ a o. absurd (passed_failed refl o))
      (λ n a o. absurd (no_other_tag (state_of at_inverters edition count left steps said) tag n a o))

  at_connections_lem : allowed (state_of at_connections edition count left steps said) tag ≡ true → of_steps tag ≡ false → (tag ≡ 10 → ⊥) → Roofing left tag
  unfolding allowed kinds stands_in
  at_connections_lem =
      by_tag (λ (t : ℕ). allowed (state_of at_connections edition count left steps said) t ≡ true → of_steps t ≡ false → (t ≡ 10 → ⊥) → Roofing left t) tag
      (λ a o n. absurd (passed_failed a refl)) (λ a o n. absurd (passed_failed a refl)) (λ a o n. absurd (passed_failed a refl))
      (λ a o n. absurd (passed_failed refl o)) (λ a o n. absurd (passed_failed refl o))
      (λ a o n. inl (refl, leb-true 1 left (and_parts (not said.current) (leb 1 left) a).1))
      (λ a o n. absurd (passed_failed a refl)) (λ a o n. absurd (passed_failed refl o)) (λ a o n. absurd (passed_failed refl o)) (λ a o n. absurd (n refl))
      (λ a o n. inr refl) (λ a o n. absurd (passed_failed refl o))
      (λ n a o m. absurd (no_other_tag (state_of at_connections edition count left steps said) tag n a o))

  opening_tag : (stage : ℕ) → Opening stage tag → allowed (state_of stage edition count left steps said) tag ≡ true → of_steps tag ≡ false → Roofing left tag
  opening_tag stage (behind_connections_lem e) a o = at_inverters_lem (subst (λ (n : ℕ). allowed (state_of n edition count left steps said) tag ≡ true) e a) o
  opening_tag stage (no_connections e n) a o = at_connections_lem (subst (λ (n : ℕ). allowed (state_of n edition count left steps said) tag ≡ true) e a) o n

opening_goes : (stage tag : ℕ) → Opening stage tag → eqb stage 0 ≡ false
opening_goes stage tag (behind_connections_lem e) = ap (λ (n : ℕ). eqb n 0) e
opening_goes stage tag (no_connections e n) = ap (λ (n : ℕ). eqb n 0) e

module _ (c : Bool) where
  -- ---- the function, or none, and the steps
  pub record FunctionRead (b : List ℕ) : Type 0 where
    pub leading : Leading
    pub guided : Guided leading
    pub rest : List ℕ
    pub laid : b ≡ function_fields leading ++ rest
    pub after : StepsRead c leading 0 no_weather None rest

  -- ---- the roofs, and what follows them
  pub record RoofsRead (left : ℕ) (b : List ℕ) : Type 0 where
    pub roofs : List Roof
    pub few : length roofs ≤ left
    pub each : Each (λ (r : Roof). roof_in r ≡ true) roofs
    pub rest : List ℕ
    pub laid : b ≡ joined roof_fields roofs ++ rest
    pub after : FunctionRead rest

  no_roofs : (left : ℕ) {b : List ℕ} → FunctionRead b → RoofsRead left b
  unfolding joined
  no_roofs left {b} f = record { roofs = []; few = zero-le; each = zero-le; rest = b; laid = refl; after = f }

  module _ (e u stage left : ℕ) {b : List ℕ} (way : Opening stage (tag_at b 0)) (r : Reads (state_of stage e u left 0 (flags c false)) b) where
    abbrev head : Field (state_of stage e u left 0 (flags c false)) b
    head = field_first r (opening_goes stage (tag_at b 0) way)

    -- no function
    unguided : of_steps (tag_at b 0) ≡ true → FunctionRead b
    unfolding function_fields
    unguided o = record {
      leading = unled;
      guided = zero-le;
      rest = b;
      laid = refl;
      after = read_steps c unled r no_weather None (record { current = refl; led = refl; few = zero-le; weather = zero-le; voltage = zero-le; waits = opened o refl refl });
    }

    -- a function and its curve
    guided : tag_at b 0 ≡ 11 → FunctionRead b
    unfolding function_fields function_in size_of kinds size_in value_of state_after roof_after
    guided eleven =
        let b₁ = drop (past b 0) b in
        let b₂ = drop (past b₁ 0) b₁ in
        let base = accepted_test (base_in (be 1 b 3)) (value_at head.first 11 eleven) in
        let s : State = state_of at_volt_var e u left 0 (flags c true) in
        let f : Field s b₁ = field_first (head.more 11 eleven) refl in
        let tag : tag_at b₁ 0 ≡ 7 = volt_var_alone e u left 0 (flags c true) (tag_at b₁ 0) f.first.allows in
        let curve = curve_lies b₁ volt_var_bounds (lies_at f.first 7 tag) (accepted_test (curve_in volt_var_bounds b₁ 3) (value_at f.first 7 tag)) in
        record {
          leading = led (record { base = be 1 b 3; curve = points_at b₁ 3 });
          guided = ap₂ ◌&&◌ base curve.0;
          rest = b₂;
          laid = behind (field 0x0B (u8 (be 1 b 3) ∷ [])) (curve_field (points_at b₁ 3)) b₂ (base_lies b (lies_at head.first 11 eleven)) curve.1;
          after =
              read_steps c (led (record { base = be 1 b 3; curve = points_at b₁ 3 })) (f.more 7 tag) no_weather None
              (record { current = refl; led = refl; few = zero-le; weather = zero-le; voltage = zero-le; waits = behind_function_lem refl refl refl });
        }

    -- by its tag, with what an inverter leads to
    roofs_by_lem : (tag_at b 0 ≡ 6 → 1 ≤ left → RoofsRead left b) → RoofsRead left b
    roofs_by_lem more = go (of_steps (tag_at b 0)) refl
      where
        other : Roofing left (tag_at b 0) → RoofsRead left b
        other (inl six) = more six.0 six.1
        other (inr eleven) = no_roofs left (guided eleven)

        go : (t : Bool) → of_steps (tag_at b 0) ≡ t → RoofsRead left b
        go true o = no_roofs left (unguided o)
        go false o = other (opening_tag e u left 0 (flags c false) (tag_at b 0) stage way head.first.allows o)

    -- an inverter and its two curves
    record RoofRead : Type 0 where
      roof : Roof
      inside : roof_in roof ≡ true
      rest : List ℕ
      laid : b ≡ roof_fields roof ++ rest
      more : Reads (state_of at_inverters e u (left - 1) 0 (flags c false)) rest

    roof_read : tag_at b 0 ≡ 6 → RoofRead
    unfolding roof_fields roof_in size_of kinds size_in value_of state_after roof_after
    roof_read six =
        let b₁ = drop (past b 0) b in
        let b₂ = drop (past b₁ 0) b₁ in
        let b₃ = drop (past b₂ 0) b₂ in
        let inverter = accepted_test (inverter_in (inverter_at b 3)) (value_at head.first 6 six) in
        let s : State = state_of at_temperature e u (left - 1) 0 (flags c false) in
        let f : Field s b₁ = field_first (head.more 6 six) refl in
        let tag : tag_at b₁ 0 ≡ 7 = warm_alone e u (left - 1) 0 (flags c false) (tag_at b₁ 0) f.first.allows in
        let warm = curve_lies b₁ warm_bounds (lies_at f.first 7 tag) (accepted_test (curve_in warm_bounds b₁ 3) (value_at f.first 7 tag)) in
        let t : State = state_of at_efficiency e u (left - 1) 0 (flags c false) in
        let g : Field t b₂ = field_first (f.more 7 tag) refl in
        let tag₂ : tag_at b₂ 0 ≡ 7 = efficiency_alone e u (left - 1) 0 (flags c false) (tag_at b₂ 0) g.first.allows in
        let efficiency = curve_lies b₂ efficiency_bounds (lies_at g.first 7 tag₂) (accepted_test (curve_in efficiency_bounds b₂ 3) (value_at g.first 7 tag₂)) in
        record {
          roof = record { inverter = inverter_at b 3; warm = points_at b₁ 3; efficiency = points_at b₂ 3 };
          inside = ap₂ ◌&&◌ (ap₂ ◌&&◌ inverter warm.0) efficiency.0;
          rest = b₃;
          laid =
              behind (inverter_field (inverter_at b 3)) (curve_field (points_at b₁ 3) ++ curve_field (points_at b₂ 3)) b₃ (inverter_lies b (lies_at head.first 6 six))
              (behind (curve_field (points_at b₁ 3)) (curve_field (points_at b₂ 3)) b₃ warm.1 efficiency.1);
          more = g.more 7 tag₂;
        }

  read_roofs : (left e u stage : ℕ) {b : List ℕ} → Opening stage (tag_at b 0) → Reads (state_of stage e u left 0 (flags c false)) b → RoofsRead left b
  unfolding joined
  read_roofs zero e u stage {b} way r = roofs_by_lem e u stage zero way r (λ six some. absurd (omega arith))
  read_roofs (suc left) e u stage {b} way r = roofs_by_lem e u stage (suc left) way r (λ six some.
      let one = roof_read e u stage (suc left) way r six in
      let fewer : suc left - 1 ≡ left = omega arith in
      let others = read_roofs left e u at_inverters (behind_connections_lem refl) (subst (λ (n : ℕ). Reads (state_of at_inverters e u n 0 (flags c false)) one.rest) fewer one.more) in
      let few = others.few in
      record {
        roofs = one.roof ∷ others.roofs;
        few = omega arith;
        each = (one.inside, others.each);
        rest = others.rest;
        laid = behind (roof_fields one.roof) (joined roof_fields others.roofs) others.rest one.laid others.laid;
        after = others.after;
      })

  -- ---- the connections, by current always, by watts or none; and what follows them
  pub record ConnectionsRead (u : ℕ) (b : List ℕ) : Type 0 where
    pub connections : List Connection
    pub connected : Connected c u connections
    pub rest : List ℕ
    pub laid : b ≡ connections_field connections ++ rest
    pub after : RoofsRead 64 rest

-- by current nothing else may stand
by_watts_lem : (c : Bool) (e u tag : ℕ) → allowed (state_of at_connections e u 64 0 (flags c false)) tag ≡ true → (tag ≡ 10 → ⊥) → c ≡ false
by_watts_lem true e u tag a n = absurd (n (connections_alone e u 64 0 false tag a))
by_watts_lem false e u tag a n = refl

pub read_connections : (c : Bool) (e u : ℕ) → 0 < u → {b : List ℕ} → Reads (state_of at_connections e u 64 0 (flags c false)) b → ConnectionsRead c u b
unfolding connections_field size_of kinds size_in value_of state_after roof_after
read_connections c e u some {b} r = go (eqb (tag_at b 0) 10) refl
  where
    f : Field (state_of at_connections e u 64 0 (flags c false)) b
    f = field_first r refl

    go : (t : Bool) → eqb (tag_at b 0) 10 ≡ t → ConnectionsRead c u b
    go true t =
        let ten = eqb-true (tag_at b 0) 10 t in
        let all = connections_lie b u some (lies_at f.first 10 ten) (accepted_test (connections_in u b 3) (value_at f.first 10 ten)) in
        record {
          connections = all.0;
          connected = inr (all.1.0, all.1.1.0);
          rest = drop (past b 0) b;
          laid = all.1.1.1;
          after = read_roofs c 64 e u at_inverters (behind_connections_lem refl) (f.more 10 ten);
        }
    go false t =
        let other = eqb-false (tag_at b 0) 10 t in
        record {
          connections = [];
          connected = inl (refl, by_watts_lem c e u (tag_at b 0) f.first.allows other);
          rest = b;
          laid = refl;
          after = read_roofs c 64 e u at_connections (no_connections refl other) r;
        }
