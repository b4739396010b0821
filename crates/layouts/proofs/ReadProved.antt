-- Every accepted file is a stick that fits, laid out: its fields are walked one by one, and each is laid out from what is read there. Assumes nothing.
use mathlib.Core.Path.{◌≡◌, refl, sym, ap, ◌∙◌, subst, subst⁻¹}
use mathlib.Core.Bool.{true, false, ◌&&◌}
use mathlib.Core.List.{List, ◌++◌}
use Prim.Native.Nat.{ℕ, suc, ◌+◌, ◌-◌, ◌≤◌, ◌<◌}
use native.Mathlib.Omega.{arith}
use lib.ListN.{length, get_or, drop}
use Rattle.whole.specs.Interval.{between}
use Rattle.whole.proofs.OverLaws.{and_parts}
use Rattle.octets.specs.BigEndian.{be}
use Rattle.parts.specs.Header.{tag_at, past}
use Rattle.unit.specs.Ranges.{edition_in, seconds_in}
use Rattle.rules.specs.Rules.{by_current}
use Rattle.site.specs.declared.Head.{Head}
use Rattle.fields.specs.Fields.{at_units, kinds, size_in, size_of, value_of, fleet_in, settings_at, phase_at, flags, state_of, state_after}
use Rattle.fields.proofs.FieldLaws.{fleet_alone}
use Rattle.stick.specs.Check.{start}
use Rattle.stick.specs.Check.{Accepted}
use Rattle.stick.proofs.SaidLaws.{accepted_test}
use Rattle.chunks.proofs.ReachChunks.{fleet_counts}
use Rattle.layouts.specs.Written.{Stick}
use Rattle.layouts.specs.Layout.{joined, fleet_field, unit_field, settings_field, connections_field, roof_fields, function_fields, weather_field, voltage_field, step_fields, end_field, laid_out}
use Rattle.layouts.specs.Ranges.{Connected}
use Rattle.layouts.specs.Holds.{ReadLaw, ReadTheorem}
use Rattle.layouts.proofs.LieLaws.{fleet_lies}
use Rattle.layouts.proofs.ReadLaws.{Reads, Field, field_first, lies_at, value_at, accepted_reads}
use Rattle.layouts.proofs.ReadHead.{UnitsRead, read_units, SettingsRead, read_settings, ConnectionsRead, read_connections}

module _ (file : List ℕ) where
  -- ---- the fleet field, and the units behind it
  record FleetRead : Type 0 where
    edition : edition_in (be 1 file 3) ≡ true
    count : between 1 64 (be 1 file 4) ≡ true
    seconds : seconds_in (be 4 file 5) ≡ true
    some : 0 < be 1 file 4
    laid : (h : Head) → h.edition ≡ be 1 file 3 → h.seconds ≡ be 4 file 5 → file ≡ fleet_field h (be 1 file 4) ++ drop (past file 0) file
    after : UnitsRead (be 1 file 3) (be 1 file 4) (be 1 file 4) (drop (past file 0) file)

  fleet_read : Reads start file → FleetRead
  unfolding size_of kinds size_in value_of state_after fleet_in
  fleet_read r =
      let f : Field start file = field_first r refl in
      let tag : tag_at file 0 ≡ 1 = fleet_alone 0 0 0 0 (flags false false) (tag_at file 0) f.first.allows in
      let e = be 1 file 3 in
      let u = be 1 file 4 in
      let b = drop (past file 0) file in
      let ok : fleet_in file 3 ≡ true = accepted_test (fleet_in file 3) (value_at f.first 1 tag) in
      let both = and_parts (edition_in e && between 1 64 u) (seconds_in (be 4 file 5)) ok in
      let first = and_parts (edition_in e) (between 1 64 u) both.0 in
      let some : 1 ≤ u = (fleet_counts file 3 ok).0 in
      let is : u ≡ suc (u - 1) = omega arith in
      record {
        edition = first.0;
        count = first.1;
        seconds = both.1;
        some = some;
        laid = fleet_lies file (lies_at f.first 1 tag);
        after =
            subst⁻¹ (λ (n : ℕ). UnitsRead e u n b) is
            (read_units e u (u - 1) (subst (λ (n : ℕ). Reads (state_of at_units e u n 0 (flags false false)) b) is (f.more 1 tag)));
      }

  -- ---- and all that follows
  whole : length file ≤ 2097152 → FleetRead → ReadLaw file
  unfolding laid_out joined weather_field voltage_field
  whole short fleet =
      let e = be 1 file 3 in
      let u = be 1 file 4 in
      let units = fleet.after in
      let settings : SettingsRead e u units.rest = read_settings e u units.more in
      let b = units.rest in
      let c = by_current (settings_at b 3).mode in
      let connections : ConnectionsRead c u (drop (past b 0) b) = read_connections c e u fleet.some settings.more in
      let roofs = connections.after in
      let function = roofs.after in
      let steps = function.after in
      let head : Head = record { edition = e; seconds = be 4 file 5; settings = settings_at b 3; phase = phase_at b 3 } in
      let stick : Stick = record {
        head = head;
        units = units.units;
        connections = connections.connections;
        roofs = roofs.roofs;
        leading = function.leading;
        steps = steps.steps;
      } in
      let none : 0 + length steps.steps ≡ length steps.steps = omega arith in
      let last : function.rest ≡ joined step_fields steps.steps ++ end_field (length steps.steps) =
      steps.laid ∙ ap (λ (n : ℕ). joined step_fields steps.steps ++ end_field n) none in
      let laid : file ≡ laid_out stick =
      fleet.laid head refl refl
      ∙ ap (λ (n : ℕ). fleet_field head n ++ drop (past file 0) file) (sym units.count)
      ∙ ap (λ (t : List ℕ). fleet_field head (length units.units) ++ t)
      (units.laid ∙ ap (λ (t : List ℕ). joined (unit_field e) units.units ++ t)
      (settings.laid head refl refl ∙ ap (λ (t : List ℕ). settings_field head ++ t)
      (connections.laid ∙ ap (λ (t : List ℕ). connections_field connections.connections ++ t)
      (roofs.laid ∙ ap (λ (t : List ℕ). joined roof_fields roofs.roofs ++ t)
      (function.laid ∙ ap (λ (t : List ℕ). function_fields function.leading ++ t) last))))) in
      let few = steps.few in
      record {
        stick = stick;
        fits = record {
          edition = fleet.edition;
          count = ap (between 1 64) units.count ∙ fleet.count;
          seconds = fleet.seconds;
          units = units.each;
          settings = settings.inside;
          phase = settings.phase;
          connections = subst⁻¹ (λ (n : ℕ). Connected c n connections.connections) units.count connections.connected;
          roofs = roofs.few;
          roofs_in = roofs.each;
          leading = function.guided;
          steps = omega arith;
          steps_in = steps.each;
          size = subst (λ (t : List ℕ). length t ≤ 2097152) laid short;
        };
        laid = sym laid;
      }

pub read_law : ReadTheorem
read_law file bytes ok = let r = accepted_reads file bytes ok in whole file r.0 (fleet_read file r.1)
