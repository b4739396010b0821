-- What does not look at fields of some tags goes past all parts of a stick that have only those: each part is fields one behind the other. Assumes nothing.
use mathlib.Core.Path.{◌≡◌, refl, ap, ◌∙◌}
use mathlib.Core.Bool.{Bool, true, ◌&&◌}
use mathlib.Core.List.{List, [], ◌∷◌, ◌++◌, append_assoc, append-nil}
use Prim.Native.Nat.{ℕ, ◌≤◌}
use lib.ListN.{length}
use Rattle.whole.proofs.OverLaws.{and_parts}
use Rattle.unit.specs.declared.Unit.{Unit}
use Rattle.curve.specs.Curve.{Point}
use Rattle.solar.specs.Roof.{Roof, roof_in}
use Rattle.lead.specs.Lead.{Function, Leading, unled, led}
use Rattle.site.specs.declared.Head.{Head}
use Rattle.site.specs.Ranges.{Guided}
use Rattle.layouts.specs.Written.{Connection, WeatherSaid, no_weather, weather, ReadingSaid, missing, powers, currents, StepSaid, Stick}
use Rattle.layouts.specs.Layout.{Number, u8, field, joined, fleet_field, unit_numbers, unit_field, settings_field, connection_numbers, connections_field, inverter_field, curve_field, roof_fields, function_fields, weather_field, voltage_field, reading_field, step_fields, end_field}
use Rattle.layouts.specs.Ranges.{Each, UnitFits, StepFits}
use Rattle.layouts.proofs.FitLaws.{roof_fits, function_fits, Laid, fleet_laid, unit_laid, settings_laid, connections_laid, inverter_laid, curve_laid, base_laid, weather_laid, voltage_laid, missing_laid, powers_laid, currents_laid, end_laid}
use Rattle.std.proofs.Common.{None, Option, Some}

-- ---- the parts of a stick that are laid behind its fleet, its units, its settings, its connections, its roofs and its function
abbrev pub behind_function : Stick → List ℕ
behind_function s = joined step_fields s.steps ++ end_field (length s.steps)

abbrev pub behind_roofs : Stick → List ℕ
behind_roofs s = function_fields s.leading ++ behind_function s

abbrev pub behind_connections : Stick → List ℕ
behind_connections s = joined roof_fields s.roofs ++ behind_roofs s

abbrev pub behind_settings : Stick → List ℕ
behind_settings s = connections_field s.connections ++ behind_connections s

abbrev pub behind_units : Stick → List ℕ
behind_units s = settings_field s.head ++ behind_settings s

abbrev pub behind_fleet : Stick → List ℕ
behind_fleet s = joined (unit_field s.head.edition) s.units ++ behind_units s

-- ---- the fields of a roof, of a function and of a step, and what follows them
flat : (a b c x : List ℕ) → (a ++ (b ++ c)) ++ x ≡ a ++ (b ++ (c ++ x))
flat a b c x = simp append_assoc

pub roof_flat : (r : Roof) (x : List ℕ) → roof_fields r ++ x ≡ inverter_field r.inverter ++ (curve_field r.warm ++ (curve_field r.efficiency ++ x))
unfolding roof_fields
roof_flat r x = flat (inverter_field r.inverter) (curve_field r.warm) (curve_field r.efficiency) x

pub function_flat : (f : Function) (x : List ℕ) → function_fields (led f) ++ x ≡ field 0x0B (u8 f.base ∷ []) ++ (curve_field f.curve ++ x)
unfolding function_fields
function_flat f x = append_assoc (field 0x0B (u8 f.base ∷ [])) (curve_field f.curve) x

pub step_flat : (s : StepSaid) (x : List ℕ) → step_fields s ++ x ≡ weather_field s.weather ++ (voltage_field s.voltage ++ (reading_field s.reading ++ x))
unfolding step_fields
step_flat s x = flat (weather_field s.weather) (voltage_field s.voltage) (reading_field s.reading) x

-- ---- v goes past some bytes, whatever follows
abbrev pub Passes : {B : Type 0} → (List ℕ → B) → List ℕ → Type 0
Passes v a = (b : List ℕ) → v (a ++ b) ≡ v b

-- past every field with a tag that is passed
abbrev pub PassesFields : {B : Type 0} → (List ℕ → B) → (ℕ → Bool) → Type 0
PassesFields v ok = (t : ℕ) (ns : List Number) → Laid t ns → ok t ≡ true → Passes v (field t ns)

-- the tags of the steps' fields are passed
abbrev pub passes_steps : (ℕ → Bool) → Bool
passes_steps ok = ok 0x08 && ok 0x0C && ok 0x04 && ok 0x05 && ok 0x09

module _ {B : Type 0} (v : List ℕ → B) where
  pass_joined : {A : Type 0} (P : A → Type 0) (f : A → List ℕ) → ((x : A) → P x → Passes v (f x)) → (l : List A) → Each P l → Passes v (joined f l)
  unfolding joined
  pass_joined P f h [] e = λ b. refl
  pass_joined P f h (x ∷ l) e = λ b. ap v (append_assoc (f x) (joined f l) b) ∙ h x e.0 (joined f l ++ b) ∙ pass_joined P f h l e.1 b

  -- all of the bytes
  pub pass_all : (a : List ℕ) → Passes v a → v a ≡ v []
  pass_all a p = rw append-nil at (p [])

module _ {B : Type 0} (v : List ℕ → B) (ok : ℕ → Bool) (by : PassesFields v ok) where
  pub pass_fleet : ok 0x01 ≡ true → (h : Head) (n : ℕ) → Passes v (fleet_field h n)
  unfolding fleet_field
  pass_fleet o h n = by 0x01 _ (fleet_laid h.edition n h.seconds) o

  pub pass_units : ok 0x02 ≡ true → (e : ℕ) (us : List Unit) → Each (UnitFits e) us → Passes v (joined (unit_field e) us)
  unfolding unit_field
  pass_units o e = pass_joined v (UnitFits e) (unit_field e) (λ u f. by 0x02 (unit_numbers e u) (unit_laid e u) o)

  pub pass_settings : ok 0x03 ≡ true → (h : Head) → Passes v (settings_field h)
  unfolding settings_field
  pass_settings o h = by 0x03 _ (settings_laid _ _ _ _ _) o

  pub pass_connections : ok 0x0A ≡ true → (cs : List Connection) → length cs ≤ 64 → Passes v (connections_field cs)
  unfolding connections_field
  pass_connections o [] h = λ b. refl
  pass_connections o (c ∷ cs) h = by 0x0A (connection_numbers (c ∷ cs)) (connections_laid (c ∷ cs) h) o

  pub pass_curve : ok 0x07 ≡ true → (ps : List Point) → length ps ≤ 16 → Passes v (curve_field ps)
  unfolding curve_field
  pass_curve o ps h = by 0x07 _ (curve_laid ps h) o

  pub pass_roofs : ok 0x06 ≡ true → ok 0x07 ≡ true → (rs : List Roof) → Each (λ (r : Roof). roof_in r ≡ true) rs → Passes v (joined roof_fields rs)
  unfolding inverter_field
  pass_roofs o p =
      pass_joined v (λ (r : Roof). roof_in r ≡ true) roof_fields
      (λ r i b.
      let f = roof_fits r i in
      ap v (roof_flat r b)
      ∙ by 0x06 _ (inverter_laid _ _ _ _ _ _ _) o (curve_field r.warm ++ (curve_field r.efficiency ++ b))
      ∙ pass_curve p r.warm f.warm.few (curve_field r.efficiency ++ b)
      ∙ pass_curve p r.efficiency f.efficiency.few b)

  pub pass_function : ok 0x0B ≡ true → ok 0x07 ≡ true → (l : Leading) → Guided l → Passes v (function_fields l)
  unfolding function_fields
  pass_function o p unled g = λ b. refl
  pass_function o p (led f) g =
      λ b. ap v (function_flat f b) ∙ by 0x0B _ (base_laid _) o (curve_field f.curve ++ b) ∙ pass_curve p f.curve (function_fits f g).curve.few b

  -- the fields of the steps, and the end
  pass_weather : ok 0x08 ≡ true → (w : WeatherSaid) → Passes v (weather_field w)
  unfolding weather_field
  pass_weather o no_weather = λ b. refl
  pass_weather o (weather i t) = by 0x08 _ (weather_laid i t) o

  pass_voltage : ok 0x0C ≡ true → (x : Option ℕ) → Passes v (voltage_field x)
  unfolding voltage_field
  pass_voltage o None = λ b. refl
  pass_voltage o (Some x) = by 0x0C _ (voltage_laid x) o

  pass_reading : ok 0x04 ≡ true → ok 0x05 ≡ true → ok 0x09 ≡ true → (r : ReadingSaid) → Passes v (reading_field r)
  unfolding reading_field
  pass_reading o₄ o₅ o₉ missing = by 0x05 [] missing_laid o₅
  pass_reading o₄ o₅ o₉ (powers a b c) = by 0x04 _ (powers_laid a b c) o₄
  pass_reading o₄ o₅ o₉ (currents a b c) = by 0x09 _ (currents_laid a b c) o₉

  pub pass_steps : passes_steps ok ≡ true → (current : Bool) (l : Leading) (ss : List StepSaid) → Each (StepFits current l) ss → Passes v (joined step_fields ss)
  pass_steps o current l =
      let nine = and_parts _ _ o in
      let five = and_parts _ _ nine.0 in
      let four = and_parts _ _ five.0 in
      let two = and_parts _ _ four.0 in
      pass_joined v (StepFits current l) step_fields
      (λ s f b.
      ap v (step_flat s b)
      ∙ pass_weather two.0 s.weather (voltage_field s.voltage ++ (reading_field s.reading ++ b))
      ∙ pass_voltage two.1 s.voltage (reading_field s.reading ++ b)
      ∙ pass_reading four.1 five.1 nine.1 s.reading b)

  pub pass_end : ok 0x7F ≡ true → (n : ℕ) → Passes v (end_field n)
  unfolding end_field
  pass_end o n = by 0x7F _ (end_laid n) o
