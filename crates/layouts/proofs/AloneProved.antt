-- Two sticks that fit and are laid out alike are one: field by field they say one thing, and where one has a field that need not stand the other has it too,
-- since what else could stand there has another tag. Assumes nothing.
use mathlib.Core.Path.{◌≡◌, refl, sym, ap, subst, ◌∙◌}
use mathlib.Core.Bool.{Bool, true}
use mathlib.Core.List.{List, [], ◌∷◌, ◌++◌, append_assoc, append-nil, append_cancel_left}
use mathlib.Core.Logic.{inl, inr}
use Prim.Native.Nat.{ℕ, ◌<◌, zero-le}
use native.Mathlib.Omega.{arith}
use lib.Dec.{lit<}
use lib.ListN.{length}
use Rattle.parts.specs.Header.{tag_at}
use Rattle.unit.specs.declared.Unit.{Unit}
use Rattle.rules.specs.Rules.{by_current}
use Rattle.solar.specs.declared.Inverter.{Inverter}
use Rattle.solar.specs.Roof.{Roof, roof_in}
use Rattle.lead.specs.Lead.{Function, Leading, unled, led}
use Rattle.site.specs.Ranges.{Guided}
use Rattle.layouts.specs.Written.{Connection, WeatherSaid, no_weather, weather, ReadingSaid, missing, powers, currents, StepSaid, Stick}
use Rattle.layouts.specs.Layout.{u8, u16, u32, u64, i32, field, joined, fleet_field, unit_field, connection_numbers, connections_field, inverter_field, curve_field, roof_fields, function_fields, weather_field, voltage_field, reading_field, step_fields, end_field, laid_out}
use Rattle.layouts.specs.Ranges.{Each, UnitFits, Connected, WeatherFits, VoltageFits, ReadingFits, StepFits, Fits}
use Rattle.layouts.proofs.NumberLaws.{field_tag}
use Rattle.layouts.proofs.SayLaws.{ConnectionsFit}
use Rattle.layouts.proofs.FitLaws.{FleetFits, fleet_fits, roof_fits, function_fits, voltage_fits}
use Rattle.layouts.proofs.PassLaws.{behind_function, behind_roofs, behind_connections, behind_settings, behind_units, behind_fleet, roof_flat, function_flat, step_flat}
use Rattle.layouts.proofs.StripLaws.{order, rank, field_rank, fleet_strip, unit_strip, settings_strip, curve_strip, inverter_strip, voltage_strip, base_strip, weather_strip, phases_strip, connections_strip}
use Rattle.std.proofs.Common.{None, Option, Some}

-- ---- units, of which both have as many
units_strip : (e : ℕ) (us vs : List Unit) → Each (UnitFits e) us → Each (UnitFits e) vs → length us ≡ length vs → (x y : List ℕ)
    → joined (unit_field e) us ++ x ≡ joined (unit_field e) vs ++ y → (us ≡ vs) × (x ≡ y)
unfolding joined
units_strip e [] [] f g n x y p = (refl, p)
units_strip e [] (v ∷ vs) f g n x y p = absurd (omega arith)
units_strip e (u ∷ us) [] f g n x y p = absurd (omega arith)
units_strip e (u ∷ us) (v ∷ vs) f g n x y p =
    let one = unit_strip (joined (unit_field e) us ++ x) (joined (unit_field e) vs ++ y) e u v f.0 g.0 (simp append_assoc at p) in
    let more = units_strip e us vs f.1 g.1 (omega arith) x y one.1 in
    (λ i. one.0 i ∷ more.0 i, more.1)

-- ---- connections, or none
connections_rank : (c : Connection) (cs : List Connection) (x : List ℕ) → rank (connections_field (c ∷ cs) ++ x) ≡ 0
unfolding connections_field order
connections_rank c cs x = field_rank 0x0A (connection_numbers (c ∷ cs)) x (lit< tt)

connected_in : (current : Bool) (n : ℕ) (cs : List Connection) → Connected current n cs → ConnectionsFit cs
connected_in current n cs (inl none) = subst ConnectionsFit (sym none.0) zero-le
connected_in current n cs (inr some) = some.1

connected_count : (current : Bool) (n : ℕ) (c : Connection) (cs : List Connection) → Connected current n (c ∷ cs) → length (c ∷ cs) ≡ n
connected_count current n c cs (inl none) = absurd (omega (arith, ap length none.0))
connected_count current n c cs (inr some) = some.0

all_connections_strip : (a b : Bool) (n : ℕ) (cs ds : List Connection) → Connected a n cs → Connected b n ds → (x y : List ℕ) → 0 < rank x → 0 < rank y
    → connections_field cs ++ x ≡ connections_field ds ++ y → (cs ≡ ds) × (x ≡ y)
unfolding connections_field
all_connections_strip a b n [] [] f g x y hx hy e = (refl, e)
all_connections_strip a b n [] (d ∷ ds) f g x y hx hy e = absurd (omega (arith, ap rank e, connections_rank d ds y))
all_connections_strip a b n (c ∷ cs) [] f g x y hx hy e = absurd (omega (arith, ap rank e, connections_rank c cs x))
all_connections_strip a b n (c ∷ cs) (d ∷ ds) f g x y hx hy e =
    connections_strip x y c cs d ds (connected_count a n c cs f ∙ sym (connected_count b n d ds g)) (connected_in a n (c ∷ cs) f) (connected_in b n (d ∷ ds) g) e

-- ---- roofs
inverter_rank : (v : Inverter) (x : List ℕ) → rank (inverter_field v ++ x) ≡ 1
unfolding inverter_field order
inverter_rank v x =
    field_rank 0x06 (u32 v.array ∷ u32 v.kva ∷ u16 v.cut_in ∷ u16 v.cut_out ∷ u16 v.limit ∷ i32 v.var_request ∷ u8 v.priority ∷ []) x (lit< tt)

roof_rank : (r : Roof) (x : List ℕ) → rank (roof_fields r ++ x) ≡ 1
roof_rank r x = ap rank (roof_flat r x) ∙ inverter_rank r.inverter (curve_field r.warm ++ (curve_field r.efficiency ++ x))

roof_strip : (x y : List ℕ) (r q : Roof) → roof_in r ≡ true → roof_in q ≡ true → roof_fields r ++ x ≡ roof_fields q ++ y → (r ≡ q) × (x ≡ y)
roof_strip x y r q f g e =
    let a = roof_fits r f in
    let b = roof_fits q g in
    let one = inverter_strip (curve_field r.warm ++ (curve_field r.efficiency ++ x)) (curve_field q.warm ++ (curve_field q.efficiency ++ y)) r.inverter q.inverter
    a.inverter b.inverter (sym (roof_flat r x) ∙ e ∙ roof_flat q y) in
    let two = curve_strip (curve_field r.efficiency ++ x) (curve_field q.efficiency ++ y) r.warm q.warm a.warm b.warm one.1 in
    let three = curve_strip x y r.efficiency q.efficiency a.efficiency b.efficiency two.1 in
    (λ i. record { inverter = one.0 i; warm = two.0 i; efficiency = three.0 i }, three.1)

roofs_strip : (rs qs : List Roof) → Each (λ (r : Roof). roof_in r ≡ true) rs → Each (λ (r : Roof). roof_in r ≡ true) qs → (x y : List ℕ) → 1 < rank x → 1 < rank y
    → joined roof_fields rs ++ x ≡ joined roof_fields qs ++ y → (rs ≡ qs) × (x ≡ y)
unfolding joined
roofs_strip [] [] f g x y hx hy e = (refl, e)
roofs_strip [] (q ∷ qs) f g x y hx hy e = absurd (omega (arith, ap rank e ∙ ap rank (append_assoc (roof_fields q) (joined roof_fields qs) y) ∙ roof_rank q (joined roof_fields qs ++ y)))
roofs_strip (r ∷ rs) [] f g x y hx hy e = absurd (omega (arith, ap rank (sym e) ∙ ap rank (append_assoc (roof_fields r) (joined roof_fields rs) x) ∙ roof_rank r (joined roof_fields rs ++ x)))
roofs_strip (r ∷ rs) (q ∷ qs) f g x y hx hy e =
    let one = roof_strip (joined roof_fields rs ++ x) (joined roof_fields qs ++ y) r q f.0 g.0 (simp append_assoc at e) in
    let more = roofs_strip rs qs f.1 g.1 x y hx hy one.1 in
    (λ i. one.0 i ∷ more.0 i, more.1)

-- ---- the function, or none
function_rank : (f : Function) (x : List ℕ) → rank (function_fields (led f) ++ x) ≡ 2
unfolding order
function_rank f x = ap rank (function_flat f x) ∙ field_rank 0x0B (u8 f.base ∷ []) (curve_field f.curve ++ x) (lit< tt)

function_strip : (l m : Leading) → Guided l → Guided m → (x y : List ℕ) → 2 < rank x → 2 < rank y
    → function_fields l ++ x ≡ function_fields m ++ y → (l ≡ m) × (x ≡ y)
unfolding function_fields
function_strip unled unled f g x y hx hy e = (refl, e)
function_strip unled (led k) f g x y hx hy e = absurd (omega (arith, ap rank e ∙ function_rank k y))
function_strip (led h) unled f g x y hx hy e = absurd (omega (arith, ap rank (sym e) ∙ function_rank h x))
function_strip (led h) (led k) f g x y hx hy e =
    let a = function_fits h f in
    let b = function_fits k g in
    let one = base_strip (curve_field h.curve ++ x) (curve_field k.curve ++ y) h.base k.base a.base b.base (sym (function_flat h x) ∙ e ∙ function_flat k y) in
    let two = curve_strip x y h.curve k.curve a.curve b.curve one.1 in
    (λ i. led (record { base = one.0 i; curve = two.0 i }), two.1)

-- ---- a step: its weather or none, its voltage or none, its reading
reading_rank : (r : ReadingSaid) (x : List ℕ) → rank (reading_field r ++ x) ≡ 5
unfolding reading_field order
reading_rank missing x = field_rank 0x05 [] x (lit< tt)
reading_rank (powers a b c) x = field_rank 0x04 (u64 a ∷ u64 b ∷ u64 c ∷ []) x (lit< tt)
reading_rank (currents a b c) x = field_rank 0x09 (u64 a ∷ u64 b ∷ u64 c ∷ []) x (lit< tt)

said_rank : (n : ℕ) (x : List ℕ) → rank (voltage_field (Some n) ++ x) ≡ 4
unfolding voltage_field order
said_rank n x = field_rank 0x0C (u16 n ∷ []) x (lit< tt)

sky_rank : (a b : ℕ) (x : List ℕ) → rank (weather_field (weather a b) ++ x) ≡ 3
unfolding weather_field order
sky_rank a b x = field_rank 0x08 (u64 a ∷ u64 b ∷ []) x (lit< tt)

voltage_rank : (v : Option ℕ) (x : List ℕ) → rank x ≡ 5 → (3 < rank (voltage_field v ++ x)) × (rank (voltage_field v ++ x) < 6)
unfolding voltage_field
voltage_rank None x h = (omega arith, omega arith)
voltage_rank (Some n) x h = (omega (arith, said_rank n x), omega (arith, said_rank n x))

weather_rank : (w : WeatherSaid) (x : List ℕ) → (3 < rank x) × (rank x < 6) → (2 < rank (weather_field w ++ x)) × (rank (weather_field w ++ x) < 6)
unfolding weather_field
weather_rank no_weather x h = (omega arith, omega arith)
weather_rank (weather a b) x h = (omega (arith, sky_rank a b x), omega (arith, sky_rank a b x))

some_weather_strip : (v w : WeatherSaid) → WeatherFits v → WeatherFits w → (x y : List ℕ) → 3 < rank x → 3 < rank y
    → weather_field v ++ x ≡ weather_field w ++ y → (v ≡ w) × (x ≡ y)
unfolding weather_field
some_weather_strip no_weather no_weather f g x y hx hy e = (refl, e)
some_weather_strip no_weather (weather a b) f g x y hx hy e = absurd (omega (arith, ap rank e, sky_rank a b y))
some_weather_strip (weather a b) no_weather f g x y hx hy e = absurd (omega (arith, ap rank e, sky_rank a b x))
some_weather_strip (weather a b) (weather c d) f g x y hx hy e =
    let s = weather_strip x y a b c d f.0.0 f.0.1 g.0.0 g.0.1 e in
    (λ i. weather (s.0 i) (s.1 i), s.2)

some_voltage_strip : (k l : Leading) (v w : Option ℕ) → VoltageFits k v → VoltageFits l w → (x y : List ℕ) → 4 < rank x → 4 < rank y
    → voltage_field v ++ x ≡ voltage_field w ++ y → (v ≡ w) × (x ≡ y)
unfolding voltage_field
some_voltage_strip k l None None f g x y hx hy e = (refl, e)
some_voltage_strip k l None (Some n) f g x y hx hy e = absurd (omega (arith, ap rank e, said_rank n y))
some_voltage_strip k l (Some n) None f g x y hx hy e = absurd (omega (arith, ap rank e, said_rank n x))
some_voltage_strip k l (Some n) (Some m) f g x y hx hy e =
    let s = voltage_strip x y n m (voltage_fits k n f) (voltage_fits l m g) e in
    (λ i. Some (s.0 i), s.1)

abbrev reading_tag : ReadingSaid → ℕ
reading_tag missing = 5
reading_tag (powers a b c) = 4
reading_tag (currents a b c) = 9

reading_tag_lem : (r : ReadingSaid) (x : List ℕ) → tag_at (reading_field r ++ x) 0 ≡ reading_tag r
unfolding reading_field
reading_tag_lem missing x = field_tag 0x05 [] x (lit< tt)
reading_tag_lem (powers a b c) x = field_tag 0x04 (u64 a ∷ u64 b ∷ u64 c ∷ []) x (lit< tt)
reading_tag_lem (currents a b c) x = field_tag 0x09 (u64 a ∷ u64 b ∷ u64 c ∷ []) x (lit< tt)

readings_strip : (k l : Bool) (r q : ReadingSaid) → ReadingFits k r → ReadingFits l q → (x y : List ℕ)
    → reading_field r ++ x ≡ reading_field q ++ y → reading_tag r ≡ reading_tag q → (r ≡ q) × (x ≡ y)
unfolding reading_field
readings_strip k l missing missing f g x y e t = (refl, append_cancel_left (field 0x05 []) x y e)
readings_strip k l (powers a b c) (powers n m o) f g x y e t =
    let s = phases_strip x y 0x04 a b c n m o f.0 g.0 e in (λ i. powers (s.0 i) (s.1 i) (s.2 i), s.3)
readings_strip k l (currents a b c) (currents n m o) f g x y e t =
    let s = phases_strip x y 0x09 a b c n m o f.0 g.0 e in (λ i. currents (s.0 i) (s.1 i) (s.2 i), s.3)
readings_strip k l missing (powers n m o) f g x y e t = absurd (omega arith)
readings_strip k l missing (currents n m o) f g x y e t = absurd (omega arith)
readings_strip k l (powers a b c) missing f g x y e t = absurd (omega arith)
readings_strip k l (powers a b c) (currents n m o) f g x y e t = absurd (omega arith)
readings_strip k l (currents a b c) missing f g x y e t = absurd (omega arith)
readings_strip k l (currents a b c) (powers n m o) f g x y e t = absurd (omega arith)

reading_strip : (k l : Bool) (r q : ReadingSaid) → ReadingFits k r → ReadingFits l q → (x y : List ℕ)
    → reading_field r ++ x ≡ reading_field q ++ y → (r ≡ q) × (x ≡ y)
reading_strip k l r q f g x y e = readings_strip k l r q f g x y e (sym (reading_tag_lem r x) ∙ ap (λ (F : List ℕ). tag_at F 0) e ∙ reading_tag_lem q y)

unclouded_rank : (s : StepSaid) (x : List ℕ) → let b = voltage_field s.voltage ++ (reading_field s.reading ++ x) in (3 < rank b) × (rank b < 6)
unclouded_rank s x = voltage_rank s.voltage (reading_field s.reading ++ x) (reading_rank s.reading x)

step_rank : (s : StepSaid) (x : List ℕ) → (2 < rank (step_fields s ++ x)) × (rank (step_fields s ++ x) < 6)
step_rank s x =
    subst (λ (b : List ℕ). (2 < rank b) × (rank b < 6)) (sym (step_flat s x))
    (weather_rank s.weather (voltage_field s.voltage ++ (reading_field s.reading ++ x)) (unclouded_rank s x))

step_strip : (a b : Bool) (k l : Leading) (s t : StepSaid) → StepFits a k s → StepFits b l t → (x y : List ℕ)
    → step_fields s ++ x ≡ step_fields t ++ y → (s ≡ t) × (x ≡ y)
step_strip a b k l s t f g x y e =
    let s-reading = reading_field s.reading ++ x in
    let t-reading = reading_field t.reading ++ y in
    let sr : rank s-reading ≡ 5 = reading_rank s.reading x in
    let tr : rank t-reading ≡ 5 = reading_rank t.reading y in
    let one = some_weather_strip s.weather t.weather f.weather g.weather (voltage_field s.voltage ++ s-reading) (voltage_field t.voltage ++ t-reading)
    (unclouded_rank s x).0 (unclouded_rank t y).0 (sym (step_flat s x) ∙ e ∙ step_flat t y) in
    let two = some_voltage_strip k l s.voltage t.voltage f.voltage g.voltage s-reading t-reading (omega arith) (omega arith) one.1 in
    let three = reading_strip a b s.reading t.reading f.reading g.reading x y two.1 in
    (λ i. record { weather = one.0 i; voltage = two.0 i; reading = three.0 i }, three.1)

-- ---- the steps and the end
end_rank : (n : ℕ) → rank (end_field n) ≡ 6
unfolding end_field order
end_rank n = ap rank (sym (append-nil (field 0x7F (u32 n ∷ [])))) ∙ field_rank 0x7F (u32 n ∷ []) [] (lit< tt)

steps_rank : (ss : List StepSaid) (n : ℕ) → 2 < rank (joined step_fields ss ++ end_field n)
unfolding joined
steps_rank [] n = let r : rank (end_field n) ≡ 6 = end_rank n in omega arith
steps_rank (s ∷ ss) n = rw append_assoc (step_rank s (joined step_fields ss ++ end_field n)).0

steps_strip : (a b : Bool) (k l : Leading) (ss ts : List StepSaid) → Each (StepFits a k) ss → Each (StepFits b l) ts → (n m : ℕ)
    → joined step_fields ss ++ end_field n ≡ joined step_fields ts ++ end_field m → ss ≡ ts
unfolding joined
steps_strip a b k l [] [] f g n m e = refl
steps_strip a b k l [] (t ∷ ts) f g n m e =
    let r : rank (end_field n) ≡ 6 = end_rank n in
    absurd (omega (arith, ap rank e ∙ ap rank (append_assoc (step_fields t) (joined step_fields ts) (end_field m)), (step_rank t (joined step_fields ts ++ end_field m)).1))
steps_strip a b k l (s ∷ ss) [] f g n m e =
    let r : rank (end_field m) ≡ 6 = end_rank m in
    absurd (omega (arith, ap rank (sym e) ∙ ap rank (append_assoc (step_fields s) (joined step_fields ss) (end_field n)), (step_rank s (joined step_fields ss ++ end_field n)).1))
steps_strip a b k l (s ∷ ss) (t ∷ ts) f g n m e =
    let one = step_strip a b k l s t f.0 g.0 (joined step_fields ss ++ end_field n) (joined step_fields ts ++ end_field m) (simp append_assoc at e) in
    let more = steps_strip a b k l ss ts f.1 g.1 n m one.1 in
    λ i. one.0 i ∷ more i

-- ---- what stands behind the connections, and behind the roofs
function_behind : (l : Leading) (x : List ℕ) → 2 < rank x → 1 < rank (function_fields l ++ x)
unfolding function_fields
function_behind unled x h = omega arith
function_behind (led f) x h = let r : rank (function_fields (led f) ++ x) ≡ 2 = function_rank f x in omega arith

roofs_behind : (rs : List Roof) (x : List ℕ) → 1 < rank x → 0 < rank (joined roof_fields rs ++ x)
unfolding joined
roofs_behind [] x h = omega arith
roofs_behind (r ∷ rs) x h = rw append_assoc (let q : rank (roof_fields r ++ (joined roof_fields rs ++ x)) ≡ 1 = roof_rank r (joined roof_fields rs ++ x) in omega arith)

-- ---- the whole
module _ (s : Stick) where
  laid_is : laid_out s ≡ fleet_field s.head (length s.units) ++ behind_fleet s
  unfolding laid_out
  laid_is = refl

  roofs_rank : 1 < rank (behind_roofs s)
  roofs_rank = function_behind s.leading (behind_function s) (steps_rank s.steps (length s.steps))

  connections_behind : 0 < rank (behind_connections s)
  connections_behind = roofs_behind s.roofs (behind_roofs s) roofs_rank

  numbered : Fits s → FleetFits s.head (length s.units)
  numbered f = fleet_fits s.head (length s.units) f.edition f.count f.seconds

pub alone : (s t : Stick) → Fits s → Fits t → laid_out t ≡ laid_out s → t ≡ s
alone s t fs ft e =
    let fleet = fleet_strip (behind_fleet t) (behind_fleet s) t.head s.head (length t.units) (length s.units)
    (numbered t ft) (numbered s fs) (sym (laid_is t) ∙ e ∙ laid_is s) in
    let edition : t.head.edition ≡ s.head.edition = fleet.0 in
    let units = units_strip s.head.edition t.units s.units (subst (λ (k : ℕ). Each (UnitFits k) t.units) edition ft.units) fs.units fleet.1
    (behind_units t) (behind_units s) (subst (λ (k : ℕ). joined (unit_field k) t.units ++ behind_units t ≡ behind_fleet s) edition fleet.3) in
    let settings = settings_strip (behind_settings t) (behind_settings s) t.head s.head
    ft.settings ft.phase fs.settings fs.phase units.1 in
    let connections = all_connections_strip (by_current t.head.settings.mode) (by_current s.head.settings.mode) (length s.units) t.connections s.connections
    (subst (λ (k : ℕ). Connected (by_current t.head.settings.mode) k t.connections) fleet.1 ft.connections) fs.connections
    (behind_connections t) (behind_connections s) (connections_behind t) (connections_behind s) settings.2 in
    let roofs = roofs_strip t.roofs s.roofs ft.roofs_in fs.roofs_in (behind_roofs t) (behind_roofs s) (roofs_rank t) (roofs_rank s) connections.1 in
    let leading = function_strip t.leading s.leading ft.leading fs.leading
    (behind_function t) (behind_function s)
    (steps_rank t.steps (length t.steps)) (steps_rank s.steps (length s.steps)) roofs.1 in
    let steps = steps_strip (by_current t.head.settings.mode) (by_current s.head.settings.mode) t.leading s.leading t.steps s.steps
    ft.steps_in fs.steps_in (length t.steps) (length s.steps) leading.1 in
    λ i. record {
      head = record { edition = fleet.0 i; seconds = fleet.2 i; settings = settings.0 i; phase = settings.1 i };
      units = units.0 i;
      connections = connections.0 i;
      roofs = roofs.0 i;
      leading = leading.0 i;
      steps = steps i;
    }
