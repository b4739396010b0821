-- What a field says, read where it is laid, are the values that were laid: each fits the bytes of its number, so it is read back where it stands. Assumes nothing.
use mathlib.Core.Path.{◌≡◌, refl, sym, ap, ap₂, ◌∙◌}
use mathlib.Core.Bool.{Bool, true, false, cond, ◌&&◌, ◌||◌}
use mathlib.Core.List.{List, [], ◌∷◌, ◌++◌}
use Prim.Native.Nat.{ℕ, zero, suc, ◌+◌, ◌-◌, ◌*◌, ◌≤◌, ◌<◌, ◌^◌, zero-le}
use native.Mathlib.Nat.{add-zero, lt_of_le_of_lt, le_step, lt-suc_self, not-suc-le-zero, le_of_suc-le-suc}
use native.Mathlib.Omega.{arith}
use lib.Dec.{leb, eqb, lit<}
use lib.IntN.{ℤ, nat_abs}
use lib.ListN.{length, get_or}
use mir.Syntax.{w32}
use mir.Val.{SFits, to_z, of_z}
use mir.ValLaws.{of_z_fits, to_z-of_z}
use borrow.Author.Tests.{leb-true, eqb-true, eq-eqb}
use Rattle.whole.specs.Interval.{between}
use Rattle.whole.specs.Over.{all_of}
use Rattle.whole.proofs.OverLaws.{and_parts}
use Rattle.whole.proofs.SignLaws.{size_fits}
use Rattle.octets.specs.BigEndian.{be}
use Rattle.unit.specs.declared.Unit.{Unit}
use Rattle.unit.specs.Ranges.{own_limits, direct_in, grid_in, in_edition, connection_in}
use Rattle.unit.proofs.RangeLaws.{Bounds, bounds}
use Rattle.rules.specs.declared.Settings.{Settings}
use Rattle.rules.specs.Ranges.{settings_in}
use Rattle.curve.specs.Curve.{Point, point}
use Rattle.curve.specs.Layout.{count_at, x_at, y_at, points_from, points_at, rest_in}
use Rattle.solar.specs.declared.Inverter.{Inverter}
use Rattle.solar.specs.Roof.{inverter_in}
use Rattle.site.specs.declared.Head.{Head}
use Rattle.fields.specs.Fields.{unit_at, settings_at, phase_at, phases_at, inverter_at, weather_at, phases_in, volts_in}
use Rattle.layouts.specs.Written.{Connection}
use Rattle.layouts.specs.Layout.{Number, u8, u16, u32, u64, i32, size, field, fleet_field, limits_of, unit_numbers, unit_field, settings_field, connection_numbers, connections_field, inverter_field, point_numbers, zeros, curve_field, end_field}
use Rattle.layouts.specs.Ranges.{Each, UnitFits, Bits, phases_of, sky_bits}
use Rattle.layouts.proofs.NumberLaws.{Small, Stand, size_append, stand_front, stand_behind, small_append, value_stands}

-- ---- bounds
pub within : (low high x : ℕ) → between low high x ≡ true → (low ≤ x) × (x ≤ high)
within low high x e = let p = and_parts (leb low x) (leb x high) e in (leb-true low x p.0, leb-true x high p.1)

-- a signed number of at most 10^8 fits, and so do its bits
pub signed_fits : {z : ℤ} → nat_abs z ≤ 100000000 → SFits w32 z
signed_fits {z} h = size_fits w32 z (lt_of_le_of_lt h (lit< tt))

bits_fit : {z : ℤ} → SFits w32 z → of_z w32 z < 256 ^ 4
bits_fit {z} f = (of_z_fits w32 z f).fits

-- read back
signed_back : {n : ℕ} {z : ℤ} → SFits w32 z → n ≡ of_z w32 z → to_z w32 n ≡ z
signed_back {n} {z} f e = ap (to_z w32) e ∙ to_z-of_z w32 z f

record SettingsBounds (s : Settings) : Type 0 where
  mode : s.mode ≤ 5
  target : SFits w32 s.target
  band : s.band ≤ 200000000
  factor : s.factor ≤ 1000

settings_bounds : (s : Settings) → settings_in s ≡ true → SettingsBounds s
unfolding settings_in
settings_bounds s e =
    let factor = and_parts _ _ e in
    let band = and_parts _ _ factor.0 in
    let target = and_parts _ _ band.0 in
    record {
      mode = (within 1 5 s.mode target.0).1;
      target = signed_fits (leb-true _ _ target.1);
      band = leb-true _ _ band.1;
      factor = (within 1 1000 s.factor factor.1).1;
    }

record InverterBounds (v : Inverter) : Type 0 where
  array : v.array ≤ 100000000
  kva : v.kva ≤ 100000000
  opens : v.cut_in ≤ 10000
  shuts : v.cut_out ≤ v.cut_in
  limit : v.limit ≤ 10000
  vars : SFits w32 v.var_request
  priority : v.priority ≤ 1

inverter_bounds : (v : Inverter) → inverter_in v ≡ true → InverterBounds v
unfolding inverter_in
inverter_bounds v e =
    let priority = and_parts _ _ e in
    let vars = and_parts _ _ priority.0 in
    let limit = and_parts _ _ vars.0 in
    let shuts = and_parts _ _ limit.0 in
    let opens = and_parts _ _ shuts.0 in
    let kva = and_parts _ _ opens.0 in
    record {
      array = (within 1 100000000 v.array kva.0).1;
      kva = (within 1 100000000 v.kva kva.1).1;
      opens = leb-true _ _ opens.1;
      shuts = leb-true _ _ shuts.1;
      limit = leb-true _ _ limit.1;
      vars = signed_fits (leb-true _ _ vars.1);
      priority = leb-true _ _ priority.1;
    }

-- ---- a unit's limits, which it has or not
abbrev pub limits : Bool → ℕ → ℕ → List Number
limits own a b = cond own (u32 a ∷ u32 b ∷ []) []

limits_size : (own : Bool) (a b : ℕ) → 49 + size (limits own a b) ≡ cond own 57 49
unfolding size
limits_size true a b = refl
limits_size false a b = refl

pub unit_size_lem : (e : ℕ) (u : Unit) → size (unit_numbers e u) ≡ cond (own_limits e) 57 49
unfolding size
unit_size_lem e u = omega (arith, limits_size (own_limits e) u.provide u.absorb)

limits_small : (own : Bool) (kva a b : ℕ) → kva ≤ 100000000 → cond own a kva ≤ kva → cond own b kva ≤ kva → Small (limits own a b)
limits_small true kva a b h ha hb = (omega arith, (omega arith, zero-le))
limits_small false kva a b h ha hb = zero-le

module _ (F : List ℕ) (at : ℕ) where
  limits_say : (own : Bool) (a b : ℕ) {k l : ℕ} → k ≡ l → Stand (cond own (u32 a ∷ u32 b ∷ []) []) F at
      → (cond own (be 4 F at) k ≡ cond own a l) × (cond own (be 4 F (at + 4)) k ≡ cond own b l)
  limits_say true a b e s = (s.0, s.1.0)
  limits_say false a b e s = (e, e)

-- ---- connections
abbrev pub ConnectionsFit : List Connection → Type 0
ConnectionsFit cs = Each (λ (c : Connection). connection_in c.phases c.volts ≡ true) cs

pub connections_size_lem : (cs : List Connection) → size (connection_numbers cs) ≡ 3 * length cs
unfolding size
connections_size_lem [] = refl
connections_size_lem (c ∷ cs) = omega (arith, connections_size_lem cs)

connection_small : (c : Connection) → connection_in c.phases c.volts ≡ true → (c.phases < 256) × (c.volts < 65536)
unfolding connection_in
connection_small c e =
    let p = and_parts (eqb c.phases 1 || eqb c.phases 3) (between 1 40000 c.volts) e in
    let volts : c.volts ≤ 40000 = (within 1 40000 c.volts p.1).1 in
    (few (eqb c.phases 1) refl p.0, omega arith)
  where
    few : (t : Bool) → eqb c.phases 1 ≡ t → (t || eqb c.phases 3) ≡ true → c.phases < 256
    few true one h = let q = eqb-true c.phases 1 one in omega arith
    few false one h = let q = eqb-true c.phases 3 h in omega arith

pub connections_small : (cs : List Connection) → ConnectionsFit cs → Small (connection_numbers cs)
connections_small [] h = zero-le
connections_small (c ∷ cs) h = let one = connection_small c h.0 in (one.0, (one.1, connections_small cs h.1))

connections_stand : (cs : List Connection) (F : List ℕ) (at : ℕ) → Stand (connection_numbers cs) F at
    → (i : ℕ) → i < length cs → let d = get_or cs i (record { phases = 0; volts = 0 }) in
    (be 1 F (at + 3 * i) ≡ d.phases) × (be 2 F (at + 3 * i + 1) ≡ d.volts)
connections_stand [] F at s i l = absurd (not-suc-le-zero l)
connections_stand (c ∷ cs) F at s zero l = rw (add-zero at) (s.0, s.1.0)
connections_stand (c ∷ cs) F at s (suc i) l =
    let e : at + 3 * suc i ≡ at + 1 + 2 + 3 * i = omega arith in
    rw e (connections_stand cs F (at + 1 + 2) s.1.1 i (le_of_suc-le-suc l))

-- ---- a curve: points, and the zeros behind them
abbrev pub PointsFit : List Point → Type 0
PointsFit ps = Each (λ (p : Point). SFits w32 p.x × SFits w32 p.y) ps

points_small : (ps : List Point) → PointsFit ps → Small (point_numbers ps)
points_small [] h = zero-le
points_small (p ∷ ps) h = (bits_fit h.0.0, (bits_fit h.0.1, points_small ps h.1))

pub points_size : (ps : List Point) → size (point_numbers ps) ≡ 8 * length ps
unfolding size
points_size [] = refl
points_size (p ∷ ps) = omega (arith, points_size ps)

zeros_size : (n : ℕ) → size (zeros n) ≡ 8 * n
unfolding size
zeros_size zero = refl
zeros_size (suc n) = omega (arith, zeros_size n)

pub curve_size : (ps : List Point) → length ps ≤ 16 → size (u8 (length ps) ∷ (point_numbers ps ++ zeros (16 - length ps))) ≡ 129
unfolding size
curve_size ps h = omega (arith, size_append (point_numbers ps) (zeros (16 - length ps)), points_size ps, zeros_size (16 - length ps))

zeros_small : (n : ℕ) → Small (zeros n)
zeros_small zero = zero-le
zeros_small (suc n) = (lit< tt, zeros_small n)

points_stand : (ps : List Point) → PointsFit ps → (F : List ℕ) (place i at : ℕ) → at ≡ place + 1 + 8 * i → Stand (point_numbers ps) F at
    → points_from (length ps) i F place ≡ ps
unfolding points_from x_at y_at
points_stand [] h F place i at e s = refl
points_stand (p ∷ ps) h F place i at e s =
    let f : at + 4 ≡ place + 5 + 8 * i = omega arith in
    let x = signed_back h.0.0 (ap (be 4 F) (sym e) ∙ s.0) in
    let y = signed_back h.0.1 (ap (be 4 F) (sym f) ∙ s.1.0) in
    let more = points_stand ps h.1 F place (suc i) (at + 4 + 4) (omega arith) s.1.1 in
    λ k. point (x k) (y k) ∷ more k

zeros_stand : (n : ℕ) (F : List ℕ) (at : ℕ) → Stand (zeros n) F at → (i : ℕ) → i < n → be 8 F (at + 8 * i) ≡ 0
zeros_stand zero F at s i l = absurd (not-suc-le-zero l)
zeros_stand (suc n) F at s zero l = rw (add-zero at) s.0
zeros_stand (suc n) F at s (suc i) l =
    let e : at + 8 * suc i ≡ at + 8 + 8 * i = omega arith in
    rw e (zeros_stand n F (at + 8) s.1 i (le_of_suc-le-suc l))

pub all_true : (n : ℕ) (ok : ℕ → Bool) → ((i : ℕ) → i < n → ok i ≡ true) → all_of n ok ≡ true
unfolding all_of
all_true zero ok h = refl
all_true (suc n) ok h = ap₂ ◌&&◌ (all_true n ok (λ i l. h i (le_step l))) (h n (lt-suc_self n))

-- ---- each kind of field
module _ (rest : List ℕ) where
  pub fleet_says : (h : Head) (n : ℕ) → h.edition < 256 → n < 256 → h.seconds < 2 ^ 32
      → (be 1 (fleet_field h n ++ rest) 3 ≡ h.edition) × ((be 1 (fleet_field h n ++ rest) 4 ≡ n) × (be 4 (fleet_field h n ++ rest) 5 ≡ h.seconds))
  unfolding fleet_field
  fleet_says h n he hn hs =
      let s = value_stands 0x01 (u8 h.edition ∷ u8 n ∷ u32 h.seconds ∷ []) rest (he, (hn, (hs, zero-le))) in
      (s.0, (s.1.0, s.1.1.0))

  pub unit_says : (e : ℕ) (u : Unit) → UnitFits e u → unit_at e (unit_field e u ++ rest) 3 ≡ in_edition e u
  unfolding unit_field unit_at in_edition
  unit_says e u f =
      let b : Bounds (in_edition e u) 1 = bounds {u = in_edition e u} {seconds = 1} (record { unit = f.inside; seconds_in_is = refl }) in
      let fits : SFits w32 u.var_request = signed_fits b.vars_most in
      let own = limits_small (own_limits e) u.kva u.provide u.absorb b.kva_most b.provide_most b.absorb_most in
      let last : Small (u16 u.weight ∷ u16 u.inverter ∷ u16 u.charge ∷ u16 u.discharge ∷ u8 u.priority ∷ limits_of e u) = (omega arith, (omega arith, (omega arith, (omega arith, (omega arith, own))))) in
      let small : Small (unit_numbers e u) = (omega arith, (omega arith, (omega arith, (omega arith, (omega arith, (omega arith, (bits_fit fits, last))))))) in
      let s = value_stands 0x02 (unit_numbers e u) rest small in
      let kva = s.1.1.1.1.0 in
      let loss = s.1.1.1.1.1.0 in
      let vars = signed_back fits s.1.1.1.1.1.1.0 in
      let more = s.1.1.1.1.1.1.1 in
      let limits = limits_say (unit_field e u ++ rest) 52 (own_limits e) u.provide u.absorb kva more.1.1.1.1.1 in
      let link = sym f.link in
      λ i. record {
        rated = s.0 i;
        reserve = s.1.0 i;
        stored = s.1.1.0 i;
        rating = s.1.1.1.0 i;
        kva = kva i;
        dc_loss = direct_in e (loss i);
        var_request = vars i;
        weight = more.0 i;
        inverter = more.1.0 i;
        charge = more.1.1.0 i;
        discharge = more.1.1.1.0 i;
        priority = more.1.1.1.1.0 i;
        provide = limits.0 i;
        absorb = limits.1 i;
        grid_loss = grid_in e (loss i);
        link = link i;
      }

  pub settings_say : (h : Head) → settings_in h.settings ≡ true → h.phase ≤ 5
      → (settings_at (settings_field h ++ rest) 3 ≡ h.settings) × (phase_at (settings_field h ++ rest) 3 ≡ h.phase)
  unfolding settings_field settings_at
  settings_say h e p =
      let b : SettingsBounds h.settings = settings_bounds h.settings e in
      let g = h.settings in
      let ns = u8 g.mode ∷ i32 g.target ∷ u32 g.band ∷ u16 g.factor ∷ u8 h.phase ∷ [] in
      let s = value_stands 0x03 ns rest (omega arith, (bits_fit b.target, (omega arith, (omega arith, (omega arith, zero-le))))) in
      let target = signed_back b.target s.1.0 in
      (λ i. record { mode = s.0 i; target = target i; band = s.1.1.0 i; factor = s.1.1.1.0 i }, s.1.1.1.1.0)

  pub connections_say : (c : Connection) (cs : List Connection) → Each (λ (d : Connection). connection_in d.phases d.volts ≡ true) (c ∷ cs)
      → (i : ℕ) → i < length (c ∷ cs) → let d = get_or (c ∷ cs) i (record { phases = 0; volts = 0 }) in
      (phases_in (connections_field (c ∷ cs) ++ rest) 3 i ≡ d.phases) × (volts_in (connections_field (c ∷ cs) ++ rest) 3 i ≡ d.volts)
  unfolding connections_field
  connections_say c cs f i h =
      connections_stand (c ∷ cs) (connections_field (c ∷ cs) ++ rest) 3 (value_stands 0x0A (connection_numbers (c ∷ cs)) rest (connections_small (c ∷ cs) f)) i h

  pub inverter_says : (v : Inverter) → inverter_in v ≡ true → inverter_at (inverter_field v ++ rest) 3 ≡ v
  unfolding inverter_field inverter_at
  inverter_says v e =
      let b : InverterBounds v = inverter_bounds v e in
      let ns = u32 v.array ∷ u32 v.kva ∷ u16 v.cut_in ∷ u16 v.cut_out ∷ u16 v.limit ∷ i32 v.var_request ∷ u8 v.priority ∷ [] in
      let s = value_stands 0x06 ns rest (omega arith, (omega arith, (omega arith, (omega arith, (omega arith, (bits_fit b.vars, (omega arith, zero-le))))))) in
      let vars = signed_back b.vars s.1.1.1.1.1.0 in
      λ i. record {
        array = s.0 i;
        kva = s.1.0 i;
        cut_in = s.1.1.0 i;
        cut_out = s.1.1.1.0 i;
        limit = s.1.1.1.1.0 i;
        var_request = vars i;
        priority = s.1.1.1.1.1.1.0 i;
      }

  -- points that fit 32 bits; past them all is 0
  pub curve_says : (ps : List Point) → length ps ≤ 16 → Each (λ (p : Point). SFits w32 p.x × SFits w32 p.y) ps
      → (points_at (curve_field ps ++ rest) 3 ≡ ps) × (rest_in (curve_field ps ++ rest) 3 ≡ true)
  unfolding curve_field points_at rest_in count_at
  curve_says ps h f =
      let F = curve_field ps ++ rest in
      let left = 16 - length ps in
      let small = small_append (point_numbers ps) (zeros left) (points_small ps f) (zeros_small left) in
      let s = value_stands 0x07 (u8 (length ps) ∷ (point_numbers ps ++ zeros left)) rest (omega arith, small) in
      let count = s.0 in
      let front = stand_front (point_numbers ps) (zeros left) F 4 s.1 in
      let behind = stand_behind (point_numbers ps) (zeros left) F 4 s.1 in
      let place : (i : ℕ) → 4 + 8 * (length ps + i) ≡ 4 + size (point_numbers ps) + 8 * i = λ i. omega (arith, points_size ps) in
      let none = all_true left (λ (i : ℕ). eqb (be 8 F (4 + 8 * (length ps + i))) 0) (λ i l. eq-eqb _ 0 (ap (be 8 F) (place i) ∙ zeros_stand left F (4 + size (point_numbers ps)) behind i l)) in
      (ap (λ (n : ℕ). points_from n 0 F 3) count ∙ points_stand ps f F 3 0 4 refl front, ap (λ (n : ℕ). all_of (16 - n) (λ (i : ℕ). eqb (be 8 F (4 + 8 * (n + i))) 0)) count ∙ none)

  pub weather_says : (i t : ℕ) → Bits i → Bits t → weather_at (field 0x08 (u64 i ∷ u64 t ∷ []) ++ rest) 3 ≡ sky_bits i t
  unfolding weather_at
  weather_says i t hi ht =
      let s = value_stands 0x08 (u64 i ∷ u64 t ∷ []) rest (hi, (ht, zero-le)) in
      λ k. sky_bits (s.0 k) (s.1.0 k)

  pub voltage_says : (x : ℕ) → x < 65536 → be 2 (field 0x0C (u16 x ∷ []) ++ rest) 3 ≡ x
  voltage_says x h = (value_stands 0x0C (u16 x ∷ []) rest (h, zero-le)).0

  pub base_says : (x : ℕ) → x < 256 → be 1 (field 0x0B (u8 x ∷ []) ++ rest) 3 ≡ x
  base_says x h = (value_stands 0x0B (u8 x ∷ []) rest (h, zero-le)).0

  -- powers and currents
  pub phases_say : (tag a b c : ℕ) → Bits a → Bits b → Bits c → phases_at (field tag (u64 a ∷ u64 b ∷ u64 c ∷ []) ++ rest) 3 ≡ phases_of a b c
  unfolding phases_at
  phases_say tag a b c ha hb hc =
      let s = value_stands tag (u64 a ∷ u64 b ∷ u64 c ∷ []) rest (ha, (hb, (hc, zero-le))) in
      λ k. phases_of (s.0 k) (s.1.0 k) (s.1.1.0 k)

  pub end_says : (n : ℕ) → n < 2 ^ 32 → be 4 (end_field n ++ rest) 3 ≡ n
  unfolding end_field
  end_says n h = (value_stands 0x7F (u32 n ∷ []) rest (h, zero-le)).0
