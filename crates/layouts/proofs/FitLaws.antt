-- What fits can be laid: every number of a stick that fits has room in its bytes, and no field of it is longer than two bytes can say. Assumes nothing.
use mathlib.Core.Path.{◌≡◌}
use mathlib.Core.Bool.{Bool, true, false, cond, ◌&&◌}
use mathlib.Core.List.{List, [], ◌∷◌, ◌++◌}
use mathlib.Core.Logic.{inl, inr}
use Prim.Native.Nat.{ℕ, zero, suc, ◌-◌, ◌≤◌, ◌<◌, ◌^◌, zero-le}
use native.Mathlib.Nat.{not-suc-le-zero, le_of_suc-le-suc}
use native.Mathlib.Omega.{arith}
use lib.Dec.{leb, lit≤, lit<}
use lib.IntN.{ℤ, pos, nat_abs}
use lib.Signed.{◌≤ℤ◌}
use lib.ListN.{length, get_or}
use borrow.Author.Tests.{leb-true}
use Rattle.whole.specs.Interval.{between}
use Rattle.whole.proofs.OverLaws.{and_parts}
use Rattle.unit.specs.declared.Unit.{Unit}
use Rattle.unit.specs.Ranges.{own_limits, edition_in, seconds_in}
use Rattle.curve.specs.declared.Bounds.{Bounds}
use Rattle.curve.specs.Curve.{Point, point}
use Rattle.curve.specs.Ranges.{points_in}
use Rattle.curve.proofs.OrderLaws.{size_up, size_within}
use Rattle.curve.proofs.RangeLaws.{points_some, points_bounded}
use Rattle.solar.specs.Roof.{Roof, inverter_in, roof_in, warm_bounds, efficiency_bounds}
use Rattle.lead.specs.Lead.{Leading, unled, led, Function, function_in, volt_var_bounds}
use Rattle.site.specs.declared.Head.{Head}
use Rattle.layouts.specs.Written.{Connection}
use Rattle.layouts.specs.Layout.{Number, u8, u16, u32, u64, size, unit_numbers, connection_numbers, point_numbers, zeros}
use Rattle.layouts.specs.Ranges.{Each, Connected, VoltageFits}
use Rattle.layouts.proofs.SayLaws.{within, signed_fits, unit_size_lem, connections_size_lem, PointsFit, curve_size}
use Rattle.std.proofs.Common.{Some}

-- ---- of every one of a list, from that at each place, and the other way round
each_of : {A : Type 0} (P : A → Type 0) (d : A) (l : List A) → ((i : ℕ) → i < length l → P (get_or l i d)) → Each P l
each_of P d [] h = zero-le
each_of P d (x ∷ l) h = (h 0 (omega arith), each_of P d l (λ i s. h (suc i) (omega arith)))

pub each_at : {A : Type 0} (P : A → Type 0) (d : A) (l : List A) → Each P l → (i : ℕ) → i < length l → P (get_or l i d)
each_at P d [] f i h = absurd (not-suc-le-zero h)
each_at P d (x ∷ l) f zero h = f.0
each_at P d (x ∷ l) f (suc i) h = each_at P d l f.1 i (le_of_suc-le-suc h)

-- ---- the fleet and the connections
pub record FleetFits (h : Head) (n : ℕ) : Type 0 where
  pub edition : h.edition < 256
  pub count : n < 256
  pub seconds : h.seconds < 2 ^ 32

pub fleet_fits : (h : Head) (n : ℕ) → edition_in h.edition ≡ true → between 1 64 n ≡ true → seconds_in h.seconds ≡ true → FleetFits h n
fleet_fits h n he hn hs =
    let old = (within 1 3 h.edition he).1 in
    let few = (within 1 64 n hn).1 in
    let brief = (within 1 86400 h.seconds hs).1 in
    record { edition = omega arith; count = omega arith; seconds = omega arith }

pub connections_few : (current : Bool) (n : ℕ) (cs : List Connection) → between 1 64 n ≡ true → Connected current n cs → length cs ≤ 64
connections_few current n cs e (inl c) = rw c.0 (lit≤ tt)
connections_few current n cs e (inr c) =
    let few = (within 1 64 n e).1 in
    let same = c.0 in
    omega arith

-- ---- curves
pub record CurveFits (b : Bounds) (ps : List Point) : Type 0 where
  pub inside : points_in b ps ≡ true
  pub few : length ps ≤ 16
  pub each : PointsFit ps

-- within bounds of at most 10^8
abbrev Near : ℤ → ℤ → Type 0
Near low high = (z : ℤ) → low ≤ℤ z → z ≤ℤ high → nat_abs z ≤ 100000000

curve_fits : (b : Bounds) → Near b.x_least b.x_most → Near b.y_least b.y_most → (ps : List Point) → points_in b ps ≡ true → CurveFits b ps
curve_fits b nx ny ps ok = record {
  inside = ok;
  few = (points_some b ps ok).1;
  each = each_of _ (point (pos 0) (pos 0)) ps (λ i h.
      let p = points_bounded b ps ok i h in
      (signed_fits (nx _ p.0.0 p.0.1), signed_fits (ny _ p.1.0 p.1.1)));
}

up : (n : ℕ) → n ≤ 100000000 → Near (pos 0) (pos n)
up n h z low high = let s = size_up n z low high in omega arith

pub record RoofFits (r : Roof) : Type 0 where
  pub inverter : inverter_in r.inverter ≡ true
  pub warm : CurveFits warm_bounds r.warm
  pub efficiency : CurveFits efficiency_bounds r.efficiency

pub roof_fits : (r : Roof) → roof_in r ≡ true → RoofFits r
unfolding roof_in
roof_fits r e =
    let last = and_parts (inverter_in r.inverter && points_in warm_bounds r.warm) (points_in efficiency_bounds r.efficiency) e in
    let first = and_parts (inverter_in r.inverter) (points_in warm_bounds r.warm) last.0 in
    record {
      inverter = first.0;
      warm = curve_fits warm_bounds (size_within 99999999) (up 20000 (lit≤ tt)) r.warm first.1;
      efficiency = curve_fits efficiency_bounds (up 100000000 (lit≤ tt)) (up 10000 (lit≤ tt)) r.efficiency last.1;
    }

pub record FunctionFits (f : Function) : Type 0 where
  pub inside : leb f.base 1 ≡ true
  pub base : f.base < 256
  pub curve : CurveFits volt_var_bounds f.curve

pub function_fits : (f : Function) → function_in f ≡ true → FunctionFits f
unfolding function_in
function_fits f e =
    let p = and_parts (leb f.base 1) (points_in volt_var_bounds f.curve) e in
    let b = leb-true f.base 1 p.0 in
    record {
      inside = p.0;
      base = omega arith;
      curve = curve_fits volt_var_bounds (up 20000 (lit≤ tt)) (λ z low high. let s = size_within 9999 z low high in omega arith) f.curve p.1;
    }

-- ---- a step's voltage
pub voltage_fits : (l : Leading) (x : ℕ) → VoltageFits l (Some x) → x < 65536
voltage_fits unled x f = absurd f
voltage_fits (led g) x f = let h = leb-true x 20000 f in omega arith

-- ---- a tag and numbers that a field can have
pub record Laid (t : ℕ) (ns : List Number) : Type 0 where
  pub tagged : t < 256
  pub few : size ns < 65536

pub fleet_laid : (a b c : ℕ) → Laid 0x01 (u8 a ∷ u8 b ∷ u32 c ∷ [])
unfolding size
fleet_laid a b c = record { tagged = lit< tt; few = lit< tt }

pub unit_laid : (e : ℕ) (u : Unit) → Laid 0x02 (unit_numbers e u)
unit_laid e u = record { tagged = lit< tt; few = short (own_limits e) (unit_size_lem e u) }
  where
    short : (own : Bool) → size (unit_numbers e u) ≡ cond own 57 49 → size (unit_numbers e u) < 65536
    short true long = omega arith
    short false long = omega arith

pub settings_laid : (a b c d e : ℕ) → Laid 0x03 (u8 a ∷ u32 b ∷ u32 c ∷ u16 d ∷ u8 e ∷ [])
unfolding size
settings_laid a b c d e = record { tagged = lit< tt; few = lit< tt }

pub connections_laid : (cs : List Connection) → length cs ≤ 64 → Laid 0x0A (connection_numbers cs)
connections_laid cs h = record { tagged = lit< tt; few = omega (arith, connections_size_lem cs) }

pub inverter_laid : (a b c d e f g : ℕ) → Laid 0x06 (u32 a ∷ u32 b ∷ u16 c ∷ u16 d ∷ u16 e ∷ u32 f ∷ u8 g ∷ [])
unfolding size
inverter_laid a b c d e f g = record { tagged = lit< tt; few = lit< tt }

pub curve_laid : (ps : List Point) → length ps ≤ 16 → Laid 0x07 (u8 (length ps) ∷ (point_numbers ps ++ zeros (16 - length ps)))
curve_laid ps h = record { tagged = lit< tt; few = omega (arith, curve_size ps h) }

pub base_laid : (a : ℕ) → Laid 0x0B (u8 a ∷ [])
unfolding size
base_laid a = record { tagged = lit< tt; few = lit< tt }

pub weather_laid : (a b : ℕ) → Laid 0x08 (u64 a ∷ u64 b ∷ [])
unfolding size
weather_laid a b = record { tagged = lit< tt; few = lit< tt }

pub voltage_laid : (a : ℕ) → Laid 0x0C (u16 a ∷ [])
unfolding size
voltage_laid a = record { tagged = lit< tt; few = lit< tt }

pub missing_laid : Laid 0x05 []
unfolding size
missing_laid = record { tagged = lit< tt; few = lit< tt }

pub powers_laid : (a b c : ℕ) → Laid 0x04 (u64 a ∷ u64 b ∷ u64 c ∷ [])
unfolding size
powers_laid a b c = record { tagged = lit< tt; few = lit< tt }

pub currents_laid : (a b c : ℕ) → Laid 0x09 (u64 a ∷ u64 b ∷ u64 c ∷ [])
unfolding size
currents_laid a b c = record { tagged = lit< tt; few = lit< tt }

pub end_laid : (a : ℕ) → Laid 0x7F (u32 a ∷ [])
unfolding size
end_laid a = record { tagged = lit< tt; few = lit< tt }
