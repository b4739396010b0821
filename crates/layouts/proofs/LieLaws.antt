-- The other way round: bytes at whose head a field lies are that field laid out from what is read there, and then the rest. Assumes nothing.
use mathlib.Core.Path.{◌≡◌, refl, sym, ap, subst, ◌∙◌}
use mathlib.Core.Bool.{Bool, true, false, cond}
use mathlib.Core.List.{List, [], ◌∷◌, ◌++◌}
use Prim.Native.Nat.{ℕ, zero, suc, ◌+◌, ◌-◌, ◌*◌, ◌≤◌, ◌<◌, zero-le}
use native.Mathlib.Nat.{not-suc-le-zero, le_refl}
use native.Mathlib.Omega.{arith}
use lib.Dec.{eqb}
use lib.ListN.{length, get_or, take, drop, take-append-drop}
use mir.Syntax.{w32}
use mir.Val.{to_z, of_z}
use borrow.Author.Tests.{eqb-true}
use Rattle.whole.proofs.OverLaws.{and_parts, all_at}
use Rattle.octets.specs.BigEndian.{be}
use Rattle.parts.specs.Header.{tag_at, length_at, past}
use Rattle.unit.specs.declared.Unit.{Unit}
use Rattle.unit.specs.Ranges.{unit_in, in_edition, own_limits, limit_in, older, connection_in}
use Rattle.unit.proofs.RangeLaws.{bounds}
use Rattle.rules.specs.declared.Settings.{Settings}
use Rattle.curve.specs.declared.Bounds.{Bounds}
use Rattle.curve.specs.Layout.{count_at, x_at, y_at, points_from, points_at, rest_in, curve_in}
use Rattle.curve.specs.Ranges.{points_in}
use Rattle.curve.proofs.PointLaws.{points_count}
use Rattle.curve.proofs.RangeLaws.{points_some}
use Rattle.site.specs.declared.Head.{Head}
use Rattle.fields.specs.Fields.{unit_at, settings_at, phase_at, inverter_at, phases_in, volts_in, connections_in}
use Rattle.layouts.specs.Written.{Connection}
use Rattle.layouts.specs.Layout.{Number, in_bytes, size, u8, u16, u32, u64, i32, field, fleet_field, unit_numbers, unit_field, settings_field, connection_numbers, connections_field, inverter_field, point_numbers, zeros, curve_field, end_field}
use Rattle.layouts.specs.Ranges.{Each, UnitFits}
use Rattle.layouts.proofs.SayLaws.{limits, unit_size_lem, ConnectionsFit, connections_size_lem, points_size, curve_size}
use Rattle.layouts.proofs.CutNumbers.{Cut, cut_append, relaid, bits_be}

-- ---- by the editions: limits that a unit has, or else its kVA; and a loss on one of two sides
twice : (own : Bool) (x y : ℕ) → cond own (cond own x y) y ≡ cond own x y
twice true x y = refl
twice false x y = refl

sides : (grid : Bool) (loss most : ℕ) → cond grid 0 loss ≤ most → cond grid loss 0 ≤ most → loss ≤ most
sides true loss most d g = g
sides false loss most d g = d

-- a field with a tag and so many value bytes lies at the head of bytes
pub record Lies (b : List ℕ) (tag n : ℕ) : Type 0 where
  pub bytes : (i : ℕ) → get_or b i 0 < 256
  pub tagged : tag_at b 0 ≡ tag
  pub long : length_at b 0 ≡ n
  pub all : past b 0 ≤ length b

module _ (b : List ℕ) where
  -- a field whose numbers are read one behind the other from place 3 on
  pub field_lies : (tag : ℕ) (ns : List Number) → Lies b tag (size ns) → Cut b ns 3 → b ≡ field tag ns ++ drop (past b 0) b
  unfolding field in_bytes size Cut
  field_lies tag ns l c =
      let long : be 2 b 1 ≡ size ns = l.long in
      let room : 3 + be 2 b 1 ≤ length b = l.all in
      let whole : past b 0 ≡ 1 + (2 + size ns) = omega arith in
      let laid = relaid b l.bytes (u8 tag ∷ u16 (size ns) ∷ ns) 0 (sym l.tagged, (sym l.long, c)) (omega arith) in
      sym (take-append-drop (past b 0) b) ∙ ap (λ (t : List ℕ). t ++ drop (past b 0) b) (ap (λ (k : ℕ). take k b) whole ∙ sym laid)

  pub fleet_lies : Lies b 1 6 → (h : Head) → h.edition ≡ be 1 b 3 → h.seconds ≡ be 4 b 5 → b ≡ fleet_field h (be 1 b 4) ++ drop (past b 0) b
  unfolding fleet_field size Cut
  fleet_lies l h he hs = field_lies 1 (u8 h.edition ∷ u8 (be 1 b 4) ∷ u32 h.seconds ∷ []) l (he, (refl, (hs, zero-le)))

  -- the unit as it was written down
  abbrev written : ℕ → Unit
  written e = record {
    rated = be 8 b 3;
    reserve = be 8 b 11;
    stored = be 8 b 19;
    rating = be 4 b 27;
    kva = be 4 b 31;
    dc_loss = be 4 b 35;
    var_request = to_z w32 (be 4 b 39);
    weight = be 2 b 43;
    inverter = be 2 b 45;
    charge = be 2 b 47;
    discharge = be 2 b 49;
    priority = be 1 b 51;
    provide = limit_in e (be 4 b 31) (be 4 b 52);
    absorb = limit_in e (be 4 b 31) (be 4 b 56);
    grid_loss = 0;
    link = 0;
  }

  -- its edition has it as it is read
  written_same : (e : ℕ) → in_edition e (written e) ≡ unit_at e b 3
  unfolding in_edition unit_at
  written_same e = cc (twice (own_limits e) (be 4 b 52) (be 4 b 31), twice (own_limits e) (be 4 b 56) (be 4 b 31))

  written_fits : (e : ℕ) → unit_in (unit_at e b 3) ≡ true → UnitFits e (written e)
  unfolding unit_at
  written_fits e ok =
      let bound = bounds {u = unit_at e b 3} {seconds = 1} (record { unit = ok; seconds_in_is = refl }) in
      record {
        inside = ap unit_in (written_same e) ∙ ok;
        loss = sides (older e) (be 4 b 35) 10000000 bound.idle_most bound.grid_most;
        grid = refl;
        link = refl;
        limits = λ none. (ap (λ (t : Bool). cond t (be 4 b 52) (be 4 b 31)) none, ap (λ (t : Bool). cond t (be 4 b 56) (be 4 b 31)) none);
      }

  limits_cut : (own : Bool) (kva : ℕ) → Cut b (limits own (cond own (be 4 b 52) kva) (cond own (be 4 b 56) kva)) 52
  unfolding Cut
  limits_cut true kva = (refl, (refl, zero-le))
  limits_cut false kva = zero-le

  pub unit_lies : (e : ℕ) → Lies b 2 (cond (own_limits e) 57 49) → unit_in (unit_at e b 3) ≡ true
      → (u : Unit) × (UnitFits e u × ((in_edition e u ≡ unit_at e b 3) × (b ≡ unit_field e u ++ drop (past b 0) b)))
  unfolding unit_field size Cut
  unit_lies e l ok =
      let u = written e in
      let field =
      field_lies 2 (unit_numbers e u) (subst (Lies b 2) (sym (unit_size_lem e u)) l)
      (refl, (refl, (refl, (refl, (refl, (refl, (bits_be b l.bytes 39, (refl, (refl, (refl, (refl, (refl, limits_cut (own_limits e) (be 4 b 31))))))))))))) in
      (u, (written_fits e ok, (written_same e, field)))

  pub settings_lie : Lies b 3 12 → (h : Head) → h.settings ≡ settings_at b 3 → h.phase ≡ phase_at b 3 → b ≡ settings_field h ++ drop (past b 0) b
  unfolding settings_field settings_at size Cut
  settings_lie l h hs hp =
      let s = h.settings in
      field_lies 3 (u8 s.mode ∷ i32 s.target ∷ u32 s.band ∷ u16 s.factor ∷ u8 h.phase ∷ []) l (
        ap (λ (t : Settings). t.mode) hs,
        (ap (λ (t : Settings). of_z w32 t.target) hs ∙ bits_be b l.bytes 4, (ap (λ (t : Settings). t.band) hs, (ap (λ (t : Settings). t.factor) hs, (hp, zero-le)))),
      )

  -- the connections of so many units, from one on
  abbrev connections_from : ℕ → ℕ → List Connection
  connections_from zero i = []
  connections_from (suc n) i = record { phases = phases_in b 3 i; volts = volts_in b 3 i } ∷ connections_from n (suc i)

  connections_count : (n i : ℕ) → length (connections_from n i) ≡ n
  connections_count zero i = refl
  connections_count (suc n) i = ap suc (connections_count n (suc i))

  connections_each : (n i : ℕ) → ((k : ℕ) → i ≤ k → k < i + n → connection_in (phases_in b 3 k) (volts_in b 3 k) ≡ true)
      → ConnectionsFit (connections_from n i)
  connections_each zero i h = zero-le
  connections_each (suc n) i h = (h i (le_refl i) (omega arith), connections_each n (suc i) (λ k low high. h k (omega arith) (omega arith)))

  connections_cut : (n i : ℕ) → Cut b (connection_numbers (connections_from n i)) (3 + 3 * i)
  unfolding Cut
  connections_cut zero i = zero-le
  connections_cut (suc n) i =
      let e : 3 + 3 * suc i ≡ 3 + 3 * i + 1 + 2 = omega arith in
      (refl, (refl, subst (Cut b (connection_numbers (connections_from n (suc i)))) e (connections_cut n (suc i))))

  pub connections_lie : (n : ℕ) → 0 < n → Lies b 10 (3 * n) → connections_in n b 3 ≡ true
      → (cs : List Connection) × ((length cs ≡ n) × (Each (λ (c : Connection). connection_in c.phases c.volts ≡ true) cs × (b ≡ connections_field cs ++ drop (past b 0) b)))
  unfolding connections_in connections_field
  connections_lie zero h l ok = absurd (not-suc-le-zero h)
  connections_lie (suc n) h l ok =
      let cs = connections_from (suc n) 0 in
      let long : 3 * suc n ≡ size (connection_numbers cs) = omega (arith, connections_size_lem cs, connections_count (suc n) 0) in
      let at = all_at (suc n) (λ (i : ℕ). connection_in (phases_in b 3 i) (volts_in b 3 i)) ok in (
        cs,
        (
          connections_count (suc n) 0,
          (
            connections_each (suc n) 0 (λ k low high. at k (omega arith)),
            field_lies 10 (connection_numbers cs) (subst (Lies b 10) long l) (connections_cut (suc n) 0),
          ),
        ),
      )

  pub inverter_lies : Lies b 6 19 → b ≡ inverter_field (inverter_at b 3) ++ drop (past b 0) b
  unfolding inverter_field inverter_at size Cut
  inverter_lies l =
      let v = inverter_at b 3 in
      field_lies 6 (u32 v.array ∷ u32 v.kva ∷ u16 v.cut_in ∷ u16 v.cut_out ∷ u16 v.limit ∷ i32 v.var_request ∷ u8 v.priority ∷ []) l
      (refl, (refl, (refl, (refl, (refl, (bits_be b l.bytes 17, (refl, zero-le)))))))

  -- the points of a curve, from one on, and the zeros behind them
  points_cut : ((i : ℕ) → get_or b i 0 < 256) → (n i : ℕ) → Cut b (point_numbers (points_from n i b 3)) (4 + 8 * i)
  unfolding Cut points_from x_at y_at
  points_cut small zero i = zero-le
  points_cut small (suc n) i =
      let e : 4 + 8 * suc i ≡ 4 + 8 * i + 4 + 4 = omega arith in
      let f : 8 + 8 * i ≡ 4 + 8 * i + 4 = omega arith in (
        bits_be b small (4 + 8 * i),
        (bits_be b small (8 + 8 * i) ∙ ap (be 4 b) f, subst (Cut b (point_numbers (points_from n (suc i) b 3))) e (points_cut small n (suc i))),
      )

  zeros_cut : (n i : ℕ) → ((k : ℕ) → k < n → be 8 b (4 + 8 * (i + k)) ≡ 0) → Cut b (zeros n) (4 + 8 * i)
  unfolding Cut
  zeros_cut zero i h = zero-le
  zeros_cut (suc n) i h =
      let first : 4 + 8 * (i + 0) ≡ 4 + 8 * i = omega arith in
      let next : 4 + 8 * suc i ≡ 4 + 8 * i + 8 = omega arith in
      let later : (k : ℕ) → 4 + 8 * (suc i + k) ≡ 4 + 8 * (i + suc k) = λ k. omega arith in (
        sym (h 0 (omega arith)) ∙ ap (be 8 b) first,
        subst (Cut b (zeros n)) next (zeros_cut n (suc i) (λ k l. ap (be 8 b) (later k) ∙ h (suc k) (omega arith))),
      )

  pub curve_lies : (bounds : Bounds) → Lies b 7 129 → curve_in bounds b 3 ≡ true → (points_in bounds (points_at b 3) ≡ true) × (b ≡ curve_field (points_at b 3) ++ drop (past b 0) b)
  unfolding curve_in curve_field points_at rest_in count_at size Cut
  curve_lies bounds l ok =
      let n = be 1 b 3 in
      let ps = points_at b 3 in
      let passed = and_parts (points_in bounds ps) (rest_in b 3) ok in
      let count : length ps ≡ n = points_count b 3 in
      let few : length ps ≤ 16 = (points_some bounds ps passed.0).1 in
      let at = all_at (16 - n) (λ (i : ℕ). eqb (be 8 b (4 + 8 * (n + i))) 0) passed.1 in
      let place : 4 + 8 * n ≡ 4 + size (point_numbers ps) = omega (arith, points_size ps) in
      let rest : Cut b (zeros (16 - length ps)) (4 + 8 * n) = zeros_cut (16 - length ps) n (λ k h. eqb-true (be 8 b (4 + 8 * (n + k))) 0 (at k (omega arith))) in (
        passed.0,
        field_lies 7 (u8 (length ps) ∷ (point_numbers ps ++ zeros (16 - length ps))) (subst (Lies b 7) (sym (curve_size ps few)) l)
            (count, cut_append b (point_numbers ps) (zeros (16 - length ps)) 4 (points_cut l.bytes n 0) (subst (Cut b (zeros (16 - length ps))) place rest)),
      )

  pub weather_lies : Lies b 8 16 → b ≡ field 0x08 (u64 (be 8 b 3) ∷ u64 (be 8 b 11) ∷ []) ++ drop (past b 0) b
  unfolding size Cut
  weather_lies l = field_lies 8 (u64 (be 8 b 3) ∷ u64 (be 8 b 11) ∷ []) l (refl, (refl, zero-le))

  pub voltage_lies : Lies b 12 2 → b ≡ field 0x0C (u16 (be 2 b 3) ∷ []) ++ drop (past b 0) b
  unfolding size Cut
  voltage_lies l = field_lies 12 (u16 (be 2 b 3) ∷ []) l (refl, zero-le)

  pub base_lies : Lies b 11 1 → b ≡ field 0x0B (u8 (be 1 b 3) ∷ []) ++ drop (past b 0) b
  unfolding size Cut
  base_lies l = field_lies 11 (u8 (be 1 b 3) ∷ []) l (refl, zero-le)

  -- powers (4) and currents (9)
  pub phases_lie : (tag : ℕ) → Lies b tag 24 → b ≡ field tag (u64 (be 8 b 3) ∷ u64 (be 8 b 11) ∷ u64 (be 8 b 19) ∷ []) ++ drop (past b 0) b
  unfolding size Cut
  phases_lie tag l = field_lies tag (u64 (be 8 b 3) ∷ u64 (be 8 b 11) ∷ u64 (be 8 b 19) ∷ []) l (refl, (refl, (refl, zero-le)))

  pub missing_lies : Lies b 5 0 → b ≡ field 0x05 [] ++ drop (past b 0) b
  unfolding size Cut
  missing_lies l = field_lies 5 [] l zero-le

  pub end_lies : Lies b 127 4 → b ≡ end_field (be 4 b 3) ++ drop (past b 0) b
  unfolding end_field size Cut
  end_lies l = field_lies 127 (u32 (be 4 b 3) ∷ []) l (refl, zero-le)
