-- Bytes that are alike, each with a field of one kind at its head, say one thing there and are alike behind it: both fields are read alike. Assumes nothing.
use mathlib.Core.Path.{◌≡◌, refl, sym, ap, subst, ◌∙◌}
use mathlib.Core.Bool.{Bool, true, false, cond}
use mathlib.Core.List.{List, [], ◌∷◌, ◌++◌, append_cancel_left}
use Prim.Native.Nat.{ℕ, ◌+◌, ◌≤◌, ◌<◌, zero-le}
use native.Mathlib.Omega.{arith}
use lib.Dec.{eqb}
use lib.ListN.{length}
use Rattle.octets.specs.BigEndian.{be}
use Rattle.parts.specs.Header.{tag_at}
use Rattle.unit.specs.declared.Unit.{Unit}
use Rattle.unit.specs.Ranges.{own_limits, older, in_edition}
use Rattle.rules.specs.Ranges.{settings_in}
use Rattle.curve.specs.declared.Bounds.{Bounds}
use Rattle.curve.specs.Curve.{Point}
use Rattle.curve.specs.Layout.{points_at}
use Rattle.solar.specs.declared.Inverter.{Inverter}
use Rattle.solar.specs.Roof.{inverter_in}
use Rattle.site.specs.declared.Head.{Head}
use Rattle.fields.specs.Fields.{unit_at, settings_at, phase_at, inverter_at}
use Rattle.layouts.specs.Written.{Connection}
use Rattle.layouts.specs.Layout.{Number, u8, u16, u32, u64, field, fleet_field, unit_field, settings_field, connection_numbers, connections_field, inverter_field, curve_field}
use Rattle.layouts.specs.Ranges.{UnitFits, Bits}
use Rattle.layouts.proofs.NumberLaws.{Stand, field_tag, value_stands}
use Rattle.layouts.proofs.SayLaws.{ConnectionsFit, connections_small, fleet_says, unit_says, settings_say, inverter_says, curve_says, voltage_says, base_says}
use Rattle.layouts.proofs.FitLaws.{FleetFits, CurveFits}

-- ---- the place of a tag in the order in which the fields stand behind the settings
unfoldable pub order : ℕ → ℕ
order t = cond (eqb t 10) 0 (cond (eqb t 6) 1 (cond (eqb t 11) 2 (cond (eqb t 8) 3 (cond (eqb t 12) 4 (cond (eqb t 127) 6 5)))))

unfoldable pub rank : List ℕ → ℕ
unfolding order
rank b = order (tag_at b 0)

pub field_rank : (tag : ℕ) (ns : List Number) (rest : List ℕ) → tag < 256 → rank (field tag ns ++ rest) ≡ order tag
unfolding rank
field_rank tag ns rest h = ap order (field_tag tag ns rest h)

-- ---- what stands behind one thing, and what is laid from one value
behind : (a b x y : List ℕ) → a ++ x ≡ b ++ y → a ≡ b → x ≡ y
behind a b x y e same = append_cancel_left a x y (e ∙ ap (λ (l : List ℕ). l ++ y) (sym same))

strip : {A : Type 0} (X : A → List ℕ) (v w : A) (x y : List ℕ) → X v ++ x ≡ X w ++ y → (read : List ℕ → A) → read (X v ++ x) ≡ v → read (X w ++ y) ≡ w → (v ≡ w) × (x ≡ y)
strip X v w x y e read hv hw = let same : v ≡ w = sym hv ∙ ap read e ∙ hw in (same, behind (X v) (X w) x y e (ap X same))

-- ---- a unit is what its edition makes of it
loss_of_lem : (grid : Bool) (l : ℕ) → cond grid 0 l + cond grid l 0 ≡ l
loss_of_lem true l = omega arith
loss_of_lem false l = omega arith

limit_of_lem : (own : Bool) (x kva : ℕ) → (own ≡ false → x ≡ kva) → cond own x kva ≡ x
limit_of_lem true x kva h = refl
limit_of_lem false x kva h = sym (h refl)

unit_back : (e : ℕ) (u v : Unit) → UnitFits e u → UnitFits e v → in_edition e u ≡ in_edition e v → u ≡ v
unfolding in_edition
unit_back e u v f g p =
    let loss = sym (loss_of_lem (older e) u.dc_loss) ∙ ap (λ (z : Unit). z.dc_loss + z.grid_loss) p ∙ loss_of_lem (older e) v.dc_loss in
    let provide = sym (limit_of_lem (own_limits e) u.provide u.kva (λ n. (f.limits n).0)) ∙ ap (λ (z : Unit). z.provide) p ∙ limit_of_lem (own_limits e) v.provide v.kva (λ n. (g.limits n).0) in
    let absorb = sym (limit_of_lem (own_limits e) u.absorb u.kva (λ n. (f.limits n).1)) ∙ ap (λ (z : Unit). z.absorb) p ∙ limit_of_lem (own_limits e) v.absorb v.kva (λ n. (g.limits n).1) in
    let grid = f.grid ∙ sym g.grid in
    λ i. record {
      rated = (p i).rated;
      reserve = (p i).reserve;
      stored = (p i).stored;
      rating = (p i).rating;
      kva = (p i).kva;
      dc_loss = loss i;
      var_request = (p i).var_request;
      weight = (p i).weight;
      inverter = (p i).inverter;
      charge = (p i).charge;
      discharge = (p i).discharge;
      priority = (p i).priority;
      provide = provide i;
      absorb = absorb i;
      grid_loss = grid i;
      link = (p i).link;
    }

-- ---- connections that stand at one place
connections_same : (F : List ℕ) (at : ℕ) (cs ds : List Connection) → length cs ≡ length ds → Stand (connection_numbers cs) F at → Stand (connection_numbers ds) F at → cs ≡ ds
connections_same F at [] [] n s t = refl
connections_same F at [] (d ∷ ds) n s t = absurd (omega arith)
connections_same F at (c ∷ cs) [] n s t = absurd (omega arith)
connections_same F at (c ∷ cs) (d ∷ ds) n s t =
    let phases = sym s.0 ∙ t.0 in
    let volts = sym s.1.0 ∙ t.1.0 in
    let more = connections_same F (at + 1 + 2) cs ds (omega arith) s.1.1 t.1.1 in
    λ i. record { phases = phases i; volts = volts i } ∷ more i

-- ---- each kind of field
module _ (x y : List ℕ) where
  pub fleet_strip : (h g : Head) (n m : ℕ) → FleetFits h n → FleetFits g m
      → fleet_field h n ++ x ≡ fleet_field g m ++ y → (h.edition ≡ g.edition) × (n ≡ m) × (h.seconds ≡ g.seconds) × (x ≡ y)
  unfolding fleet_field
  fleet_strip h g n m hf gf e =
      let a = fleet_says x h n hf.edition hf.count hf.seconds in
      let b = fleet_says y g m gf.edition gf.count gf.seconds in
      let edition = sym a.0 ∙ ap (λ (F : List ℕ). be 1 F 3) e ∙ b.0 in
      let count = sym a.1.0 ∙ ap (λ (F : List ℕ). be 1 F 4) e ∙ b.1.0 in
      let seconds = sym a.1.1 ∙ ap (λ (F : List ℕ). be 4 F 5) e ∙ b.1.1 in
      let same : fleet_field h n ≡ fleet_field g m = λ i. field 0x01 (u8 (edition i) ∷ u8 (count i) ∷ u32 (seconds i) ∷ []) in
      (edition, count, seconds, behind (fleet_field h n) (fleet_field g m) x y e same)

  pub unit_strip : (e : ℕ) (u v : Unit) → UnitFits e u → UnitFits e v → unit_field e u ++ x ≡ unit_field e v ++ y → (u ≡ v) × (x ≡ y)
  unit_strip e u v f g p =
      let same = unit_back e u v f g (sym (unit_says x e u f) ∙ ap (λ (F : List ℕ). unit_at e F 3) p ∙ unit_says y e v g) in
      (same, behind (unit_field e u) (unit_field e v) x y p (ap (unit_field e) same))

  pub settings_strip : (h g : Head) → settings_in h.settings ≡ true → h.phase ≤ 5 → settings_in g.settings ≡ true → g.phase ≤ 5
      → settings_field h ++ x ≡ settings_field g ++ y → (h.settings ≡ g.settings) × (h.phase ≡ g.phase) × (x ≡ y)
  unfolding settings_field
  settings_strip h g hs hp gs gp e =
      let a = settings_say x h hs hp in
      let b = settings_say y g gs gp in
      let settings = sym a.0 ∙ ap (λ (F : List ℕ). settings_at F 3) e ∙ b.0 in
      let phase = sym a.1 ∙ ap (λ (F : List ℕ). phase_at F 3) e ∙ b.1 in
      let same : settings_field h ≡ settings_field g = λ i. settings_field (record { edition = 0; seconds = 0; settings = settings i; phase = phase i }) in
      (settings, phase, behind (settings_field h) (settings_field g) x y e same)

  pub curve_strip : {bounds : Bounds} (ps qs : List Point) → CurveFits bounds ps → CurveFits bounds qs → curve_field ps ++ x ≡ curve_field qs ++ y → (ps ≡ qs) × (x ≡ y)
  curve_strip ps qs f g e = strip curve_field ps qs x y e (λ (F : List ℕ). points_at F 3) (curve_says x ps f.few f.each).0 (curve_says y qs g.few g.each).0

  pub inverter_strip : (v w : Inverter) → inverter_in v ≡ true → inverter_in w ≡ true → inverter_field v ++ x ≡ inverter_field w ++ y → (v ≡ w) × (x ≡ y)
  inverter_strip v w f g e = strip inverter_field v w x y e (λ (F : List ℕ). inverter_at F 3) (inverter_says x v f) (inverter_says y w g)

  pub voltage_strip : (a b : ℕ) → a < 65536 → b < 65536 → field 0x0C (u16 a ∷ []) ++ x ≡ field 0x0C (u16 b ∷ []) ++ y → (a ≡ b) × (x ≡ y)
  voltage_strip a b f g e = strip (λ (n : ℕ). field 0x0C (u16 n ∷ [])) a b x y e (λ (F : List ℕ). be 2 F 3) (voltage_says x a f) (voltage_says y b g)

  pub base_strip : (a b : ℕ) → a < 256 → b < 256 → field 0x0B (u8 a ∷ []) ++ x ≡ field 0x0B (u8 b ∷ []) ++ y → (a ≡ b) × (x ≡ y)
  base_strip a b f g e = strip (λ (n : ℕ). field 0x0B (u8 n ∷ [])) a b x y e (λ (F : List ℕ). be 1 F 3) (base_says x a f) (base_says y b g)

  pub weather_strip : (a b c d : ℕ) → Bits a → Bits b → Bits c → Bits d → field 0x08 (u64 a ∷ u64 b ∷ []) ++ x ≡ field 0x08 (u64 c ∷ u64 d ∷ []) ++ y
      → (a ≡ c) × (b ≡ d) × (x ≡ y)
  weather_strip a b c d ha hb hc hd e =
      let s = value_stands 0x08 (u64 a ∷ u64 b ∷ []) x (ha, (hb, zero-le)) in
      let t = value_stands 0x08 (u64 c ∷ u64 d ∷ []) y (hc, (hd, zero-le)) in
      let both = strip {A = ℕ × ℕ} (λ (p : ℕ × ℕ). field 0x08 (u64 p.0 ∷ u64 p.1 ∷ [])) (a, b) (c, d) x y e (λ (F : List ℕ). (be 8 F 3, be 8 F 11)) (λ i. (s.0 i, s.1.0 i)) (λ i. (t.0 i, t.1.0 i)) in
      (ap (λ (p : ℕ × ℕ). p.0) both.0, ap (λ (p : ℕ × ℕ). p.1) both.0, both.1)

  pub phases_strip : (tag a b c k l m : ℕ) → Bits a × (Bits b × Bits c) → Bits k × (Bits l × Bits m)
      → field tag (u64 a ∷ u64 b ∷ u64 c ∷ []) ++ x ≡ field tag (u64 k ∷ u64 l ∷ u64 m ∷ []) ++ y
      → (a ≡ k) × (b ≡ l) × (c ≡ m) × (x ≡ y)
  phases_strip tag a b c k l m f g e =
      let s = value_stands tag (u64 a ∷ u64 b ∷ u64 c ∷ []) x (f.0, (f.1.0, (f.1.1, zero-le))) in
      let t = value_stands tag (u64 k ∷ u64 l ∷ u64 m ∷ []) y (g.0, (g.1.0, (g.1.1, zero-le))) in
      let all = strip {A = ℕ × ℕ × ℕ} (λ (p : ℕ × ℕ × ℕ). field tag (u64 p.0 ∷ u64 p.1 ∷ u64 p.2 ∷ [])) (a, b, c) (k, l, m) x y e
      (λ (F : List ℕ). (be 8 F 3, be 8 F 11, be 8 F 19)) (λ i. (s.0 i, s.1.0 i, s.1.1.0 i)) (λ i. (t.0 i, t.1.0 i, t.1.1.0 i)) in
      (ap (λ (p : ℕ × ℕ × ℕ). p.0) all.0, ap (λ (p : ℕ × ℕ × ℕ). p.1) all.0, ap (λ (p : ℕ × ℕ × ℕ). p.2) all.0, all.1)

  pub connections_strip : (c : Connection) (cs : List Connection) (d : Connection) (ds : List Connection) → length (c ∷ cs) ≡ length (d ∷ ds)
      → ConnectionsFit (c ∷ cs) → ConnectionsFit (d ∷ ds)
      → connections_field (c ∷ cs) ++ x ≡ connections_field (d ∷ ds) ++ y → ((c ∷ cs) ≡ (d ∷ ds)) × (x ≡ y)
  unfolding connections_field
  connections_strip c cs d ds n f g e =
      let s = value_stands 0x0A (connection_numbers (c ∷ cs)) x (connections_small (c ∷ cs) f) in
      let t = value_stands 0x0A (connection_numbers (d ∷ ds)) y (connections_small (d ∷ ds) g) in
      let same = connections_same (connections_field (d ∷ ds) ++ y) 3 (c ∷ cs) (d ∷ ds) n (subst (λ (F : List ℕ). Stand (connection_numbers (c ∷ cs)) F 3) e s) t in
      (same, behind (connections_field (c ∷ cs)) (connections_field (d ∷ ds)) x y e (ap connections_field same))
