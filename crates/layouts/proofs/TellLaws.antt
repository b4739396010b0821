-- What is read of all fields with a tag, part by part of a stick: of the part that has them what was laid, of every other nothing. Each reader reads the bytes at its
-- place alone, so bytes in front do not change it. Assumes nothing.
use mathlib.Core.Path.{◌≡◌, refl, ap, ap₂, ◌∙◌}
use mathlib.Core.Bool.{Bool, true, false, not, cond}
use mathlib.Core.List.{List, [], ◌∷◌, ◌++◌, map, append_assoc}
use Prim.Native.Nat.{ℕ, zero, suc, ◌+◌, ◌*◌, ◌≤◌, ◌<◌}
use native.Mathlib.Nat.{le_refl}
use native.Mathlib.Omega.{arith}
use lib.Dec.{eqb, lit≤}
use lib.ListN.{length}
use mir.Syntax.{w32}
use mir.Val.{to_z}
use Rattle.whole.proofs.Choice.{passed_failed}
use Rattle.octets.specs.BigEndian.{be}
use Rattle.parts.specs.Header.{header, past}
use Rattle.unit.specs.declared.Unit.{Unit}
use Rattle.unit.specs.Ranges.{own_limits, in_edition, link_of}
use Rattle.rules.specs.declared.Settings.{Settings}
use Rattle.rules.specs.Ranges.{settings_in}
use Rattle.curve.specs.declared.Bounds.{Bounds}
use Rattle.curve.specs.Curve.{Point, point}
use Rattle.curve.specs.Layout.{count_at, x_at, y_at, points_from, points_at}
use Rattle.solar.specs.Roof.{Roof, roof_in}
use Rattle.lead.specs.Lead.{Function, led}
use Rattle.site.specs.declared.Head.{Head}
use Rattle.fields.specs.Fields.{unit_at, settings_at, phase_at, phases_in, volts_in}
use Rattle.stick.specs.Site.{places_from, places_of, having, roof_at, function_at}
use Rattle.chunks.proofs.SameLaws.{Same, same_from, be_within, be_deep, be_front, unit_same, settings_same, phase_same, inverter_same}
use Rattle.chunks.proofs.FieldChunks.{same_behind, past_shift}
use Rattle.layouts.specs.Written.{Connection}
use Rattle.layouts.specs.Layout.{Number, u8, field, joined, fleet_field, unit_numbers, unit_field, settings_field, connection_numbers, connections_field, inverter_field, curve_field, roof_fields, function_fields}
use Rattle.layouts.specs.Ranges.{Each, UnitFits}
use Rattle.layouts.specs.Holds.{link_at}
use Rattle.layouts.proofs.SayLaws.{ConnectionsFit, fleet_says, unit_says, settings_say, connections_say, inverter_says, curve_says, base_says}
use Rattle.layouts.proofs.FitLaws.{FleetFits, CurveFits, RoofFits, roof_fits, FunctionFits, Laid, fleet_laid, unit_laid, settings_laid, connections_laid, inverter_laid, curve_laid, base_laid}
use Rattle.layouts.proofs.FirstLaws.{read_all, Moves, first_past, read_first}
use Rattle.layouts.proofs.PassLaws.{roof_flat, function_flat, PassesFields, pass_curve}

-- ---- the readers
abbrev pub edition_of : List ℕ → ℕ → ℕ
edition_of F at = be 1 F (at + header)

abbrev pub seconds_of : List ℕ → ℕ → ℕ
seconds_of F at = be 4 F (at + header + 2)

abbrev pub settings_of : List ℕ → ℕ → Settings
settings_of F at = settings_at F (at + header)

abbrev pub phase_of : List ℕ → ℕ → ℕ
phase_of F at = phase_at F (at + header)

abbrev pub unit_by : ℕ → List ℕ → ℕ → Unit
unit_by e F at = unit_at e F (at + header)

abbrev pub link_by : ℕ → List ℕ → ℕ → ℕ
link_by i F at = link_of (phases_in F (at + header) i) (volts_in F (at + header) i)

-- the bytes of a value behind other bytes
value_behind : (a b : List ℕ) (i n : ℕ) → Same (a ++ b) b (length a + i + 3) (i + 3) n
value_behind a b i n = same_from (a ++ b) b (length a + i) i (3 + n) (same_behind a b i (3 + n)) 3 n (le_refl (3 + n))

edition_moves : Moves edition_of
edition_moves a b i = be_front (a ++ b) b (length a + i + 3) (i + 3) 1 (value_behind a b i 1) 1 (lit≤ tt)

seconds_move : Moves seconds_of
seconds_move a b i = be_within (a ++ b) b (length a + i + 3) (i + 3) 6 (value_behind a b i 6) 2 4 (lit≤ tt)

pub settings_move : Moves settings_of
settings_move a b i = settings_same (a ++ b) b (length a + i + 3) (i + 3) (value_behind a b i 12)

pub phase_moves : Moves phase_of
phase_moves a b i = phase_same (a ++ b) b (length a + i + 3) (i + 3) (value_behind a b i 12)

pub unit_moves : (e : ℕ) → Moves (unit_by e)
unit_moves e a b i = unit_same (a ++ b) b (length a + i + 3) (i + 3) e (value_behind a b i (cond (own_limits e) 57 49))

pub link_moves : (j : ℕ) → Moves (link_by j)
link_moves j a b i =
    let n = 3 * j + 3 in
    let same = value_behind a b i n in
    ap₂ link_of (be_within (a ++ b) b (length a + i + 3) (i + 3) n same (3 * j) 1 (omega arith)) (be_deep (a ++ b) b (length a + i + 3) (i + 3) n same (3 * j) 1 2 (omega arith))

-- points, however many are said
module _ (F G : List ℕ) (p q : ℕ) (same : (n : ℕ) → Same F G p q n) where
  from_any : (n i : ℕ) → points_from n i F p ≡ points_from n i G q
  unfolding points_from x_at y_at
  from_any zero i = refl
  from_any (suc n) i =
      let x = be_deep F G p q (1 + 8 * i + 4) (same (1 + 8 * i + 4)) 1 (8 * i) 4 (omega arith) in
      let y = be_deep F G p q (5 + 8 * i + 4) (same (5 + 8 * i + 4)) 5 (8 * i) 4 (omega arith) in
      let more = from_any n (suc i) in
      λ j. point (to_z w32 (x j)) (to_z w32 (y j)) ∷ more j

  points_any : points_at F p ≡ points_at G q
  unfolding points_at count_at
  points_any = from_any (be 1 F p) 0 ∙ ap (λ (n : ℕ). points_from n 0 G q) (be_front F G p q 1 (same 1) 1 (lit≤ tt))

points_move : (a b : List ℕ) (i : ℕ) → points_at (a ++ b) (length a + i + 3) ≡ points_at b (i + 3)
points_move a b i = points_any (a ++ b) b (length a + i + 3) (i + 3) (value_behind a b i)

pub roof_moves : Moves roof_at
unfolding roof_at
roof_moves a b i =
    let one = past_shift a b i in
    let two = ap (past (a ++ b)) one ∙ past_shift a b (past b i) in
    let inverter = inverter_same (a ++ b) b (length a + i + 3) (i + 3) (value_behind a b i 19) in
    let warm = ap (λ (n : ℕ). points_at (a ++ b) (n + header)) one ∙ points_move a b (past b i) in
    let efficiency = ap (λ (n : ℕ). points_at (a ++ b) (n + header)) two ∙ points_move a b (past b (past b i)) in
    λ j. record { inverter = inverter j; warm = warm j; efficiency = efficiency j }

pub function_moves : Moves function_at
unfolding function_at
function_moves a b i =
    let base = edition_moves a b i in
    let curve = ap (λ (n : ℕ). points_at (a ++ b) (n + header)) (past_shift a b i) ∙ points_move a b (past b i) in
    λ j. record { base = base j; curve = curve j }

-- ---- what is read of a part, whatever follows
abbrev pub Reads : {A : Type 0} → ℕ → (List ℕ → ℕ → A) → List ℕ → List A → Type 0
Reads k g a xs = (b : List ℕ) → read_all k g (a ++ b) ≡ xs ++ read_all k g b

pub read_none : {A : Type 0} (k : ℕ) (g : List ℕ → ℕ → A) → read_all k g [] ≡ []
unfolding read_all places_of places_from having
read_none k g = refl

-- of a field with another tag nothing
abbrev pub others : ℕ → ℕ → Bool
others k t = not (eqb t k)

module _ {A : Type 0} (k : ℕ) (g : List ℕ → ℕ → A) (m : Moves g) where
  pub passes_others : PassesFields (read_all k g) (others k)
  passes_others t ns l o b = read_first t ns l b k g m ∙ go (eqb t k) (g (field t ns ++ b) 0) (read_all k g b) o
    where
      go : (e : Bool) (x : A) (xs : List A) → not e ≡ true → cond e (x ∷ xs) xs ≡ xs
      go true x xs n = absurd (passed_failed n refl)
      go false x xs n = refl

  -- of one with the tag its value
  reads_field : (t : ℕ) (ns : List Number) → Laid t ns → eqb t k ≡ true → (x : A) → ((b : List ℕ) → g (field t ns ++ b) 0 ≡ x) → Reads k g (field t ns) (x ∷ [])
  reads_field t ns l e x h b =
      read_first t ns l b k g m
      ∙ ap (λ (c : Bool). cond c (g (field t ns ++ b) 0 ∷ read_all k g b) (read_all k g b)) e
      ∙ ap (λ (y : A). y ∷ read_all k g b) (h b)

  reads_joined : {X : Type 0} (P : X → Type 0) (lay : X → List ℕ) (h : X → A) → ((x : X) → P x → Reads k g (lay x) (h x ∷ []))
      → (l : List X) → Each P l → Reads k g (joined lay l) (map h l)
  unfolding joined
  reads_joined P lay h r [] e b = refl
  reads_joined P lay h r (x ∷ l) e b =
      ap (read_all k g) (append_assoc (lay x) (joined lay l) b)
      ∙ r x e.0 (joined lay l ++ b)
      ∙ ap (λ (xs : List A). h x ∷ xs) (reads_joined P lay h r l e.1 b)

-- ---- the parts
module _ (h : Head) (n : ℕ) (f : FleetFits h n) where
  pub reads_edition : Reads 0x01 edition_of (fleet_field h n) (h.edition ∷ [])
  unfolding fleet_field
  reads_edition = reads_field 0x01 edition_of edition_moves 0x01 _ (fleet_laid h.edition n h.seconds) refl h.edition (λ b. (fleet_says b h n f.edition f.count f.seconds).0)

  pub reads_seconds : Reads 0x01 seconds_of (fleet_field h n) (h.seconds ∷ [])
  unfolding fleet_field
  reads_seconds = reads_field 0x01 seconds_of seconds_move 0x01 _ (fleet_laid h.edition n h.seconds) refl h.seconds (λ b. (fleet_says b h n f.edition f.count f.seconds).1.1)

pub reads_units : (e : ℕ) (us : List Unit) → Each (UnitFits e) us → Reads 0x02 (unit_by e) (joined (unit_field e) us) (map (in_edition e) us)
unfolding unit_field
reads_units e =
    reads_joined 0x02 (unit_by e) (unit_moves e) (UnitFits e) (unit_field e) (in_edition e)
    (λ u f. reads_field 0x02 (unit_by e) (unit_moves e) 0x02 (unit_numbers e u) (unit_laid e u) refl (in_edition e u) (λ b. unit_says b e u f))

module _ (h : Head) (hs : settings_in h.settings ≡ true) (hp : h.phase ≤ 5) where
  pub reads_settings : Reads 0x03 settings_of (settings_field h) (h.settings ∷ [])
  unfolding settings_field
  reads_settings = reads_field 0x03 settings_of settings_move 0x03 _ (settings_laid _ _ _ _ _) refl h.settings (λ b. (settings_say b h hs hp).0)

  pub reads_phase : Reads 0x03 phase_of (settings_field h) (h.phase ∷ [])
  unfolding settings_field
  reads_phase = reads_field 0x03 phase_of phase_moves 0x03 _ (settings_laid _ _ _ _ _) refl h.phase (λ b. (settings_say b h hs hp).1)

-- of unit i its link, if there are connections
pub reads_link : (i : ℕ) (c : Connection) (cs : List Connection) → length (c ∷ cs) ≤ 64 → ConnectionsFit (c ∷ cs)
    → i < length (c ∷ cs) → Reads 0x0A (link_by i) (connections_field (c ∷ cs)) (link_at (c ∷ cs) i ∷ [])
unfolding connections_field
reads_link i c cs few e l =
    reads_field 0x0A (link_by i) (link_moves i) 0x0A (connection_numbers (c ∷ cs)) (connections_laid (c ∷ cs) few) refl (link_at (c ∷ cs) i)
    (λ b. let s = connections_say b c cs e i l in ap₂ link_of s.0 s.1)

-- a curve behind a field
curve_behind : (a : List ℕ) (ps : List Point) (b : List ℕ) {bounds : Bounds} → CurveFits bounds ps → points_at (a ++ (curve_field ps ++ b)) (length a + 0 + 3) ≡ ps
curve_behind a ps b f = points_move a (curve_field ps ++ b) 0 ∙ (curve_says b ps f.few f.each).0

curve_past : (ps : List Point) → length ps ≤ 16 → (b : List ℕ) → past (curve_field ps ++ b) 0 ≡ length (curve_field ps) + 0
unfolding curve_field
curve_past ps h b = first_past 0x07 _ (curve_laid ps h) b

module _ (r : Roof) (f : RoofFits r) (b : List ℕ) where
  roof_says : roof_at (inverter_field r.inverter ++ (curve_field r.warm ++ (curve_field r.efficiency ++ b))) 0 ≡ r
  unfolding roof_at inverter_field
  roof_says =
      let a = inverter_field r.inverter in
      let w = curve_field r.warm in
      let last = curve_field r.efficiency ++ b in
      let F = a ++ (w ++ last) in
      let one : past F 0 ≡ length a + 0 = first_past 0x06 _ (inverter_laid _ _ _ _ _ _ _) (w ++ last) in
      let two : past F (past F 0) ≡ length a + (length w + 0) = ap (past F) one ∙ past_shift a (w ++ last) 0 ∙ ap (λ (n : ℕ). length a + n) (curve_past r.warm f.warm.few last) in
      let inverter = inverter_says (w ++ last) r.inverter f.inverter in
      let warm = ap (λ (n : ℕ). points_at F (n + header)) one ∙ curve_behind a r.warm last f.warm in
      let efficiency = ap (λ (n : ℕ). points_at F (n + header)) two ∙ points_move a (w ++ last) (length w + 0) ∙ curve_behind w r.efficiency b f.efficiency in
      λ j. record { inverter = inverter j; warm = warm j; efficiency = efficiency j }

  reads_roof : read_all 0x06 roof_at (roof_fields r ++ b) ≡ r ∷ read_all 0x06 roof_at b
  unfolding inverter_field
  reads_roof =
      let w = curve_field r.warm in
      let e = curve_field r.efficiency in
      let passes = pass_curve (read_all 0x06 roof_at) (others 0x06) (passes_others 0x06 roof_at roof_moves) refl in
      ap (read_all 0x06 roof_at) (roof_flat r b)
      ∙ read_first 0x06 _ (inverter_laid _ _ _ _ _ _ _) (w ++ (e ++ b)) 0x06 roof_at roof_moves
      ∙ ap₂ ◌∷◌ roof_says (passes r.warm f.warm.few (e ++ b) ∙ passes r.efficiency f.efficiency.few b)

pub reads_roofs : (rs : List Roof) → Each (λ (r : Roof). roof_in r ≡ true) rs → Reads 0x06 roof_at (joined roof_fields rs) (map (λ (r : Roof). r) rs)
reads_roofs = reads_joined 0x06 roof_at roof_moves (λ (r : Roof). roof_in r ≡ true) roof_fields (λ (r : Roof). r) (λ r ok. reads_roof r (roof_fits r ok))

pub reads_function : (f : Function) → FunctionFits f → Reads 0x0B function_at (function_fields (led f)) (f ∷ [])
unfolding function_at
reads_function f h b =
    let a = field 0x0B (u8 f.base ∷ []) in
    let c = curve_field f.curve in
    let base = base_says (c ++ b) f.base h.base in
    let curve = ap (λ (n : ℕ). points_at (a ++ (c ++ b)) (n + header)) (first_past 0x0B _ (base_laid f.base) (c ++ b)) ∙ curve_behind a f.curve b h.curve in
    let says : function_at (a ++ (c ++ b)) 0 ≡ f = λ j. record { base = base j; curve = curve j } in
    ap (read_all 0x0B function_at) (function_flat f b)
    ∙ read_first 0x0B _ (base_laid f.base) (c ++ b) 0x0B function_at function_moves
    ∙ ap₂ ◌∷◌ says (pass_curve (read_all 0x0B function_at) (others 0x0B) (passes_others 0x0B function_at function_moves) refl f.curve h.curve.few b)
