-- The fields before the roofs are taken where they are laid: the fleet, each unit while units are to come, the settings, and the connections. Assumes nothing.
use mathlib.Core.Path.{◌≡◌, refl, sym, ap, ap₂, ◌∙◌}
use mathlib.Core.Bool.{Bool, true, false, not, cond, ◌&&◌}
use mathlib.Core.List.{List, [], ◌∷◌, ◌++◌}
use mathlib.Core.Logic.{inl, inr}
use Prim.Native.Nat.{ℕ, suc, ◌-◌, ◌*◌, ◌≤◌, ◌<◌}
use native.Mathlib.Omega.{arith}
use lib.Dec.{leb}
use lib.ListN.{length}
use borrow.Author.Tests.{le-leb, lt-leb}
use Rattle.whole.specs.Interval.{between}
use Rattle.unit.specs.declared.Unit.{Unit}
use Rattle.unit.specs.Ranges.{unit_in, edition_in, seconds_in, connection_in}
use Rattle.rules.specs.declared.Settings.{Settings}
use Rattle.rules.specs.Ranges.{settings_in}
use Rattle.rules.specs.Rules.{by_current}
use Rattle.site.specs.declared.Head.{Head}
use Rattle.fields.specs.declared.State.{State}
use Rattle.fields.specs.Fields.{at_units, at_settings, at_inverters, at_connections, opens, kinds, size_in, size_of, stands_in, allowed, fleet_in, settings_at, phases_in, volts_in, connections_in, five_unless, value_of, flags, state_of, roof_after, state_after}
use Rattle.stick.specs.Check.{start}
use Rattle.layouts.specs.Written.{Connection}
use Rattle.layouts.specs.Layout.{size, joined, fleet_field, unit_numbers, unit_field, settings_field, connection_numbers, connections_field}
use Rattle.layouts.specs.Ranges.{Each, UnitFits, Connected}
use Rattle.layouts.proofs.SayLaws.{unit_size_lem, ConnectionsFit, connections_size_lem, all_true, fleet_says, unit_says, settings_say, connections_say}
use Rattle.layouts.proofs.FitLaws.{each_at, fleet_fits, fleet_laid, unit_laid, settings_laid, connections_laid}
use Rattle.layouts.proofs.WalkLaws.{Walks, walks_none, walks_append, walks_field, Stands}

-- ---- the fleet
abbrev silent : ℕ → ℕ → ℕ → ℕ → State
silent stage edition units left = state_of stage edition units left 0 (flags false false)

pub fleet_walks : (h : Head) (n : ℕ) → edition_in h.edition ≡ true → between 1 64 n ≡ true → seconds_in h.seconds ≡ true
    → Walks start (fleet_field h n) (state_of at_units h.edition n n 0 (flags false false))
unfolding fleet_field kinds size_in size_of size stands_in allowed fleet_in value_of state_after
fleet_walks h n he hn hs =
    let f = fleet_fits h n he hn hs in
    let says = fleet_says [] h n f.edition f.count f.seconds in
    let ok = ap₂ ◌&&◌ (ap₂ ◌&&◌ (ap edition_in says.0 ∙ he) (ap (between 1 64) says.1.0 ∙ hn)) (ap seconds_in says.1.1 ∙ hs) in
    walks_field start 1 _ (fleet_laid h.edition n h.seconds) refl refl refl refl (ap five_unless ok)
    (silent at_units h.edition n n) (ap₂ (λ (e k : ℕ). silent at_units e k k) says.0 says.1.0)

-- ---- a unit, of those to come, and all of them
unit_walks : (e n left : ℕ) (u : Unit) → UnitFits e u → (m : State)
    → cond (leb left 1) (silent at_settings e n 0) (silent at_units e n (left - 1)) ≡ m → Walks (silent at_units e n left) (unit_field e u) m
unfolding unit_field kinds size_in size_of stands_in allowed value_of state_after
unit_walks e n left u f m next =
    walks_field (silent at_units e n left) 2 (unit_numbers e u) (unit_laid e u) (sym (unit_size_lem e u)) refl refl refl
    (ap (λ (v : Unit). five_unless (unit_in v)) (unit_says [] e u f) ∙ ap five_unless f.inside) m next

pub units_walk : (e n : ℕ) (u : Unit) (us : List Unit) → Each (UnitFits e) (u ∷ us)
    → Walks (state_of at_units e n (length (u ∷ us)) 0 (flags false false)) (joined (unit_field e) (u ∷ us)) (state_of at_settings e n 0 0 (flags false false))
unfolding joined
units_walk e n u [] f = walks_append (unit_walks e n 1 u f.0 (silent at_settings e n 0) refl) walks_none
units_walk e n u (v ∷ vs) f =
    let k = length vs in
    let more : leb (suc (suc k)) 1 ≡ false = lt-leb (suc (suc k)) 1 (omega arith) in
    let less : suc (suc k) - 1 ≡ suc k = omega arith in
    let next = ap₂ (λ (t : Bool) (j : ℕ). cond t (silent at_settings e n 0) (silent at_units e n j)) more less in
    walks_append (unit_walks e n (suc (suc k)) u f.0 (silent at_units e n (suc k)) next) (units_walk e n v vs f.1)

-- ---- the settings
pub settings_walk : (e n : ℕ) (h : Head) → settings_in h.settings ≡ true → h.phase ≤ 5
    → Walks (state_of at_settings e n 0 0 (flags false false)) (settings_field h) (state_of at_connections e n 64 0 (flags (by_current h.settings.mode) false))
unfolding settings_field kinds size_in size_of size stands_in allowed value_of state_after settings_at
settings_walk e n h ok phase =
    let s = h.settings in
    let says = settings_say [] h ok phase in
    let mode = ap (λ (t : Settings). t.mode) says.0 in
    let value = ap₂ ◌&&◌ (ap settings_in says.0 ∙ ok) (ap (λ (p : ℕ). leb p 5) says.1 ∙ le-leb h.phase 5 phase) in
    walks_field (silent at_settings e n 0) 3 _ (settings_laid _ _ _ _ _) refl refl refl refl
    (ap five_unless value) (state_of at_connections e n 64 0 (flags (by_current s.mode) false))
    (ap (λ (k : ℕ). state_of at_connections e n 64 0 (flags (by_current k) false)) mode)

-- ---- the connections, or none
abbrev waits : ℕ → ℕ → ℕ → Bool → State
waits stage e n amps = state_of stage e n 64 0 (flags amps false)

some_connections_walk : (e n : ℕ) (amps : Bool) (c : Connection) (cs : List Connection) → n ≤ 64 → length (c ∷ cs) ≡ n → ConnectionsFit (c ∷ cs)
    → Walks (waits at_connections e n amps) (connections_field (c ∷ cs)) (waits at_inverters e n amps)
unfolding connections_field kinds size_in size_of stands_in allowed connections_in value_of roof_after state_after
some_connections_walk e n amps c cs few count f =
    let F = connections_field (c ∷ cs) ++ [] in
    let all = c ∷ cs in
    let long : 3 * n ≡ size (connection_numbers all) = omega (arith, connections_size_lem all) in
    let ok : (i : ℕ) → i < n → connection_in (phases_in F 3 i) (volts_in F 3 i) ≡ true = λ i l.
    let said = connections_say [] c cs f i (omega arith) in
    ap₂ connection_in said.0 said.1 ∙ each_at _ (record { phases = 0; volts = 0 }) all f i (omega arith) in
    walks_field (waits at_connections e n amps) 10 (connection_numbers all) (connections_laid all (omega arith)) long refl refl refl
    (ap five_unless (all_true n (λ (i : ℕ). connection_in (phases_in F 3 i) (volts_in F 3 i)) ok)) (waits at_inverters e n amps) refl

pub connections_walk : (e n : ℕ) (amps : Bool) (cs : List Connection) → 1 ≤ n → n ≤ 64 → Connected amps n cs
    → (m : State) × (Walks (state_of at_connections e n 64 0 (flags amps false)) (connections_field cs) m × (Stands opens amps false 0 m × (m.left ≡ 64)))
unfolding connections_field
connections_walk e n amps [] some few (inl f) =
    (waits at_connections e n amps, (walks_none, (record { passes = ap not f.1; awake = refl; current = refl; led = refl; steps = refl }, refl)))
connections_walk e n amps [] some few (inr f) = absurd (omega arith)
connections_walk e n amps (c ∷ cs) some few (inl f) = absurd (omega (arith, ap length f.0))
connections_walk e n amps (c ∷ cs) some few (inr f) =
    (waits at_inverters e n amps, (some_connections_walk e n amps c cs few f.0 f.1, (record { passes = refl; awake = refl; current = refl; led = refl; steps = refl }, refl)))
