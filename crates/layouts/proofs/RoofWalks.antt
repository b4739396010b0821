-- The roofs and the function are taken where they are laid: an inverter with its two curves, each roof while roofs may come, and a function with its curve. Assumes nothing.
use mathlib.Core.Path.{◌≡◌, refl, sym, ap, ap₂, ◌∙◌}
use mathlib.Core.Bool.{Bool, true, false, ◌&&◌, ◌||◌}
use mathlib.Core.List.{List, [], ◌∷◌}
use Prim.Native.Nat.{◌-◌, ◌≤◌}
use native.Mathlib.Omega.{arith}
use lib.Dec.{eqb}
use lib.ListN.{length}
use borrow.Author.Tests.{le-leb}
use Rattle.curve.specs.Curve.{Point}
use Rattle.curve.specs.Layout.{curve_in}
use Rattle.curve.specs.Ranges.{points_in}
use Rattle.solar.specs.declared.Inverter.{Inverter}
use Rattle.solar.specs.Roof.{Roof, inverter_in, roof_in}
use Rattle.lead.specs.Lead.{Leading, unled, led}
use Rattle.site.specs.Ranges.{Guided}
use Rattle.fields.specs.declared.State.{State}
use Rattle.fields.specs.Fields.{at_inverters, at_temperature, at_efficiency, at_led, opens, begins, curved, kinds, size_in, size_of, stands_in, allowed, bounds_at, base_in, five_unless, value_of, gone_to, curve_next, led_from, roof_after, state_after}
use Rattle.layouts.specs.Layout.{size, joined, inverter_field, curve_field, roof_fields, function_fields}
use Rattle.layouts.specs.Ranges.{Each}
use Rattle.layouts.proofs.SayLaws.{curve_size, inverter_says, curve_says, base_says}
use Rattle.layouts.proofs.FitLaws.{CurveFits, roof_fits, function_fits, inverter_laid, curve_laid, base_laid}
use Rattle.layouts.proofs.WalkLaws.{Walks, walks_none, walks_append, walks_field, leads, Stands, stands_as, stands_gone}

-- ---- a curve, by the bounds of the stage
curve_walks : (st : State) (ps : List Point) → CurveFits (bounds_at st.stage) ps → eqb st.stage 0 ≡ false → curved st ≡ true
    → Walks st (curve_field ps) (gone_to st (curve_next st.stage) st.left st.steps)
unfolding curve_field kinds size_in size_of stands_in allowed curve_in value_of roof_after state_after
curve_walks st ps f awake stands =
    let says = curve_says [] ps f.few f.each in
    let value = ap₂ ◌&&◌ (ap (points_in (bounds_at st.stage)) says.0 ∙ f.inside) says.1 in
    walks_field st 7 _ (curve_laid ps f.few) (sym (curve_size ps f.few)) awake stands refl (ap five_unless value)
    (gone_to st (curve_next st.stage) st.left st.steps) refl

-- ---- a roof, while one may come, and all of them
module _ (st : State) (free : opens st ≡ true) (awake : eqb st.stage 0 ≡ false) where
  inverter_walks : (v : Inverter) → 1 ≤ st.left → inverter_in v ≡ true → Walks st (inverter_field v) (gone_to st at_temperature (st.left - 1) st.steps)
  unfolding inverter_field kinds size_in size_of size stands_in allowed value_of roof_after state_after
  inverter_walks v left ok =
      walks_field st 6 _ (inverter_laid _ _ _ _ _ _ _) refl awake (ap₂ ◌&&◌ free (le-leb 1 st.left left)) refl
      (ap five_unless (ap inverter_in (inverter_says [] v ok) ∙ ok)) (gone_to st at_temperature (st.left - 1) st.steps) refl

  roof_walks : (r : Roof) → 1 ≤ st.left → roof_in r ≡ true → Walks st (roof_fields r) (gone_to st at_inverters (st.left - 1) st.steps)
  unfolding roof_fields
  roof_walks r left ok =
      let f = roof_fits r ok in
      walks_append (inverter_walks r.inverter left f.inverter)
      (walks_append (curve_walks (gone_to st at_temperature (st.left - 1) st.steps) r.warm f.warm refl refl)
      (curve_walks (gone_to st at_efficiency (st.left - 1) st.steps) r.efficiency f.efficiency refl refl))

pub roofs_walk : (amps : Bool) (rs : List Roof) (st : State) → Stands opens amps false 0 st → length rs ≤ st.left → Each (λ (r : Roof). roof_in r ≡ true) rs
    → (m : State) × (Walks st (joined roof_fields rs) m × Stands opens amps false 0 m)
unfolding joined
roofs_walk amps [] st s few f = (st, (walks_none, s))
roofs_walk amps (r ∷ rs) st s few f =
    let next = gone_to st at_inverters (st.left - 1) st.steps in
    let (m, (walks, stands)) = roofs_walk amps rs next (stands_gone at_inverters (st.left - 1) refl refl s) (omega arith) f.1 in
    (m, (walks_append (roof_walks st s.passes s.awake r (omega arith) f.0) walks, stands))

-- ---- the function, or none
any : (a c : Bool) → (a || true || c) ≡ true
any true c = refl
any false c = refl

opens_begins : (st : State) → opens st ≡ true → begins st ≡ true
opens_begins st o = ap (λ (b : Bool). eqb st.stage 4 || b || eqb st.stage 12) o ∙ any (eqb st.stage 4) (eqb st.stage 12)

pub function_walks : (amps : Bool) (l : Leading) (st : State) → Stands opens amps false 0 st → Guided l
    → (m : State) × (Walks st (function_fields l) m × Stands begins amps (leads l) 0 m)
unfolding function_fields kinds size_in size_of size stands_in allowed value_of roof_after state_after
function_walks amps unled st s g =
    (st, (walks_none, stands_as (opens_begins st s.passes) s))
function_walks amps (led f) st s g =
    let fits = function_fits f g in
    let first = walks_field st 11 _ (base_laid f.base) refl s.awake s.passes refl
    (ap five_unless (ap base_in (base_says [] f.base fits.base) ∙ fits.inside)) (led_from st) refl in
    let next = led_from st in (
      gone_to next at_led next.left next.steps,
      (
        walks_append first (curve_walks next f.curve fits.curve refl refl),
        record { passes = refl; awake = refl; current = s.current; led = refl; steps = s.steps },
      ),
    )
