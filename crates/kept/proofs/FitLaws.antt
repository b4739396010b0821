-- The tests of a state's parts, each as its definition has it. Assumes nothing.
use mathlib.Core.Path.{◌≡◌, sym, ap, ap₂, ◌∙◌}
use mathlib.Core.Bool.{Bool, true, false, cond, ◌&&◌, ◌||◌}
use mathlib.Core.List.{List}
use Prim.Native.Nat.{ℕ, ◌+◌, ◌-◌, ◌*◌, ◌≤◌}
use native.Mathlib.Omega.{arith}
use lib.Dec.{leb, eqb}
use lib.IntN.{ℤ, pos, nat_abs}
use lib.ListN.{length, get_or}
use borrow.Author.Tests.{eq-eqb, ne_eqb}
use Rattle.whole.specs.Interval.{between}
use Rattle.solar.specs.declared.Sun.{Sun}
use Rattle.unit.specs.declared.Unit.{Unit}
use Rattle.site.specs.Site.{Site, unit_of}
use Rattle.fields.specs.declared.State.{State}
use Rattle.fields.specs.Fields.{at_end, at_reading, at_voltage, head_of}
use Rattle.stick.specs.declared.Reached.{Reached}
use Rattle.kept.specs.Kept.{begun_at}
use Rattle.kept.specs.Layout.{tail_place, held_place, flag_place, vars_place, site_place, state_size, place_most, number_in, place_in, steps_kept, site_bytes, tail_bytes}
use Rattle.kept.specs.Formed.{clear, site_fits, beside, place_fits, sun_fits, volt_fits, tail_fits, unit_fits, rest_clear, stopped}

-- ---- a value chosen by a test
pub pick_true : {X : Type 0} (b : Bool) (x y v : X) → b ≡ true → v ≡ x → v ≡ cond b x y
pick_true {X} b x y v e h = h ∙ sym (ap (λ (c : Bool). cond {A = X} c x y) e)

pub pick_false : {X : Type 0} (b : Bool) (x y v : X) → b ≡ false → v ≡ y → v ≡ cond b x y
pick_false {X} b x y v e h = h ∙ sym (ap (λ (c : Bool). cond {A = X} c x y) e)

pub most : (b : Bool) (x n : ℕ) → n ≡ cond b x 0 → n ≤ x
most true x n e = omega arith
most false x n e = omega arith

-- ---- site part, place, sun, voltage and tail
pub site_fits_is : (r : Reached) (stage steps : ℕ) (fits : Bool)
    → fits ≡ cond (begun_at stage) (eqb r.state.stage at_end) (eqb r.state.stage stage && eqb steps 0)
    → (eqb r.number 0 && eqb r.state.steps 0 && fits) ≡ site_fits r stage steps
unfolding site_fits
site_fits_is r stage steps fits e = ap (λ (b : Bool). eqb r.number 0 && eqb r.state.steps 0 && b) e

module _ (stage site tail close head weather voltage end before : ℕ) (a : close ≡ cond (begun_at stage) 7 0) (b : head ≡ site - close)
    (d : weather ≡ cond (eqb stage at_reading) 19 0) (f : voltage ≡ cond (eqb stage at_voltage) 5 0) (e : end ≡ cond (eqb stage at_end) 7 0)
    (g : before ≡ cond (eqb stage at_voltage) 19 0) where
  beside_is : head + weather + voltage + end + tail ≡ beside stage site tail
  unfolding beside
  beside_is = rw (b, a, d, f, e)

  pub place_is : (place steps : ℕ)
      → (leb (head + weather + voltage + end + tail + 3 * steps) place && leb place (head + weather + voltage + end + tail + 51 * steps + before))
      ≡ place_fits place stage steps site tail
  unfolding place_fits
  place_is place steps = ap₂ (λ (n m : ℕ). leb (n + 3 * steps) place && leb place (n + 51 * steps + m)) beside_is g

pub sun_lit : (stage : ℕ) (s : Sun) (n : ℕ) → (eqb stage at_reading || eqb stage at_voltage) ≡ true → n ≡ nat_abs s.temperature
    → (leb s.irradiance 100000000 && leb n 100000000) ≡ sun_fits stage s
unfolding sun_fits
sun_lit stage s n e h = rw (e, h)

pub sun_none : (stage : ℕ) (s : Sun) (n : ℕ) → (eqb stage at_reading || eqb stage at_voltage) ≡ false → n ≡ nat_abs s.temperature
    → (eqb s.irradiance 0 && eqb n 0) ≡ sun_fits stage s
unfolding sun_fits
sun_none stage s n e h = rw (e, h)

pub volt_said : (stage volts : ℕ) → stage ≡ at_voltage → leb volts 20000 ≡ volt_fits stage volts
unfolding volt_fits
volt_said stage volts e = rw (eq-eqb stage at_voltage e)

pub volt_none : (stage volts : ℕ) → (stage ≡ at_voltage → ⊥) → eqb volts 0 ≡ volt_fits stage volts
unfolding volt_fits
volt_none stage volts e = rw (ne_eqb stage at_voltage e)

pub tail_none : (st : State) (tail : List ℕ) → length tail ≡ 0 → true ≡ tail_fits st tail
unfolding tail_fits
tail_none st tail e = rw (eq-eqb (length tail) 0 e)

pub tail_over : (st : State) (tail : List ℕ) → (length tail ≡ 0 → ⊥) → st.stage ≡ at_end → false ≡ tail_fits st tail
unfolding tail_fits
tail_over st tail n e = rw (ne_eqb (length tail) 0 n, eq-eqb st.stage at_end e)

pub tail_head : (st : State) (tail : List ℕ) (n : ℕ) → (length tail ≡ 0 → ⊥) → (st.stage ≡ at_end → ⊥) → n ≡ head_of st tail 0 → eqb n 1 ≡ tail_fits st tail
unfolding tail_fits
tail_head st tail n a b e = rw (ne_eqb (length tail) 0 a, ne_eqb st.stage at_end b, e)

-- ---- what stands
pub unit_fits_is : (site : Site) (stored : List ℕ) (rs : List ℤ) (i : ℕ) (u : Unit) (n : ℕ) → u ≡ unit_of site i → n ≡ nat_abs (get_or rs i (pos 0))
    → (leb (get_or stored i 0) u.rated && leb n u.rating) ≡ unit_fits site stored rs i
unfolding unit_fits
unit_fits_is site stored rs i u n e h = ap₂ (λ (v : Unit) (m : ℕ). leb (get_or stored i 0) v.rated && leb m v.rating) e h

-- ---- what is not in use
pub rest_is : (s : List ℕ) (units roofs n t : ℕ) (a b d v e : Bool) → n ≡ site_bytes s → t ≡ tail_bytes s
    → a ≡ clear s (tail_place + t) held_place → b ≡ clear s (held_place + 12 * units) flag_place → d ≡ clear s (flag_place + roofs) vars_place
    → v ≡ clear s (vars_place + 4 * (units + roofs)) site_place → e ≡ clear s (site_place + n) state_size → (a && b && d && v && e) ≡ rest_clear s units roofs
unfolding rest_clear
rest_is s units roofs n t a b d v e p q f g h j i = rw (f, g, h, j, i, p, q)

-- ---- a run that is over
abbrev over_by : ℕ → ℕ → ℕ → Bool → Bool
over_by n place steps b = (between 1 9 n || eqb n 12) && leb steps 65535 && leb place (place_most + 51 * steps) && b

pub stopped_is : (s : List ℕ) (n place steps : ℕ) (b : Bool) → n ≡ number_in s → place ≡ place_in s → steps ≡ steps_kept s → b ≡ clear s 13 state_size → over_by n place steps b ≡ stopped s
unfolding stopped
stopped_is s n place steps b e f g h =
    ap (λ (x : ℕ). over_by x place steps b) e
    ∙ ap (λ (x : ℕ). over_by (number_in s) x steps b) f
    ∙ ap (λ (x : ℕ). over_by (number_in s) (place_in s) x b) g
    ∙ ap (over_by (number_in s) (place_in s) (steps_kept s)) h
