-- What stands before each step of a run is in its ranges, so that what every unit and inverter is asked and gives in it fits its record. Assumes nothing.
use mathlib.Core.Path.{◌≡◌, refl, sym, ap, ◌∙◌}
use mathlib.Core.Bool.{Bool, true, false, cond}
use mathlib.Core.List.{List, [], ◌∷◌, map}
use Prim.Native.Nat.{ℕ, zero, suc, ◌≤◌, ◌<◌, zero-le}
use native.Mathlib.Nat.{le_trans, le_of_eq}
use lib.IntN.{ℤ, pos, nat_abs}
use lib.ListN.{length, get_or, replicate, length-replicate, get_or-map}
use Rattle.rows.proofs.RowLaws.{length_map}
use Rattle.reading.specs.declared.Reading.{Reading}
use Rattle.reading.specs.declared.Reading.TheVariants.{Missing}
use Rattle.unit.specs.declared.Unit.{Unit}
use Rattle.unit.specs.Ranges.{holding}
use Rattle.unit.proofs.RangeLaws.{bounds}
use Rattle.members.specs.Ranges.{fleet_for}
use Rattle.lead.specs.declared.Lead.{Lead}
use Rattle.lead.specs.Lead.{Modest}
use Rattle.solar.specs.Posts.{Shining}
use Rattle.parts.specs.Header.{tag_at}
use Rattle.fields.specs.Fields.{is_reading}
use Rattle.site.specs.declared.Due.{Due}
use Rattle.site.specs.declared.Step.{Step}
use Rattle.site.specs.Site.{Site, Plant, count, no_unit, unit_of, roof_of, none_yet, step_with}
use Rattle.site.specs.Ranges.{Sited, Roofed, Guided}
use Rattle.site.proofs.RangeLaws.{unit_ranged}
use Rattle.stick.specs.Site.{reading_at, due_after, steps_in, steps_from, steps_of, plant_of, places_from}
use Rattle.stick.specs.Check.{Accepted}
use Rattle.stick.proofs.SiteProved.{sited, roofed, leading_guided}
use Rattle.roofs.specs.Roofs.{lit}
use Rattle.roofs.specs.Posts.{VarsHeld}
use Rattle.roofs.proofs.VarsLaws.{own_held, after_held}
use Rattle.fleet.specs.Step.{Stands, at_first, asked_by, given, after}
use Rattle.fleet.specs.Posts.{Held}
use Rattle.fleet.proofs.SiteLaws.{held_ranged}
use Rattle.fleet.proofs.StepLaws.{asked_keeps, asked_length, still_held}
use Rattle.stretch.specs.Stretch.{stands_first, lead_in, next_of, stands_after}
use Rattle.stretch.proofs.FieldLaws.{dark_shines, after_shines}
use Rattle.results.proofs.FitLaws.{lead_modest, SmallAsked, pass_small, OutcomeFits, led_fits, GivenFits, lit_fits}

-- ---- a plant in its ranges, and what stands of it
pub record Sound (p : Plant) : Type 0 where
  pub sited : Sited p.site
  pub roofed : Roofed p.roofs
  pub guided : Guided p.leading

pub record Holds (p : Plant) (st : Stands) : Type 0 where
  pub held : Held p.site st.units.stored st.units.requests st.units.vars
  pub asked : SmallAsked st.units.requests
  pub roofs : VarsHeld (length p.roofs) st.vars

pub plant_sound : (file : List ℕ) → Accepted file → Sound (plant_of file)
unfolding plant_of
plant_sound file a = record { sited = sited file a; roofed = roofed file a; guided = leading_guided file a }

-- ---- at first
zeros : (n i : ℕ) → nat_abs (get_or (replicate n (pos 0)) i (pos 0)) ≤ 100000000
zeros zero i = zero-le
zeros (suc n) zero = zero-le
zeros (suc n) (suc i) = zeros n i

at_first_lem : (site : Site) → Sited site → Held site (at_first site.units).stored (at_first site.units).requests (at_first site.units).vars
unfolding at_first
at_first_lem site h =
    let units = site.units in
    record {
      stores = length_map (λ (u : Unit). u.stored) units;
      asks = length-replicate (length units) (pos 0);
      leads = length_map (λ (u : Unit). u.var_request) units;
      within = λ i l. le_trans (le_of_eq (get_or-map (λ (u : Unit). u.stored) units i no_unit)) (bounds (unit_ranged site h i l)).stored_most;
      small = λ i l. le_trans (le_of_eq (ap nat_abs (get_or-map (λ (u : Unit). u.var_request) units i no_unit))) (bounds (unit_ranged site h i l)).vars_most;
    }

none_asked : (units : List Unit) → SmallAsked (at_first units).requests
unfolding at_first
none_asked units i l = zeros (length units) i

pub first_holds : (p : Plant) → Sound p → Holds p (stands_first p)
unfolding stands_first
first_holds p h = record {
  held = at_first_lem p.site h.sited;
  asked = none_asked p.site.units;
  roofs = own_held p.roofs (length p.roofs) h.roofed.each refl;
}

-- ---- a step
ratings : (site : Site) → Sited site → (i : ℕ) → i < count site → get_or (map (λ (u : Unit). u.rating) site.units) i 0 ≤ 100000000
ratings site h i l = le_trans (le_of_eq (get_or-map (λ (u : Unit). u.rating) site.units i no_unit)) (bounds (unit_ranged site h i l)).rating_most

pub asked_small : (site : Site) (stored : List ℕ) (rs : List ℤ) (r : Reading) → Sited site → length rs ≡ count site → SmallAsked rs → SmallAsked (asked_by site stored rs r)
asked_small site stored rs r h e small =
    asked_keeps SmallAsked site stored rs small
    (λ m. pass_small site.head.settings m (fleet_for site.units stored) rs (λ i l. ratings site h i (le_trans l (le_of_eq e))) small) r

pub step_modest : (p : Plant) → Guided p.leading → (s : Step) → Modest (lead_in p s)
unfolding lead_in
step_modest p g s = lead_modest p.leading g s.voltage

module _ (p : Plant) (h : Sound p) (st : Stands) (y : Holds p st) (s : Step) where
  abbrev asks : List ℤ
  asks = asked_by p.site st.units.stored st.units.requests s.reading

  abbrev leads : Lead
  leads = lead_in p s

  next_held : Held p.site (after p.site leads st.units s.reading).stored (after p.site leads st.units s.reading).requests (after p.site leads st.units s.reading).vars
  unfolding after
  next_held =
      still_held p.site leads st.units.stored st.units.requests st.units.vars asks h.sited (step_modest p h.guided s) y.held
      (asked_length p.site st.units.stored st.units.requests s.reading)

  now_small : SmallAsked asks
  now_small = asked_small p.site st.units.stored st.units.requests s.reading h.sited y.held.asks y.asked

  next_asked : SmallAsked (after p.site leads st.units s.reading).requests
  unfolding after
  next_asked = now_small

  next_holds : Holds p (next_of p st s)
  unfolding next_of
  next_holds = record {
    held = next_held;
    asked = next_asked;
    roofs = after_held p.roofs (length p.roofs) h.roofed.each leads (step_modest p h.guided s) s.sun st.on st.vars y.roofs;
  }

  -- what each unit is asked, and gives
  pub request_small : (i : ℕ) → i < count p.site → nat_abs (get_or asks i (pos 0)) ≤ 100000000
  request_small i l = now_small i (le_trans l (le_of_eq (sym (asked_length p.site st.units.stored st.units.requests s.reading ∙ y.held.asks))))

  pub outcome_fits : (i : ℕ) → i < count p.site → OutcomeFits (given p.site leads i (get_or st.units.stored i 0) (get_or asks i (pos 0)) (get_or st.units.vars i (pos 0)))
  unfolding given
  outcome_fits i l =
      led_fits leads (holding (unit_of p.site i) (get_or st.units.stored i 0)) (get_or st.units.vars i (pos 0)) p.site.head.seconds (get_or asks i (pos 0))
      (held_ranged p.site h.sited i (get_or st.units.stored i 0) l (y.held.within i l)) (record { modest = step_modest p h.guided s; last_small = y.held.small i l })

  -- and each inverter
  pub given_fits : Shining s.sun → (i : ℕ) → i < length p.roofs → GivenFits (lit p.roofs leads s.sun i (get_or st.on i false) (get_or st.vars i (pos 0)))
  unfolding lit
  given_fits sh i l =
      lit_fits leads (roof_of p.roofs i) (get_or st.vars i (pos 0)) (get_or st.on i false) s.sun (h.roofed.each i l)
      (record { modest = step_modest p h.guided s; last_small = y.roofs.small i l }) sh

-- ---- after any steps
pub after_holds : (p : Plant) → Sound p → (st : Stands) → Holds p st → (ss : List Step) → Holds p (stands_after p st ss)
unfolding stands_after
after_holds p h st y [] = y
after_holds p h st y (s ∷ ss) = after_holds p h (next_of p st s) (next_holds p h st y s) ss

-- ---- every step's sun is in its range
abbrev no_step : Step
no_step = step_with Missing none_yet

shine : (file : List ℕ) (ats : List ℕ) (d : Due) → Shining d.sun → (k : ℕ) → Shining (get_or (steps_in file d ats) k no_step).sun
unfolding steps_in
shine file [] d h k = dark_shines
shine file (at ∷ ats) d h k = go (is_reading (tag_at file at)) (λ j. shine file ats (due_after file d at) (after_shines file d at h) j) k
  where
    more : List Step
    more = steps_in file (due_after file d at) ats

    go : (a : Bool) → ((j : ℕ) → Shining (get_or more j no_step).sun) → (k : ℕ) → Shining (get_or (cond a (step_with (reading_at file at) d ∷ more) more) k no_step).sun
    go true rest zero = h
    go true rest (suc k) = rest k
    go false rest k = rest k

pub sun_shines : (file : List ℕ) (k : ℕ) → Shining (get_or (steps_of file) k no_step).sun
unfolding steps_of steps_from
sun_shines file k = shine file (places_from (length file) file 0) none_yet dark_shines k
