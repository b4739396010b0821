-- What stands after steps of a plant in its ranges: a store, a request and vars for each unit, no store above rated, no request beyond its rating, not requests
-- of both signs, a flag and vars for each inverter, and no vars beyond their bounds. Assumes nothing.
use mathlib.Core.Path.{◌≡◌, refl, ap, ap₂, ◌∙◌, subst, subst⁻¹}
use mathlib.Core.Bool.{Bool, true, false, not, cond, ◌&&◌}
use mathlib.Core.List.{List, [], ◌∷◌, ◌++◌}
use Prim.Native.Nat.{ℕ, zero, suc, ◌+◌, ◌≤◌, ◌<◌, min}
use native.Mathlib.Nat.{le_refl, le_step}
use native.Mathlib.Omega.{arith}
use lib.Dec.{leb}
use lib.IntN.{ℤ, pos, nat_abs, ◌+ℤ◌}
use lib.ListN.{length, get_or, replicate, length-append, length-replicate, get_or-append, get_or-map}
use lib.Seq.{get_or-append-add}
use lib.Signed.{lt_z}
use borrow.Author.Tests.{leb-true, le-leb}
use Rattle.whole.specs.Over.{all_of, each}
use Rattle.whole.specs.Signed.{negative}
use Rattle.whole.proofs.Choice.{by_test, passed_failed}
use Rattle.whole.proofs.OverLaws.{and_parts, all_at, none_of, each_at}
use Rattle.whole.proofs.SignLaws.{size_signed}
use Rattle.reading.specs.declared.Reading.{Reading}
use Rattle.unit.specs.declared.Unit.{Unit}
use Rattle.unit.proofs.RangeLaws.{Bounds, bounds}
use Rattle.rows.proofs.RowLaws.{length_map}
use Rattle.lead.specs.Lead.{Leading, unled, led, lead_of, Modest}
use Rattle.lead.proofs.FunctionLaws.{curve_small}
use Rattle.rules.specs.declared.Settings.{Settings}
use Rattle.members.specs.Ranges.{Fleet, fleet_for, some_above, some_below}
use Rattle.controller.specs.OneSign.{OneSign}
use Rattle.members.specs.Sums.{total, unable_at}
use Rattle.rules.specs.Rules.{charges, share_of, with_mode, unit_after, limited}
use Rattle.controller.specs.Pass.{own_need, own_band, rests, spent, all_in_band, request_after, pass_by, pass_of}
use Rattle.controller.proofs.OneSign.{one_sign_lem}
use Rattle.site.specs.declared.Step.{Step}
use Rattle.site.specs.Site.{Site, Plant, no_unit, count, unit_of}
use Rattle.site.specs.Ranges.{Sited, Roofed, Guided}
use Rattle.site.proofs.RangeLaws.{unit_ranged}
use Rattle.stick.specs.Site.{site_of, plant_of}
use Rattle.stick.specs.Check.{Accepted}
use Rattle.stick.proofs.SiteProved.{sited, roofed, leading_guided}
use Rattle.roofs.specs.Posts.{VarsHeld}
use Rattle.roofs.proofs.VarsLaws.{own_held, after_held}
use Rattle.fleet.specs.Step.{Stands, at_first, asked_by, after}
use Rattle.fleet.specs.Posts.{Held}
use Rattle.fleet.proofs.StepLaws.{asked_keeps, asked_length, still_held}
use Rattle.stretch.specs.Stretch.{stands_first, lead_in, next_of, stands_after}
use Rattle.stretch.proofs.AppendLaws.{ons_length}
use Rattle.kept.specs.Kept.{Kept, begun}
use Rattle.kept.specs.Layout.{all_vars}
use Rattle.kept.specs.Formed.{unit_fits, held_fits}
use Rattle.kept.specs.Posts.{WellKept}
use Rattle.std.proofs.Common.{None, Option, Some}

-- ---- small laws: a test that passes for each, and no request of any unit
all_of_lem : (n : ℕ) (ok : ℕ → Bool) → ((i : ℕ) → i < n → ok i ≡ true) → all_of n ok ≡ true
unfolding all_of
all_of_lem zero ok h = refl
all_of_lem (suc n) ok h = ap₂ ◌&&◌ (all_of_lem n ok (λ i l. h i (le_step l))) (h n (le_refl (suc n)))

zero_at : (n i : ℕ) → get_or (replicate n (pos 0)) i (pos 0) ≡ pos 0
zero_at zero i = refl
zero_at (suc n) zero = refl
zero_at (suc n) (suc i) = zero_at n i

-- numbers that are small in two lists are so in both, one behind the other, and back
abbrev Small : List ℤ → Type 0
Small vs = (i : ℕ) → i < length vs → nat_abs (get_or vs i (pos 0)) ≤ 100000000

both_small : (a b : List ℤ) → Small a → Small b → Small (a ++ b)
both_small [] b ha hb i l = hb i l
both_small (x ∷ a) b ha hb zero l = ha 0 (omega arith)
both_small (x ∷ a) b ha hb (suc i) l = both_small a b (λ j m. ha (suc j) (omega arith)) hb i (omega arith)

module _ (a b : List ℤ) (h : Small (a ++ b)) where
  first_small : Small a
  first_small i l =
      let n = length-append a b in
      subst (λ (z : ℤ). nat_abs z ≤ 100000000) (get_or-append a b (pos 0) i l) (h i (omega arith))

  second_small : Small b
  second_small i l =
      let n = length-append a b in
      subst (λ (z : ℤ). nat_abs z ≤ 100000000) (get_or-append-add a b i (pos 0)) (h (length a + i) (omega arith))

-- ---- what leads a step has a curve's value of at most one either way
pub lead_modest : (l : Leading) (v : Option ℕ) → Guided l → Modest (lead_of l v)
unfolding lead_of
lead_modest unled v g = record { y_small = omega arith }
lead_modest (led f) None g = record { y_small = omega arith }
lead_modest (led f) (Some x) g = record { y_small = curve_small f g (pos x) }

-- ---- requests within their ratings
abbrev pub Rated : Site → List ℤ → Type 0
Rated site rs = (i : ℕ) → i < count site → nat_abs (get_or rs i (pos 0)) ≤ (unit_of site i).rating

-- what is limited to R, and with the mode, is no more than R
limited_most : (R : ℕ) (z : ℤ) → nat_abs (limited R z) ≤ R
unfolding limited
limited_most R z = let e = size_signed (negative z) (min (nat_abs z) R) in omega arith

mode_most : (charging : Bool) (R : ℕ) (z : ℤ) → nat_abs z ≤ R → nat_abs (with_mode charging z) ≤ R
unfolding with_mode
mode_most charging R z h = by_test (λ (x : ℤ). nat_abs x ≤ R) (cond charging (lt_z (pos 0) z) (lt_z z (pos 0))) (pos 0) z (λ t. omega arith) (λ t. h)

request_most : (s : Settings) (n : ℕ) (f : Fleet) (needs : ℕ → ℤ) (i : ℕ) (r : ℤ) → nat_abs (request_after s n f needs i r) ≤ get_or f.rating i 0
unfolding request_after unit_after
request_most s n f needs i r =
    let R = get_or f.rating i 0 in
    let z = r +ℤ share_of s.factor (needs i) (get_or f.weight i 0) (total n f.weight) in
    by_test (λ (x : ℤ). nat_abs x ≤ R) (unable_at (charges s.mode) f i) (pos 0) _ (λ t. omega arith)
    (λ t. mode_most (charges s.mode) R (limited R z) (limited_most R z))

module _ (site : Site) (stored : List ℕ) (rs : List ℤ) (many : length rs ≡ count site) (h : Rated site rs) where
  abbrev fleet : Fleet
  fleet = fleet_for site.units stored

  each_rated : (f : ℕ → ℤ → ℤ) → ((i : ℕ) (r : ℤ) → i < count site → nat_abs (f i r) ≤ (unit_of site i).rating) → Rated site (each f rs)
  each_rated f ok i l = subst⁻¹ (λ (z : ℤ). nat_abs z ≤ (unit_of site i).rating) (each_at f rs i (pos 0) (omega arith)) (ok i (get_or rs i (pos 0)) l)

  pass_rated : (s : Settings) (m : ℤ) → Rated site (pass_of s m fleet rs)
  unfolding pass_of pass_by
  pass_rated s m =
      let needs = own_need s m fleet rs in
      by_test (Rated site) (rests s needs rs) rs _ (λ t. h)
      (λ t. by_test (Rated site) (spent (charges s.mode) (length rs) fleet) (each (λ (i : ℕ) (r : ℤ). pos 0) rs) _
      (λ u. each_rated (λ (i : ℕ) (r : ℤ). pos 0) (λ i r l. omega arith))
      (λ u. by_test (Rated site) (all_in_band (length rs) (own_band s fleet) needs) rs _ (λ v. h)
      (λ v. each_rated (request_after s (length rs) fleet needs)
      (λ i r l.
      let a = request_most s (length rs) fleet needs i r in
      let b : get_or fleet.rating i 0 ≡ (unit_of site i).rating = get_or-map (λ (u : Unit). u.rating) site.units i no_unit in
      omega arith))))

  pub asked_rated : (r : Reading) → Rated site (asked_by site stored rs r)
  asked_rated = asked_keeps (Rated site) site stored rs h (pass_rated site.head.settings)

asked_one : (site : Site) (stored : List ℕ) (rs : List ℤ) → OneSign rs → (r : Reading) → OneSign (asked_by site stored rs r)
asked_one site stored rs h = asked_keeps OneSign site stored rs h (λ m. one_sign_lem site.head.settings m (fleet_for site.units stored) rs h)

-- ---- a plant in its ranges, as an accepted file has it
pub record PlantIn (p : Plant) : Type 0 where
  pub units : Sited p.site
  pub roofs : Roofed p.roofs
  pub function : Guided p.leading

pub plant_in : (file : List ℕ) → Accepted file → PlantIn (plant_of file)
unfolding plant_of
plant_in file z = record { units = sited file z; roofs = roofed file z; function = leading_guided file z }

-- ---- what stands well
pub record StandsWell (p : Plant) (st : Stands) : Type 0 where
  pub holds : Held p.site st.units.stored st.units.requests st.units.vars
  pub rated : Rated p.site st.units.requests
  pub one : OneSign st.units.requests
  pub flags : length st.on ≡ length p.roofs
  pub vars : VarsHeld (length p.roofs) st.vars

module _ (p : Plant) (h : PlantIn p) where
  abbrev n : ℕ
  n = count p.site

  unit_bounds : (i : ℕ) → i < n → Bounds (unit_of p.site i) p.site.head.seconds
  unit_bounds i l = bounds (unit_ranged p.site h.units i l)

  -- at first
  pub first_stands : StandsWell p (stands_first p)
  unfolding stands_first at_first some_above
  first_stands = record {
    holds = record {
      stores = length_map (λ (u : Unit). u.stored) p.site.units;
      asks = length-replicate n (pos 0);
      leads = length_map (λ (u : Unit). u.var_request) p.site.units;
      within = λ i l. subst⁻¹ (λ (s : ℕ). s ≤ (unit_of p.site i).rated) (get_or-map (λ (u : Unit). u.stored) p.site.units i no_unit) (unit_bounds i l).stored_most;
      small = λ i l.
          subst⁻¹ (λ (v : ℤ). nat_abs v ≤ 100000000) (get_or-map (λ (u : Unit). u.var_request) p.site.units i no_unit) (unit_bounds i l).vars_most;
    };
    rated = λ i l. subst⁻¹ (λ (z : ℤ). nat_abs z ≤ (unit_of p.site i).rating) (zero_at n i) (omega arith);
    one =
        ap (λ (b : Bool). b && some_below (replicate n (pos 0)))
        (none_of (length (replicate n (pos 0))) (λ (i : ℕ). lt_z (pos 0) (get_or (replicate n (pos 0)) i (pos 0))) (λ i l. ap (lt_z (pos 0)) (zero_at n i)));
    flags = length-replicate (length p.roofs) false;
    vars = own_held p.roofs (length p.roofs) h.roofs.each refl;
  }

  -- after a step, and after steps
  step_stands : (st : Stands) (s : Step) → StandsWell p st → StandsWell p (next_of p st s)
  unfolding stands_after next_of lead_in after
  step_stands st s w =
      let l = lead_in p s in
      let modest = lead_modest p.leading s.voltage h.function in
      let stored = st.units.stored in
      let rs = st.units.requests in
      record {
        holds = still_held p.site l stored rs st.units.vars (asked_by p.site stored rs s.reading) h.units modest w.holds (asked_length p.site stored rs s.reading);
        rated = asked_rated p.site stored rs w.holds.asks w.rated s.reading;
        one = asked_one p.site stored rs w.one s.reading;
        flags = ons_length p st (s ∷ []) ∙ w.flags;
        vars = after_held p.roofs (length p.roofs) h.roofs.each l modest s.sun st.on st.vars w.vars;
      }

  pub steps_stand : (st : Stands) (ss : List Step) → StandsWell p st → StandsWell p (stands_after p st ss)
  unfolding stands_after
  steps_stand st [] w = w
  steps_stand st (s ∷ ss) w = steps_stand (next_of p st s) ss (step_stands st s w)

-- ---- as it is tested
module _ (p : Plant) (st : Stands) (w : StandsWell p st) where
  pub stands_fit_lem : held_fits p.site st.units.stored st.units.requests ≡ true
  unfolding held_fits unit_fits
  stands_fit_lem =
      let many = w.holds.stores in
      let stored = st.units.stored in
      let rs = st.units.requests in
      ap₂ ◌&&◌
      (all_of_lem (length stored) (unit_fits p.site stored rs)
      (λ i l. ap₂ ◌&&◌ (le-leb (get_or stored i 0) (unit_of p.site i).rated (w.holds.within i (omega arith)))
      (le-leb (nat_abs (get_or rs i (pos 0))) (unit_of p.site i).rating (w.rated i (omega arith)))))
      (ap not w.one)

  pub vars_fit : (i : ℕ) → i < length (all_vars st) → nat_abs (get_or (all_vars st) i (pos 0)) ≤ 100000000
  vars_fit =
      let units = w.holds.leads in
      let roofs = w.vars.count in
      both_small st.units.vars st.vars (λ i l. w.holds.small i (omega arith)) (λ i l. w.vars.small i (omega arith))

-- ---- what is kept, once the steps have begun
pub fits_stand : (k : Kept) → WellKept k → begun k.state ≡ true → StandsWell (plant_of k.site) k.stands
unfolding plant_of held_fits unit_fits
fits_stand k well b =
    let site = site_of k.site in
    let stored = k.stands.units.stored in
    let rs = k.stands.units.requests in
    let vs = k.stands.units.vars in
    let stores : length stored ≡ count site = well.stores b in
    let leads = well.leads in
    let flags = well.flags b in
    let shines = well.shines in
    let both = and_parts (all_of (length stored) (unit_fits site stored rs)) (not (some_above rs && some_below rs)) well.held in
    let at : (i : ℕ) → i < count site → (get_or stored i 0 ≤ (unit_of site i).rated) × (nat_abs (get_or rs i (pos 0)) ≤ (unit_of site i).rating) =
    λ i l.
    let p = and_parts (leb (get_or stored i 0) (unit_of site i).rated) (leb (nat_abs (get_or rs i (pos 0))) (unit_of site i).rating)
    (all_at (length stored) (unit_fits site stored rs) both.0 i (omega arith)) in
    (leb-true (get_or stored i 0) (unit_of site i).rated p.0, leb-true (nat_abs (get_or rs i (pos 0))) (unit_of site i).rating p.1) in
    record {
      holds = record {
        stores = stores;
        asks = well.asks ∙ stores;
        leads = well.leads ∙ stores;
        within = λ i l. (at i l).0;
        small = λ i l. first_small vs k.stands.vars well.small i (omega arith);
      };
      rated = λ i l. (at i l).1;
      one = not_false (some_above rs && some_below rs) both.1;
      flags = flags;
      vars = record { count = shines ∙ flags; small = λ i l. second_small vs k.stands.vars well.small i (omega arith) };
    }
  where
    not_false : (b : Bool) → not b ≡ true → b ≡ false
    not_false true e = absurd (passed_failed e refl)
    not_false false e = refl
