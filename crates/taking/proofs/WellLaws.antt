-- What is kept stays well formed: before any byte, after whole fields, with a tail, and so after a chunk. Where a chunk stops with a fault, its place and its
-- steps fit too. Assumes nothing.
use mathlib.Core.Path.{◌≡◌, refl, sym, ap, ap₂, ◌∙◌, subst⁻¹}
use mathlib.Core.Bool.{Bool, true, false, not, cond, ◌&&◌, ◌||◌}
use mathlib.Core.List.{List, [], ◌++◌}
use Prim.Native.Nat.{ℕ, ◌+◌, ◌-◌, ◌*◌, ◌≤◌, ◌<◌}
use native.Mathlib.Omega.{arith}
use lib.Dec.{eqb}
use lib.IntN.{pos, nat_abs}
use lib.ListN.{length, get_or, take, drop, length-drop}
use lib.Seq.{length-take-le}
use borrow.Author.Tests.{eqb-true, eq-eqb}
use Rattle.whole.specs.Over.{all_of, some_of}
use Rattle.whole.proofs.Choice.{passed_failed}
use Rattle.members.specs.Ranges.{some_above, some_below}
use Rattle.site.specs.Site.{count}
use Rattle.fields.specs.declared.State.{State}
use Rattle.fields.specs.Fields.{head_of}
use Rattle.stick.specs.declared.Reached.{Reached}
use Rattle.stick.specs.Check.{reach_of}
use Rattle.stick.specs.Site.{site_of, roofs_of, plant_of}
use Rattle.fleet.specs.Step.{Stands}
use Rattle.stretch.specs.Stretch.{stands_first, stands_after}
use Rattle.chunks.proofs.ReachChunks.{far_all, CutField, far_cut}
use Rattle.kept.specs.Kept.{Kept, begun, no_standing, at_start}
use Rattle.kept.specs.Layout.{tail_most, place_most, all_vars, known_by}
use Rattle.kept.specs.Formed.{beside, place_fits, sun_fits, volt_fits, tail_fits, held_fits}
use Rattle.kept.specs.Posts.{WellKept}
use Rattle.taking.specs.Chunk.{gone_by, site_after, stands_before, steps_by, absorbed, with_tail, fed_by}
use Rattle.taking.specs.Posts.{Leads}
use Rattle.taking.proofs.LeadLaws.{few_steps}
use Rattle.taking.proofs.TwiceLaws.{site_by_lem}
use Rattle.taking.proofs.FedLaws.{gone_upto, gone_leads}
use Rattle.taking.proofs.SiteLaws.{SiteWell, kept_few, site_well}
use Rattle.taking.proofs.CountLaws.{accepted_site}
use Rattle.taking.proofs.PlacedLaws.{place_parts, place_so, place_most_lem, placed_after}
use Rattle.taking.proofs.DueLaws.{due_after_lem}
use Rattle.taking.proofs.StandsLaws.{PlantIn, plant_in, StandsWell, first_stands, steps_stand, stands_fit_lem, vars_fit, fits_stand}

-- ---- before any byte
pub start_well : WellKept at_start
unfolding known_by reach_of beside place_fits sun_fits volt_fits tail_fits held_fits all_of some_above some_below some_of
start_well = record {
  known = refl;
  no_steps_is = refl;
  state_is = refl;
  closed = λ e. absurd (passed_failed e refl);
  waiting = λ e. (refl, refl);
  site_short = omega arith;
  few = omega arith;
  placed = refl;
  sunny = refl;
  volted = refl;
  said = refl;
  tailed = refl;
  tail_short = omega arith;
  stores = λ e. absurd (passed_failed e refl);
  asks = refl;
  leads = refl;
  held = refl;
  flags = λ e. absurd (passed_failed e refl);
  shines = refl;
  small = λ i l. absurd (omega arith);
  none_stands = λ e. refl;
}

-- ---- after whole fields
record StandPart (site : List ℕ) (b : Bool) (st : Stands) : Type 0 where
  stores : b ≡ true → length st.units.stored ≡ count (site_of site)
  asks : length st.units.requests ≡ length st.units.stored
  leads : length st.units.vars ≡ length st.units.stored
  held : held_fits (site_of site) st.units.stored st.units.requests ≡ true
  flags : b ≡ true → length st.on ≡ length (roofs_of site)
  shines : length st.vars ≡ length st.on
  small : (i : ℕ) → i < length (all_vars st) → nat_abs (get_or (all_vars st) i (pos 0)) ≤ 100000000
  none_stands : b ≡ false → st ≡ no_standing

module _ (k : Kept) (well : WellKept k) (w : List ℕ) (next : State) (l : Leads k.state w next) where
  abbrev site : List ℕ
  site = site_after k w next

  whole_site : SiteWell site next
  whole_site = site_well k well w next l

  abbrev then : Stands
  then = stands_after (plant_of site) (stands_before k site) (steps_by k w)

  module _ (b : begun next ≡ true) where
    in_ranges : PlantIn (plant_of site)
    in_ranges = plant_in site (accepted_site site next whole_site b)

    -- what stands before their steps, by whether these had begun
    pub before_stands : StandsWell (plant_of (site_after k w next)) (stands_before k (site_after k w next))
    unfolding stands_before
    before_stands = go (begun k.state) refl
      where
        go : (x : Bool) → begun k.state ≡ x → StandsWell (plant_of site) (cond x k.stands (stands_first (plant_of site)))
        go true e = subst⁻¹ (λ (s : List ℕ). StandsWell (plant_of s) k.stands) (site_by_lem k w next true (begun next) e refl) (fits_stand k well e)
        go false e = first_stands (plant_of site) in_ranges

    then_stands : StandsWell (plant_of site) then
    then_stands = steps_stand (plant_of site) in_ranges (stands_before k site) (steps_by k w) before_stands

  stand_part : (b : Bool) → begun next ≡ b → StandPart site b (cond b then no_standing)
  unfolding plant_of held_fits all_of some_above some_below some_of
  stand_part true e =
      let t = then_stands e in
      record {
        stores = λ f. t.holds.stores;
        asks = t.holds.asks ∙ sym t.holds.stores;
        leads = t.holds.leads ∙ sym t.holds.stores;
        held = stands_fit_lem (plant_of site) then t;
        flags = λ f. t.flags;
        shines = t.vars.count ∙ sym t.flags;
        small = vars_fit (plant_of site) then t;
        none_stands = λ f. absurd (passed_failed refl f);
      }
  stand_part false e = record {
    stores = λ f. absurd (passed_failed f refl);
    asks = refl;
    leads = refl;
    held = refl;
    flags = λ f. absurd (passed_failed f refl);
    shines = refl;
    small = λ i l. absurd (omega arith);
    none_stands = λ f. refl;
  }

  pub absorbed_well : WellKept (absorbed k w next)
  unfolding absorbed tail_fits
  absorbed_well =
      let s = whole_site in
      let p = stand_part (begun next) refl in
      let d = due_after_lem k well w next l in
      record {
        known = s.known;
        no_steps_is = s.no_steps_is;
        state_is = s.state_is;
        closed = s.closed;
        waiting = s.waiting;
        site_short = s.site_short;
        few = few_steps w l well.few;
        placed = placed_after k well w next l;
        sunny = d.sunny;
        volted = d.volted;
        said = d.said;
        tailed = refl;
        tail_short = omega arith;
        stores = p.stores;
        asks = p.asks;
        leads = p.leads;
        held = p.held;
        flags = p.flags;
        shines = p.shines;
        small = p.small;
        none_stands = p.none_stands;
      }

-- ---- with a tail
pub tail_well : (k : Kept) → WellKept k → k.tail ≡ [] → (t : List ℕ) → tail_fits k.state t ≡ true → length t ≤ tail_most → WellKept (with_tail k t)
tail_well k well none t fits short =
    let z : length k.tail ≡ 0 = ap length none in
    let b = begun k.state in
    let was = place_parts k.place k.state.stage k.state.steps (length k.site) (length k.tail) b refl well.placed in
    let lo = was.0 in
    let hi = was.1 in
    record {
      known = well.known;
      no_steps_is = well.no_steps_is;
      state_is = well.state_is;
      closed = well.closed;
      waiting = well.waiting;
      site_short = well.site_short;
      few = well.few;
      placed = place_so (k.place + length t) k.state.stage k.state.steps (length k.site) (length t) b refl (omega arith) (omega arith);
      sunny = well.sunny;
      volted = well.volted;
      said = well.said;
      tailed = fits;
      tail_short = short;
      stores = well.stores;
      asks = well.asks;
      leads = well.leads;
      held = well.held;
      flags = well.flags;
      shines = well.shines;
      small = well.small;
      none_stands = well.none_stands;
    }

-- ---- after a chunk
module _ (k : Kept) (well : WellKept k) (c : List ℕ) where
  abbrev r : Reached
  r = gone_by k c

  abbrev over : List ℕ
  over = take r.at (k.tail ++ c)

  abbrev rest : List ℕ
  rest = drop r.at (k.tail ++ c)

  over_well : WellKept (absorbed k over r.state)
  over_well = absorbed_well k well over r.state (gone_leads k c)

  -- the rest is the beginning of a field that is waited for
  record Tail : Type 0 where
    fits : tail_fits r.state rest ≡ true
    short : length rest ≤ tail_most

  tail_of : r.number ≤ 1 → Tail
  unfolding gone_by tail_fits
  tail_of h = go (eqb r.number 0) refl
    where
      first : 0 ≤ length (k.tail ++ c)
      first = omega arith

      long : length rest ≡ length (k.tail ++ c) - r.at
      long = length-drop r.at (k.tail ++ c)

      or_last : (a b : Bool) → b ≡ true → (a || b) ≡ true
      or_last true b e = refl
      or_last false b e = e

      go : (b : Bool) → eqb r.number 0 ≡ b → Tail
      go true e =
          let all : r.at ≡ length (k.tail ++ c) = far_all (k.tail ++ c) k.state 0 first (eqb-true r.number 0 e) in
          let n = long in
          let none : length rest ≡ 0 = omega arith in
          record {
            fits = ap (λ (b : Bool). b || (not (eqb r.state.stage 0) && eqb (head_of r.state rest 0) 1)) (eq-eqb (length rest) 0 none);
            short = omega arith;
          }
      go false e =
          let no : (r.number ≡ 0 → ⊥) = λ z. passed_failed (eq-eqb r.number 0 z) e in
          let cut : CutField (k.tail ++ c) k.state 0 first r = far_cut (k.tail ++ c) k.state 0 first (kept_few k well) (one r.number h no) in
          let n = long in
          let s = cut.short in
          record {
            fits =
                or_last (eqb (length rest) 0) (not (eqb r.state.stage 0) && eqb (head_of r.state rest 0) 1)
                (ap₂ (λ (a b : Bool). not a && b) cut.going (eq-eqb (head_of r.state rest 0) 1 cut.head));
            short = omega arith;
          }
        where
          one : (n : ℕ) → n ≤ 1 → (n ≡ 0 → ⊥) → n ≡ 1
          one n l z = omega (arith, z)

  pub fed_well : (gone_by k c).number ≤ 1 → WellKept (fed_by k c)
  unfolding fed_by absorbed
  fed_well h = let t = tail_of h in tail_well (absorbed k over r.state) over_well refl rest t.fits t.short

  -- ---- where it stops
  pub stop_few : (gone_by k c).state.steps ≤ 65535
  stop_few = few_steps over (gone_leads k c) well.few

  pub stop_place : k.place - length k.tail + (gone_by k c).at ≤ place_most + 51 * (gone_by k c).state.steps
  unfolding absorbed
  stop_place =
      let long : length over ≡ r.at = length-take-le r.at (k.tail ++ c) (gone_upto k c) in
      let most : k.place - length k.tail + length over ≤ place_most + 0 + 51 * r.state.steps = place_most_lem (absorbed k over r.state) over_well in
      omega arith
