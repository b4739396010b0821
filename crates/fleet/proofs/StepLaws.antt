-- One step of a site: a pass keeps the number of requests; a loop over the units that replaces each store and the vars last requested of each, and lays each
-- record behind the one before, has laid all of them, and where nothing leads they are the same for any vars; no store rises above rated, and the vars kept stay in their bounds.
-- Assumes nothing.
use mathlib.Core.Path.{◌≡◌, refl, sym, ap, ap₂, ◌∙◌, subst, subst⁻¹}
use mathlib.Core.Bool.{Bool, true, false, not, cond, ◌||◌}
use mathlib.Core.List.{List, ◌++◌}
use Prim.Native.Nat.{ℕ, zero, suc, ◌+◌, ◌*◌, ◌^◌, ◌≤◌, ◌<◌, zero-le}
use native.Mathlib.Nat.{le_trans, le_of_eq}
use native.Mathlib.Numerals.{add-one}
use native.Mathlib.Omega.{arith}
use lib.Dec.{lit<}
use lib.IntN.{ℤ, pos, nat_abs}
use lib.Signed.{mag}
use lib.ListN.{length, get_or, set, replicate, length-replicate, get_or-replicate}
use lib.Seq.{ext_get_or, set-get_or}
use mir.Syntax.{w32, w64}
use mir.Val.{to_z, of_z}
use Rattle.whole.specs.declared.Refusal.{Refusal}
use Rattle.whole.proofs.Choice.{by_test}
use Rattle.whole.proofs.SignLaws.{read}
use Rattle.whole.specs.Over.{each}
use Rattle.whole.proofs.OverLaws.{each_length, each_at, part, part_none, part_all, part_next, part_more}
use Rattle.octets.specs.BigEndian.{laid}
use Rattle.rows.specs.declared.Row.{Row}
use Rattle.reading.specs.declared.Phases.{Phases}
use Rattle.reading.specs.declared.Reading.{Reading}
use Rattle.reading.specs.declared.Reading.TheVariants.{Missing, Power, Current}
use Rattle.reading.specs.Choice.{measure_of, current_of}
use Rattle.unit.specs.declared.Unit.{Unit}
use Rattle.unit.specs.Ranges.{holding}
use Rattle.rows.specs.Rows.{no_row, unit_by}
use Rattle.rules.specs.Rules.{by_current}
use Rattle.members.specs.Ranges.{fleet_for}
use Rattle.controller.specs.Pass.{pass_of}
use Rattle.members.specs.Posts.{fleet_by}
use Rattle.controller.specs.Posts.{Sound}
use Rattle.controller.proofs.SoundLaws.{rows_sound}
use Rattle.controller.proofs.StandsLaws.{pass_length}
use Rattle.storage.specs.declared.Outcome.{Outcome}
use Rattle.storage.specs.Step.{step_of}
use Rattle.lead.specs.declared.Lead.{Lead}
use Rattle.lead.specs.Lead.{Modest}
use Rattle.guided.specs.Units.{led_step, vars_kept, LedLaw, Guiding}
use Rattle.guided.proofs.LedProved.{led_law}
use Rattle.guided.proofs.SharedLaws.{back, small_same, none_leads}
use Rattle.guided.proofs.UnitLaws.{unled_is, stands_is}
use Rattle.site.specs.declared.Head.{Head}
use Rattle.site.specs.Site.{Site, count, unit_of}
use Rattle.site.specs.Ranges.{Sited}
use Rattle.records.specs.Records.{record_of}
use Rattle.records.proofs.LayLaws.{behind, both, nothing, record_length}
use Rattle.fleet.specs.declared.Moment.{Moment}
use Rattle.fleet.specs.Step.{standing, passed_on, asked_by_watts, asked_by_current, asked_by, given, kept_vars, stored_after, vars_after, records_of, after, records_by}
use Rattle.fleet.specs.Posts.{Stored, Held, Unled, site_by}
use Rattle.fleet.proofs.SiteLaws.{held_ranged, rows_count, row_unit_lem, rows_below, rows_in, rows_some, rows_few}
use Rattle.std.proofs.Common.{Err, Ok, Result}

-- ---- the pass, or none
-- what holds of the requests as they are, and after every pass, holds after a reading
module _ (P : List ℤ → Type 0) (site : Site) (stored : List ℕ) (rs : List ℤ) (h : P rs) (after : (m : ℤ) → P (pass_of site.head.settings m (fleet_for site.units stored) rs)) where
  passed_keeps : (m : Result ℤ Refusal) → P (passed_on site stored rs m)
  passed_keeps (Ok m) = after m
  passed_keeps (Err n) = h

  watts_keep : (r : Reading) → P (asked_by_watts site stored rs r)
  unfolding asked_by_watts
  watts_keep Missing = h
  watts_keep (Power p) = passed_keeps (measure_of p site.head.phase)
  watts_keep (Current p) = h

  current_keeps : (r : Reading) → P (asked_by_current site stored rs r)
  unfolding asked_by_current
  current_keeps Missing = h
  current_keeps (Power p) = h
  current_keeps (Current p) = passed_keeps (current_of p site.head.phase)

  pub asked_keeps : (r : Reading) → P (asked_by site stored rs r)
  unfolding asked_by
  asked_keeps r = by_test P (by_current site.head.settings.mode) (asked_by_current site stored rs r) (asked_by_watts site stored rs r) (λ t. current_keeps r) (λ t. watts_keep r)

pub asked_length : (site : Site) (stored : List ℕ) (rs : List ℤ) (r : Reading) → length (asked_by site stored rs r) ≡ length rs
asked_length site stored rs =
    asked_keeps (λ (l : List ℤ). length l ≡ length rs) site stored rs refl (λ m. pass_length site.head.settings m (fleet_for site.units stored) rs)

-- by the measure of three powers or currents: none, or the pass
module _ (site : Site) (stored : List ℕ) (rs : List ℤ) (x : Result ℤ Refusal) where
  pub pass_refused : (n : Refusal) → x ≡ Err n → rs ≡ passed_on site stored rs x
  pass_refused n e = sym (ap (λ (y : Result ℤ Refusal). passed_on site stored rs y) e)

  pub pass_chosen : (m : ℤ) → x ≡ Ok m → mag m < 2 ^ 63 → (after : List ℤ) → after ≡ pass_of site.head.settings (to_z w64 (of_z w64 m)) (fleet_for site.units stored) rs
      → after ≡ passed_on site stored rs x
  pass_chosen m e fits after d =
      d ∙ ap (λ (z : ℤ). pass_of site.head.settings z (fleet_for site.units stored) rs) (read w64 m fits)
      ∙ sym (ap (λ (y : Result ℤ Refusal). passed_on site stored rs y) e)

-- by watts powers are passed on, and by current currents; any other reading, whose tag is not theirs, leaves the requests
module _ (site : Site) (stored : List ℕ) (rs : List ℤ) (r : Reading) where
  pub powers_are : (p : Phases) → r ≡ Power p → passed_on site stored rs (measure_of p site.head.phase) ≡ asked_by_watts site stored rs r
  unfolding asked_by_watts
  powers_are p e = sym (ap (asked_by_watts site stored rs) e)

  pub currents_are : (p : Phases) → r ≡ Current p → passed_on site stored rs (current_of p site.head.phase) ≡ asked_by_current site stored rs r
  unfolding asked_by_current
  currents_are p e = sym (ap (asked_by_current site stored rs) e)

pub no_powers : (site : Site) (stored : List ℕ) (rs : List ℤ) (r : Reading) → ((p : Phases) → r ≡ Power p → ⊥) → rs ≡ asked_by_watts site stored rs r
unfolding asked_by_watts
no_powers site stored rs Missing t = refl
no_powers site stored rs (Power p) t = absurd (t p refl)
no_powers site stored rs (Current p) t = refl

pub no_currents : (site : Site) (stored : List ℕ) (rs : List ℤ) (r : Reading) → ((p : Phases) → r ≡ Current p → ⊥) → rs ≡ asked_by_current site stored rs r
unfolding asked_by_current
no_currents site stored rs Missing t = refl
no_currents site stored rs (Power p) t = refl
no_currents site stored rs (Current p) t = absurd (t p refl)

-- by the mode
module _ (site : Site) (stored : List ℕ) (rs : List ℤ) (r : Reading) where
  pub asked_current : by_current site.head.settings.mode ≡ true → asked_by_current site stored rs r ≡ asked_by site stored rs r
  unfolding asked_by
  asked_current t = sym (ap (λ (b : Bool). cond b (asked_by_current site stored rs r) (asked_by_watts site stored rs r)) t)

  pub asked_watts : by_current site.head.settings.mode ≡ false → asked_by_watts site stored rs r ≡ asked_by site stored rs r
  unfolding asked_by
  asked_watts t = sym (ap (λ (b : Bool). cond b (asked_by_current site stored rs r) (asked_by_watts site stored rs r)) t)

-- what the pass counts on, from a site in its ranges and what stands
pub ask_sound : (head : Head) (rows : List Row) (stored : List ℕ) (rs : List ℤ) (m : ℤ) → nat_abs m ≤ 300000000 → mag m < 2 ^ 63
    → Sited (site_by head rows) → length stored ≡ count (site_by head rows) → length rs ≡ count (site_by head rows) → Stored (site_by head rows) stored
    → Sound head.settings (to_z w64 (of_z w64 m)) (fleet_by rows stored) (length rs)
ask_sound head rows stored rs m small fits h stores asks within =
    let n = rows_count head rows in
    subst (λ (k : ℕ). Sound head.settings (to_z w64 (of_z w64 m)) (fleet_by rows stored) k) (sym (asks ∙ n))
    (subst (λ (z : ℤ). Sound head.settings z (fleet_by rows stored) (length rows)) (sym (read w64 m fits))
    (rows_sound rows (rows_in head rows h) (rows_few head rows h) (rows_some head rows h) head.settings h.settings stored (stores ∙ n)
    (λ i l. le_trans (within i (le_trans l (le_of_eq (sym n)))) (le_of_eq (ap (λ (u : Unit). u.rated) (row_unit_lem head rows i))))
    (λ i l. le_trans (le_of_eq (ap (λ (u : Unit). u.link) (sym (row_unit_lem head rows i)))) (h.links i (rows_below head rows i l))) m small))

-- ---- a unit's step, of its row
module _ (head : Head) (rows : List Row) (l : Lead) (i s : ℕ) (r v : ℤ) where
  pub given_is : (o : Outcome) → o ≡ led_step l (holding (unit_by (get_or rows i no_row)) s) v head.seconds r → o ≡ given (site_by head rows) l i s r v
  unfolding given
  given_is o e = e ∙ ap (λ (u : Unit). led_step l (holding u s) v head.seconds r) (sym (row_unit_lem head rows i))

  pub kept_is : (k : ℤ) → k ≡ vars_kept l (holding (unit_by (get_or rows i no_row)) s) v head.seconds r → k ≡ kept_vars (site_by head rows) l i s r v
  unfolding kept_vars
  kept_is k e = e ∙ ap (λ (u : Unit). vars_kept l (holding u s) v head.seconds r) (sym (row_unit_lem head rows i))

-- ---- the records
pub records_length : (n : ℕ) (site : Site) (l : Lead) (step : ℕ) (stored : List ℕ) (rs vs : List ℤ) → length (records_of n site l step stored rs vs) ≡ 40 * n
unfolding records_of
records_length zero site l step stored rs vs = refl
records_length (suc n) site l step stored rs vs =
    let o = given site l n (get_or stored n 0) (get_or rs n (pos 0)) (get_or vs n (pos 0)) in
    let e : 40 * n + 40 ≡ 40 * suc n = omega arith in
    both (records_of n site l step stored rs vs) (record_of step n (get_or rs n (pos 0)) o) (40 * n) 40
    (records_length n site l step stored rs vs) (record_length step n (get_or rs n (pos 0)) o) ∙ e

-- ---- the loop over the units
module _ (site : Site) (m : Moment) (stored : List ℕ) (rs vs : List ℤ) (room : List ℕ) where
  -- what a unit does, what it holds afterwards, and the vars then kept
  abbrev does : ℕ → Outcome
  does i = given site m.lead i (get_or stored i 0) (get_or rs i (pos 0)) (get_or vs i (pos 0))

  abbrev left : ℕ → ℕ → ℕ
  left i s = (given site m.lead i s (get_or rs i (pos 0)) (get_or vs i (pos 0))).stored

  abbrev kept : ℕ → ℤ → ℤ
  kept i v = kept_vars site m.lead i (get_or stored i 0) (get_or rs i (pos 0)) v

  abbrev records : ℕ → List ℕ
  records n = records_of n site m.lead m.step stored rs vs

  records_long : (n : ℕ) → length (records n) ≡ 40 * n
  records_long n = records_length n site m.lead m.step stored rs vs

  pub record Giving (i : ℕ) (now-stored : List ℕ) (now-vars : List ℤ) (now-room : List ℕ) : Type 0 where
    pub upto : i ≤ count site
    pub stored_is : now-stored ≡ part left stored i
    pub vars_is : now-vars ≡ part kept vs i
    pub room_is : now-room ≡ laid room m.at (records i)

  pub none_given : Giving 0 stored vs room
  unfolding records_of
  none_given = record {
    upto = omega arith;
    stored_is = sym (part_none left stored);
    vars_is = sym (part_none kept vs);
    room_is = nothing room m.at;
  }

  module _ (st : Held site stored rs vs) (fits : m.at + 40 * count site ≤ length room) (i : ℕ) (now-stored : List ℕ) (now-vars : List ℤ) (now-room : List ℕ)
      (g : Giving i now-stored now-vars now-room) where
    -- the next unit holds what it held, no more than rated, and its vars are as they were
    module _ (h : i < count site) where
      in_stored : i < length stored
      in_stored = le_trans h (le_of_eq (sym st.stores))

      in_vars : i < length vs
      in_vars = le_trans h (le_of_eq (sym st.leads))

      next_holds : get_or now-stored i 0 ≡ get_or stored i 0
      next_holds = ap (λ (t : List ℕ). get_or t i 0) g.stored_is ∙ part_next left stored i 0 in_stored

      next_vars : back (get_or now-vars i (pos 0)) ≡ get_or vs i (pos 0)
      next_vars =
          ap (λ (t : List ℤ). back (get_or t i (pos 0))) g.vars_is ∙ ap back (part_next kept vs i (pos 0) in_vars)
          ∙ small_same (get_or vs i (pos 0)) (st.small i h)

      pub next_within : get_or now-stored i 0 ≤ (unit_of site i).rated
      next_within = le_trans (le_of_eq next_holds) (st.within i h)

      pub next_guiding : Modest m.lead → Guiding m.lead (back (get_or now-vars i (pos 0)))
      next_guiding y = subst⁻¹ (Guiding m.lead) next_vars (record { modest = y; last_small = st.small i h })

      -- one unit more, by what the code reads of the lists
      pub one_more : mag (get_or rs i (pos 0)) < 2 ^ 31
          → (o : Outcome) → o ≡ given site m.lead i (get_or now-stored i 0) (back (get_or rs i (pos 0))) (back (get_or now-vars i (pos 0)))
          → (k : ℤ) → mag k < 2 ^ 31 → k ≡ kept_vars site m.lead i (get_or now-stored i 0) (back (get_or rs i (pos 0))) (back (get_or now-vars i (pos 0)))
          → (then_room : List ℕ) → then_room ≡ laid now-room (m.at + 40 * i) (record_of m.step i (back (get_or rs i (pos 0))) o)
          → Giving (i + 1) (set now-stored i o.stored) (set now-vars i (back k)) then_room
      unfolding records_of
      one_more hr o eo k hk ek then_room em =
          let er : back (get_or rs i (pos 0)) ≡ get_or rs i (pos 0) = read w32 (get_or rs i (pos 0)) hr in
          let is : o ≡ does i =
          eo ∙ ap₂ (λ (s : ℕ) (z : ℤ). given site m.lead i s z (back (get_or now-vars i (pos 0)))) next_holds er
          ∙ ap (given site m.lead i (get_or stored i 0) (get_or rs i (pos 0))) next_vars in
          let kept_is : back k ≡ kept i (get_or vs i (pos 0)) =
          read w32 k hk ∙ ek ∙ ap₂ (λ (s : ℕ) (z : ℤ). kept_vars site m.lead i s z (back (get_or now-vars i (pos 0)))) next_holds er ∙ ap (kept i) next_vars in
          let more = record_of m.step i (get_or rs i (pos 0)) (does i) in
          let there : then_room ≡ laid now-room (m.at + 40 * i) more = em ∙ ap (laid now-room (m.at + 40 * i)) (ap₂ (record_of m.step i) er is) in
          record {
            upto = omega arith;
            stored_is =
                ap (λ (t : List ℕ). set t i o.stored) g.stored_is
                ∙ part_more left stored i 0 o.stored in_stored (ap (λ (x : Outcome). x.stored) is);
            vars_is = ap (λ (t : List ℤ). set t i (back k)) g.vars_is ∙ part_more kept vs i (pos 0) (back k) in_vars kept_is;
            room_is =
                behind room m.at (omega arith) (records i) more (40 * i) (records_long i) now-room then_room g.room_is there
                ∙ ap (λ (n : ℕ). laid room m.at (records n)) (sym (add-one i));
          }

    -- all units
    pub all_given : i ≡ count site → (now-stored ≡ stored_after site m.lead stored rs vs)
        × ((now-vars ≡ vars_after site m.lead stored rs vs) × (now-room ≡ laid room m.at (records (count site))))
    unfolding stored_after vars_after
    all_given e = (
      g.stored_is ∙ ap (part left stored) (e ∙ sym st.stores) ∙ part_all left stored,
      (
        g.vars_is ∙ ap (part kept vs) (e ∙ sym st.leads) ∙ part_all kept vs,
        g.room_is ∙ ap (λ (n : ℕ). laid room m.at (records n)) e,
      ),
    )

-- ---- where nothing leads, a step is the unit's own, whatever vars were last requested, and these stay
pub unled : (l : Lead) → (l.leads || l.after || l.fresh) ≡ false → Unled l
unled l t = let n = none_leads l (ap not t) in record { no_function = n.0; no_base = n.1.0; no_voltage = n.1.1 }

module _ (site : Site) (l : Lead) (n : Unled l) where
  unled_given : (i s : ℕ) (r v : ℤ) → given site l i s r v ≡ step_of (holding (unit_of site i) s) site.head.seconds r
  unfolding given
  unled_given i s r v = unled_is l (holding (unit_of site i) s) v site.head.seconds r n.no_function n.no_base n.no_voltage

  unled_kept : (i s : ℕ) (r v : ℤ) → kept_vars site l i s r v ≡ v
  unfolding kept_vars
  unled_kept i s r v = stands_is l (holding (unit_of site i) s) v site.head.seconds r n.no_function

  module _ (stored : List ℕ) (rs vs : List ℤ) where
    pub vars_stay : vars_after site l stored rs vs ≡ vs
    unfolding vars_after
    vars_stay =
        let kept : ℕ → ℤ → ℤ = λ i v. kept_vars site l i (get_or stored i 0) (get_or rs i (pos 0)) v in
        let long : length (each kept vs) ≡ length vs = each_length kept vs in
        ext_get_or (pos 0) (each kept vs) vs long
        (λ i b. each_at kept vs i (pos 0) (le_trans b (le_of_eq long)) ∙ unled_kept i (get_or stored i 0) (get_or rs i (pos 0)) (get_or vs i (pos 0)))

    -- so any vars do as well
    module _ (ws : List ℤ) where
      given_same : (i s : ℕ) → given site l i s (get_or rs i (pos 0)) (get_or vs i (pos 0)) ≡ given site l i s (get_or rs i (pos 0)) (get_or ws i (pos 0))
      given_same i s = unled_given i s (get_or rs i (pos 0)) (get_or vs i (pos 0)) ∙ sym (unled_given i s (get_or rs i (pos 0)) (get_or ws i (pos 0)))

      stored_same : stored_after site l stored rs vs ≡ stored_after site l stored rs ws
      unfolding stored_after
      stored_same = ap (λ (f : ℕ → ℕ → ℕ). each f stored) (λ t. λ i s. (given_same i s t).stored)

      records_same : (step k : ℕ) → records_of k site l step stored rs vs ≡ records_of k site l step stored rs ws
      unfolding records_of
      records_same step zero = refl
      records_same step (suc k) = ap₂ ◌++◌ (records_same step k) (ap (record_of step k (get_or rs k (pos 0))) (given_same k (get_or stored k 0)))

-- ---- the loop over the units that nothing leads: the same loop, with vars that are all zero
abbrev pub no_vars : Site → List ℤ
no_vars site = replicate (count site) (pos 0)

pub no_vars_held : (site : Site) (stored : List ℕ) (rs : List ℤ) → length stored ≡ count site → length rs ≡ count site → Stored site stored → Held site stored rs (no_vars site)
no_vars_held site stored rs stores asks within = record {
  stores = stores;
  asks = asks;
  leads = length-replicate (count site) (pos 0);
  within = within;
  small = λ i b. le_trans (le_of_eq (ap nat_abs (get_or-replicate (count site) i (pos 0) (pos 0) b))) zero-le;
}

module _ (site : Site) (m : Moment) (n : Unled m.lead) (stored : List ℕ) (rs : List ℤ) (room : List ℕ) (st : Held site stored rs (no_vars site)) (fits : m.at + 40 * count site ≤ length room)
    (i : ℕ) (now-stored now-room : List ℕ) (g : Giving site m stored rs (no_vars site) room i now-stored (no_vars site) now-room) where
  pub one_unled : i < count site → mag (get_or rs i (pos 0)) < 2 ^ 31
      → (o : Outcome) → o ≡ step_of (holding (unit_of site i) (get_or now-stored i 0)) site.head.seconds (back (get_or rs i (pos 0)))
      → (then_room : List ℕ) → then_room ≡ laid now-room (m.at + 40 * i) (record_of m.step i (back (get_or rs i (pos 0))) o)
      → Giving site m stored rs (no_vars site) room (i + 1) (set now-stored i o.stored) (no_vars site) then_room
  one_unled h hr o eo then_room em =
      let vs = no_vars site in
      let r = back (get_or rs i (pos 0)) in
      let v = back (get_or vs i (pos 0)) in
      let none : get_or vs i (pos 0) ≡ pos 0 = get_or-replicate (count site) i (pos 0) (pos 0) h in
      let stay : set vs i (pos 0) ≡ vs = ap (set vs i) (sym none) ∙ set-get_or vs i (pos 0) in
      subst (λ (t : List ℤ). Giving site m stored rs vs room (i + 1) (set now-stored i o.stored) t then_room) stay
      (one_more site m stored rs vs room st fits i now-stored vs now-room g h hr
      o (eo ∙ sym (unled_given site m.lead n i (get_or now-stored i 0) r v))
      (pos 0) (lit< tt) (sym (unled_kept site m.lead n i (get_or now-stored i 0) r v ∙ ap back none)) then_room em)

  pub all_unled : i ≡ count site → ((vs : List ℤ) → now-stored ≡ stored_after site m.lead stored rs vs)
      × ((vs : List ℤ) → now-room ≡ laid room m.at (records_of (count site) site m.lead m.step stored rs vs))
  all_unled e =
      let (es, (ev, er)) = all_given site m stored rs (no_vars site) room st fits i now-stored (no_vars site) now-room g e in (
        λ vs. es ∙ stored_same site m.lead n stored rs (no_vars site) vs,
        λ vs. er ∙ ap (laid room m.at) (records_same site m.lead n stored rs (no_vars site) vs m.step (count site)),
      )

-- ---- what stands after a step is still a store, a request and vars for each unit, none above rated, none beyond their bounds
module _ (site : Site) (l : Lead) (stored : List ℕ) (rs vs rs' : List ℤ) (h : Sited site) (y : Modest l) (st : Held site stored rs vs) (e : length rs' ≡ length rs) where
  law : (i : ℕ) → i < count site → LedLaw l (holding (unit_of site i) (get_or stored i 0)) (get_or vs i (pos 0)) site.head.seconds (get_or rs' i (pos 0))
  law i b =
      led_law l (holding (unit_of site i) (get_or stored i 0)) (get_or vs i (pos 0)) site.head.seconds (get_or rs' i (pos 0))
      (held_ranged site h i (get_or stored i 0) b (st.within i b)) (record { modest = y; last_small = st.small i b })

  pub still_held : Held site (stored_after site l stored rs' vs) rs' (vars_after site l stored rs' vs)
  unfolding stored_after vars_after given kept_vars led_step
  still_held = record {
    stores = each_length (λ (i s : ℕ). (given site l i s (get_or rs' i (pos 0)) (get_or vs i (pos 0))).stored) stored ∙ st.stores;
    asks = e ∙ st.asks;
    leads = each_length (λ (i : ℕ) (v : ℤ). kept_vars site l i (get_or stored i 0) (get_or rs' i (pos 0)) v) vs ∙ st.leads;
    within = λ i b.
        le_trans (le_of_eq (each_at (λ (j s : ℕ). (given site l j s (get_or rs' j (pos 0)) (get_or vs j (pos 0))).stored) stored i 0 (le_trans b (le_of_eq (sym st.stores)))))
        (law i b).relied.never_above_rated;
    small = λ i b.
        le_trans (le_of_eq (ap nat_abs (each_at (λ (j : ℕ) (v : ℤ). kept_vars site l j (get_or stored j 0) (get_or rs' j (pos 0)) v) vs i (pos 0) (le_trans b (le_of_eq (sym st.leads))))))
        (law i b).kept_small;
  }

-- ---- a step: the pass or none, then every unit
module _ (site : Site) (m : Moment) (stored : List ℕ) (rs vs rs' : List ℤ) (ea : rs' ≡ asked_by site stored rs m.reading) where
  same_many : length rs' ≡ length rs
  same_many = ap length ea ∙ asked_length site stored rs m.reading

  pub asked_held : Held site stored rs vs → Held site stored rs' vs
  asked_held st = record { stores = st.stores; asks = same_many ∙ st.asks; leads = st.leads; within = st.within; small = st.small }

  pub step_laid : (room then_room : List ℕ) → then_room ≡ laid room m.at (records_of (count site) site m.lead m.step stored rs' vs)
      → then_room ≡ laid room m.at (records_by site m.lead m.step (standing stored rs vs) m.reading)
  unfolding records_by
  step_laid room then_room e = e ∙ ap (λ (qs : List ℤ). laid room m.at (records_of (count site) site m.lead m.step stored qs vs)) ea

  module _ (then-stored : List ℕ) (es : then-stored ≡ stored_after site m.lead stored rs' vs) (then-vars : List ℤ) (ev : then-vars ≡ vars_after site m.lead stored rs' vs) where
    pub step_standing : standing then-stored rs' then-vars ≡ after site m.lead (standing stored rs vs) m.reading
    unfolding after
    step_standing =
        ap₂ (λ (t : List ℕ) (w : List ℤ). standing t rs' w) es ev
        ∙ ap (λ (qs : List ℤ). standing (stored_after site m.lead stored qs vs) qs (vars_after site m.lead stored qs vs)) ea

    pub step_held : Sited site → Modest m.lead → Held site stored rs vs → Held site then-stored rs' then-vars
    step_held h y st =
        subst⁻¹ (λ (t : List ℕ). Held site t rs' then-vars) es
        (subst⁻¹ (Held site (stored_after site m.lead stored rs' vs) rs') ev (still_held site m.lead stored rs vs rs' h y st same_many))
