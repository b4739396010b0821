-- Counting the units and the inverters of a site part whose steps have begun: it is an accepted file, with as many units as the state says, and with 64
-- inverters less those that may still come. So many bytes have the records of the steps that whole fields close. Assumes nothing.
use mathlib.Core.Path.{◌≡◌, refl, sym, ap, ap₂, ◌∙◌, subst}
use mathlib.Core.Bool.{Bool, true, false, ◌||◌}
use mathlib.Core.List.{List}
use Prim.Native.Nat.{ℕ, suc, ◌+◌, ◌-◌, ◌*◌, ◌≤◌, ◌<◌}
use native.Mathlib.Nat.{mul-zero}
use native.Mathlib.Omega.{arith}
use lib.Dec.{leb, eqb}
use lib.ListN.{length}
use borrow.Author.Tests.{eq-eqb, le-ltb}
use Rattle.whole.proofs.Choice.{by_test, passed_failed}
use Rattle.octets.specs.BigEndian.{be}
use Rattle.rows.proofs.RowLaws.{length_map}
use Rattle.parts.specs.Header.{tag_at, past}
use Rattle.site.specs.Site.{count}
use Rattle.fields.specs.declared.State.{State}
use Rattle.fields.specs.Fields.{begins, closes, is_reading}
use Rattle.fields.proofs.FieldLaws.{fewer}
use Rattle.stick.specs.Check.{Answer, start, Accepted}
use Rattle.stick.specs.Site.{places_of, having, roof_at, site_of, roofs_of, plant_of}
use Rattle.stick.specs.Posts.{answered, units_at}
use Rattle.stick.proofs.WalkLaws.{ends_complete, not_too_large}
use Rattle.stick.proofs.PlaceLaws.{from, from_over, from_field, Passed, picked, left_out}
use Rattle.stick.proofs.ReachLaws.{walk_reach}
use Rattle.stick.proofs.SiteProved.{units_count, sited}
use Rattle.stretch.specs.Stretch.{records_from}
use Rattle.stretch.proofs.AppendLaws.{records_length}
use Rattle.chunks.proofs.ReachChunks.{Went, there, passing}
use Rattle.kept.specs.Kept.{Kept, begun}
use Rattle.kept.specs.Layout.{known_by}
use Rattle.kept.specs.Posts.{WellKept}
use Rattle.taking.specs.Chunk.{site_after, stands_before, steps_by, results_by}
use Rattle.taking.specs.Posts.{Leads}
use Rattle.taking.proofs.TookLaws.{by_opens, by_begins, by_closes, charged_closes, Took, fleet, unit, settings, connections, inverter, warm, efficiency, function, volt_var, reading, weather, voltage, end, took}
use Rattle.taking.proofs.LedLaws.{led}
use Rattle.taking.proofs.LeadLaws.{before_too, steps_counted, no_count_yet}
use Rattle.taking.proofs.SiteLaws.{SiteWell, site_well}

-- ---- the stages before the inverters
abbrev early : ℕ → Bool
early n = eqb n 1 || eqb n 2 || eqb n 3

-- at these no step may begin or be closed
early_none : (st : State) → begins st ≡ true → early st.stage ≡ false
early_none st b = by_begins (λ (n : ℕ) (c : Bool). early n ≡ false) st b (λ c. refl) (λ c. refl) refl (λ c. refl)

not_early : (st : State) → closes st ≡ true → early st.stage ≡ false
not_early st c = by_closes (λ (n : ℕ) (c : Bool). early n ≡ false) st c (λ c. refl) (λ c. refl) refl (λ c. refl) (λ c. refl) (λ c. refl)

module _ (file : List ℕ) where
  -- ---- one field: the inverters from it on, by its tag
  module _ (i : ℕ) (l : i < length file) where
    passed : Passed file (tag_at file i) i (past file i)
    passed = record { tagged = refl; followed = from_field file i l }

    roofs_here_lem : tag_at file i ≡ 6 → length (having 6 file (from file i)) ≡ suc (length (having 6 file (from file (past file i))))
    roofs_here_lem t = ap length (picked file (record { tagged = t; followed = from_field file i l }))

    roofs_on : (tag_at file i ≡ 6 → ⊥) → length (having 6 file (from file i)) ≡ length (having 6 file (from file (past file i)))
    roofs_on n = ap length (left_out file passed 6 n)

  no_six : {x : ℕ} (tag : ℕ) → eqb tag 6 ≡ false → x ≡ tag → x ≡ 6 → ⊥
  no_six {x} tag n t e = passed_failed (eq-eqb tag 6 (sym t ∙ e)) n

  -- ---- from the inverters on: what is left falls by one with each
  record Fall (st next : State) (i : ℕ) : Type 0 where
    pub late : early next.stage ≡ false
    pub units_same : next.units ≡ st.units
    pub left_is : next.left + length (having 6 file (from file i)) ≡ st.left

  falls : {next : State} {j : ℕ} {st : State} {i : ℕ} → Went file next j st i → j ≡ length file → early st.stage ≡ false → Fall st next i
  unfolding having
  falls {next} {j} {st} {i} (there e f) h c =
      let none : length (having 6 file (from file i)) ≡ 0 = ap (λ (l : List ℕ). length (having 6 file l)) (from_over file i (omega arith)) in
      let same : st.left ≡ next.left = ap (λ (s : State). s.left) e in
      record { late = ap (λ (s : State). early s.stage) (sym e) ∙ c; units_same = ap (λ (s : State). s.units) (sym e); left_is = omega arith }
  falls {next} {j} {st} {i} (passing m l e f w more) h c = go (took file st i m (omega arith) f) (falls more h)
    where
      -- by the state behind it
      so : (x : State) → m ≡ x → x.units ≡ st.units → x.left ≡ st.left → early x.stage ≡ false → (tag_at file i ≡ 6 → ⊥)
          → (early m.stage ≡ false → Fall m next (past file i)) → Fall st next i
      so x is units left ok n further =
          let r = further (ap (λ (s : State). early s.stage) is ∙ ok) in
          let a = roofs_on i l n in
          let b = r.left_is in
          let d : m.left ≡ st.left = ap (λ (s : State). s.left) is ∙ left in
          record { late = r.late; units_same = r.units_same ∙ ap (λ (s : State). s.units) is ∙ units; left_is = omega arith }

      go : Took file st i m → (early m.stage ≡ false → Fall m next (past file i)) → Fall st next i
      go (fleet t s p v is) further = absurd (passed_failed (ap early s) c)
      go (unit t s is) further = absurd (passed_failed (ap early s) c)
      go (settings t s is) further = absurd (passed_failed (ap early s) c)
      go (connections t s is) further = so _ is refl refl refl (no_six 10 refl t) further
      go (inverter t s some is) further =
          let r = further (ap (λ (x : State). early x.stage) is) in
          let a = roofs_here_lem i l t in
          let b = r.left_is in
          let d : m.left ≡ st.left - 1 = ap (λ (s : State). s.left) is in
          record { late = r.late; units_same = r.units_same ∙ ap (λ (s : State). s.units) is; left_is = omega arith }
      go (warm t s is) further = so _ is refl refl refl (no_six 7 refl t) further
      go (efficiency t s is) further = so _ is refl refl refl (no_six 7 refl t) further
      go (function t s is) further = so _ is refl refl refl (no_six 11 refl t) further
      go (volt_var t s is) further = so _ is refl refl refl (no_six 7 refl t) further
      go (reading t s a b few is) further = so _ is refl refl refl (λ x. passed_failed t (ap is_reading x)) further
      go (weather t s p is) further = so _ is refl refl refl (no_six 8 refl t) further
      go (voltage t s p v is) further = so _ is refl refl refl (no_six 12 refl t) further
      go (end t s p is) further = so _ is refl refl refl (no_six 127 refl t) further

  -- ---- before them: all 64 are left where they begin
  record Rise (st next : State) (i : ℕ) : Type 0 where
    pub units_same : (st.stage ≡ 1 → ⊥) → next.units ≡ st.units
    pub left_is : next.left + length (having 6 file (from file i)) ≡ 64

  rises : {next : State} {j : ℕ} {st : State} {i : ℕ} → Went file next j st i → j ≡ length file → early st.stage ≡ true → early next.stage ≡ false → Rise st next i
  rises {next} {j} {st} {i} (there e f) h c d = absurd (passed_failed c (ap (λ (s : State). early s.stage) e ∙ d))
  rises {next} {j} {st} {i} (passing m l e f w more) h c d = go (took file st i m (omega arith) f) (λ x. rises more h x d)
    where
      on : (tag_at file i ≡ 6 → ⊥) → (m.stage ≡ 1 → ⊥) → ((st.stage ≡ 1 → ⊥) → m.units ≡ st.units) → Rise m next (past file i) → Rise st next i
      on n z u r =
          let a = roofs_on i l n in
          let b = r.left_is in
          record { units_same = λ x. r.units_same z ∙ u x; left_is = omega arith }

      go : Took file st i m → (early m.stage ≡ true → Rise m next (past file i)) → Rise st next i
      go (fleet t s p v is) further =
          let stage : m.stage ≡ 2 = ap (λ (x : State). x.stage) is in
          on (no_six 1 refl t) (λ x. omega arith) (λ x. absurd (x s)) (further (ap early stage))
      go (unit t s is) further =
          let ok : early (fewer st).stage ≡ true = by_test (λ (x : State). early x.stage ≡ true) (leb st.left 1) _ _ (λ u. refl) (λ u. refl) in
          let us : (fewer st).units ≡ st.units = by_test (λ (x : State). x.units ≡ st.units) (leb st.left 1) _ _ (λ u. refl) (λ u. refl) in
          let two : eqb (fewer st).stage 1 ≡ false = by_test (λ (x : State). eqb x.stage 1 ≡ false) (leb st.left 1) _ _ (λ u. refl) (λ u. refl) in
          on (no_six 2 refl t) (λ x. passed_failed (eq-eqb m.stage 1 x) (ap (λ (s : State). eqb s.stage 1) is ∙ two)) (λ x. ap (λ (s : State). s.units) is ∙ us)
          (further (ap (λ (s : State). early s.stage) is ∙ ok))
      go (settings t s is) further =
          let r = falls more h (ap (λ (x : State). early x.stage) is) in
          let a = roofs_on i l (no_six 3 refl t) in
          let b = r.left_is in
          let q : m.left ≡ 64 = ap (λ (x : State). x.left) is in
          record { units_same = λ x. r.units_same ∙ ap (λ (s : State). s.units) is; left_is = omega arith }
      go (connections t s is) further = absurd (passed_failed c (ap early s))
      go (inverter t s some is) further = absurd (passed_failed c (by_opens (λ (n : ℕ) (c : Bool). early n ≡ false) st s (λ c. refl) refl))
      go (warm t s is) further = absurd (passed_failed c (ap early s))
      go (efficiency t s is) further = absurd (passed_failed c (ap early s))
      go (function t s is) further = absurd (passed_failed c (by_opens (λ (n : ℕ) (c : Bool). early n ≡ false) st s (λ c. refl) refl))
      go (volt_var t s is) further = absurd (passed_failed c (ap early s))
      go (reading t s a b few is) further = absurd (passed_failed c (not_early st s))
      go (weather t s p is) further = absurd (passed_failed c (early_none st s))
      go (voltage t s p v is) further = absurd (passed_failed c (not_early st (charged_closes st s)))
      go (end t s p is) further = absurd (passed_failed c (early_none st s))

  -- ---- from the start on: the units are those that the fleet field says
  units_said_lem : {next : State} {j : ℕ} → Went file next j start 0 → j ≡ length file → early next.stage ≡ false → next.units ≡ units_at file
  unfolding units_at
  units_said_lem {next} {j} (there e f) h d = absurd (passed_failed refl (ap (λ (s : State). early s.stage) e ∙ d))
  units_said_lem {next} {j} (passing m l e f w more) h d = go (took file start 0 m (omega arith) f)
    where
      go : Took file start 0 m → next.units ≡ be 1 file 4
      go (fleet t s p v is) =
          let stage : m.stage ≡ 2 = ap (λ (x : State). x.stage) is in
          (rises more h (ap early stage) d).units_same (λ x. omega arith) ∙ ap (λ (x : State). x.units) is
      go (unit t s is) = absurd (omega arith)
      go (settings t s is) = absurd (omega arith)
      go (connections t s is) = absurd (omega arith)
      go (inverter t s some is) = absurd (passed_failed s refl)
      go (warm t s is) = absurd (omega arith)
      go (efficiency t s is) = absurd (omega arith)
      go (function t s is) = absurd (passed_failed s refl)
      go (volt_var t s is) = absurd (omega arith)
      go (reading t s a b few is) = absurd (passed_failed s refl)
      go (weather t s p is) = absurd (passed_failed s refl)
      go (voltage t s p v is) = absurd (passed_failed s refl)
      go (end t s p is) = absurd (passed_failed s refl)

-- ---- a site part whose steps have begun
module _ (site : List ℕ) (st : State) (well : SiteWell site st) (b : begun st ≡ true) where
  pub accepted_site : Accepted site
  accepted_site =
      let K = known_by site in
      let short = well.site_short in
      let walked = walk_reach site (length site) start 0 ∙ ap answered well.known in
      let whole = sym (not_too_large site (le-ltb 2097152 (length site) (omega arith))) ∙ walked ∙ sym (ends_complete K (length site) (eq-eqb K.stage 0 (well.closed b))) in
      record { complete = ap (λ (a : Answer). a.number) whole }

  went : Went site (known_by site) (length site) start 0
  went = led (record { leads = well.known })

  late : early (known_by site).stage ≡ false
  late = ap early (well.closed b)

  pub units_kept_lem : count (site_of site) ≡ st.units
  units_kept_lem =
      let e : (known_by site).units ≡ st.units = ap (λ (s : State). s.units) well.state_is in
      units_count site accepted_site ∙ sym (units_said_lem site went refl late) ∙ e

  pub roofs_and_left : st.left + length (roofs_of site) ≡ 64
  unfolding roofs_of places_of
  roofs_and_left =
      let a = (rises site went refl refl late).left_is in
      let e : (known_by site).left ≡ st.left = ap (λ (s : State). s.left) well.state_is in
      let c : length (roofs_of site) ≡ length (having 6 site (places_of site)) = length_map (roof_at site) (having 6 site (places_of site)) in
      omega arith

  pub roofs_kept_lem : length (roofs_of site) ≡ 64 - st.left
  roofs_kept_lem = let a = roofs_and_left in omega arith

  pub few_left : st.left ≤ 64
  few_left = let a = roofs_and_left in omega arith

  pub few_units : st.units ≤ 64
  few_units = subst (λ (n : ℕ). n ≤ 64) units_kept_lem (sited site accepted_site).few

-- ---- whole fields taken into what is well formed
module _ (k : Kept) (well : WellKept k) (w : List ℕ) (next : State) (l : Leads k.state w next) where
  -- the site part, once the steps have begun
  module _ (b : begun next ≡ true) where
    pub after_accepted : Accepted (site_after k w next)
    after_accepted = accepted_site (site_after k w next) next (site_well k well w next l) b

    pub after_units : count (site_of (site_after k w next)) ≡ next.units
    after_units = units_kept_lem (site_after k w next) next (site_well k well w next l) b

    pub after_roofs : length (roofs_of (site_after k w next)) ≡ 64 - next.left
    after_roofs = roofs_kept_lem (site_after k w next) next (site_well k well w next l) b

    pub after_few_units : next.units ≤ 64
    after_few_units = few_units (site_after k w next) next (site_well k well w next l) b

    pub after_few_left : next.left ≤ 64
    after_few_left = few_left (site_after k w next) next (site_well k well w next l) b

  -- so many bytes have the records of a step
  abbrev step_width : ℕ
  step_width = 40 * next.units + 29 * (64 - next.left)

  pub results_long : length (results_by k w next) ≡ (40 * next.units + 29 * (64 - next.left)) * (next.steps - k.state.steps)
  unfolding results_by steps_by plant_of
  results_long = go (begun next) refl
    where
      site : List ℕ
      site = site_after k w next

      closed : length (steps_by k w) ≡ next.steps - k.state.steps
      closed = let e = steps_counted w l k.due in omega arith

      long : length (records_from (plant_of site) k.state.steps (stands_before k site) (steps_by k w)) ≡ (40 * count (site_of site) + 29 * length (roofs_of site)) * length (steps_by k w)
      long = records_length (plant_of site) k.state.steps (stands_before k site) (steps_by k w)

      go : (b : Bool) → begun next ≡ b → length (records_from (plant_of site) k.state.steps (stands_before k site) (steps_by k w)) ≡ step_width * (next.steps - k.state.steps)
      go true e =
          let s = site_well k well w next l in
          long
          ∙ ap₂ (λ (n m : ℕ). (40 * n + 29 * m) * length (steps_by k w)) (units_kept_lem site next s e) (roofs_kept_lem site next s e)
          ∙ ap (λ (n : ℕ). step_width * n) closed
      go false e =
          let p = 40 * count (site_of site) + 29 * length (roofs_of site) in
          let none : next.steps - k.state.steps ≡ 0 = let n = no_count_yet w l (before_too w l e) e in omega arith in
          long
          ∙ ap (λ (n : ℕ). p * n) (closed ∙ none) ∙ mul-zero p
          ∙ sym (ap (λ (n : ℕ). step_width * n) none ∙ mul-zero step_width)
