-- One step of an inverter that a voltage leads, from what the code has. Where watts come first they do not hang on the vars requested, and these, which fit
-- beside them, are given whole. Assumes nothing.
use mathlib.Core.Path.{◌≡◌, refl, sym, ap, ap₂, ◌∙◌, subst, subst⁻¹}
use mathlib.Core.Bool.{Bool, true, false, not, cond, ◌&&◌, ◌||◌}
use Prim.Native.Nat.{ℕ, ◌^◌, ◌≤◌, ◌<◌, zero-le}
use native.Mathlib.Nat.{le_trans}
use lib.Dec.{leb}
use lib.IntN.{ℤ, pos, nat_abs}
use lib.Signed.{mag}
use borrow.Author.Tests.{le-leb, leb-true}
use Rattle.whole.proofs.Choice.{passed_failed}
use Rattle.whole.proofs.LargestLaws.{leg_le}
use Rattle.whole.proofs.OverLaws.{and_parts}
use Rattle.whole.specs.Interval.{between}
use Rattle.whole.specs.Largest.{leg_of}
use Rattle.curve.specs.Ranges.{points_in}
use Rattle.solar.specs.declared.Inverter.{Inverter}
use Rattle.solar.specs.declared.Sun.{Sun}
use Rattle.solar.specs.declared.Given.{Given}
use Rattle.solar.specs.Roof.{Roof, inverter_in, warm_bounds, efficiency_bounds, roof_in}
use Rattle.solar.specs.Step.{dc_of, on_after, ac_of, limited_vars, watts_of, vars_of, given, given_by, step_of}
use Rattle.solar.proofs.ReliedProved.{relied}
use Rattle.solar.proofs.RoofLaws.{ranged}
use Rattle.lead.specs.declared.Lead.{Lead}
use Rattle.lead.specs.Lead.{first_by, lead, requested_by, kept_by, Modest}
use Rattle.guided.specs.Units.{Guiding}
use Rattle.guided.specs.Roofs.{led_inverter, led_roof, watts_first, requested_of, lit_step, vars_kept}
use Rattle.guided.proofs.SharedLaws.{back, small_same, none_leads, first_most, watts_same, requested_same, requested_none, requested_small, requested_fits, kept_stands, last_back, asked_read, asked_back, kept_back, vars_whole}

-- what is given, with other vars if it is on
abbrev pub with_vars : Given → ℤ → Given
with_vars g vars = given g.on g.watts (cond g.on vars (pos 0)) g.dc

-- a roof with another inverter
abbrev pub roof_with : Roof → Inverter → Roof
roof_with r w = record { inverter = w; warm = r.warm; efficiency = r.efficiency }

-- the inverter with another priority and other vars, and the led one, from what the code has
abbrev inverter_with : Inverter → ℕ → ℤ → Inverter
inverter_with v priority vars = record {
  array = v.array;
  kva = v.kva;
  cut_in = v.cut_in;
  cut_out = v.cut_out;
  limit = v.limit;
  var_request = vars;
  priority = priority;
}

-- ---- the led roof
module _ (l : Lead) (r : Roof) where
  -- it is in its ranges
  module _ (h : roof_in r ≡ true) (vars : ℤ) (small : nat_abs vars ≤ 100000000) where
    priority_most : r.inverter.priority ≤ 1
    unfolding roof_in inverter_in
    priority_most =
        let both = and_parts (inverter_in r.inverter && points_in warm_bounds r.warm) (points_in efficiency_bounds r.efficiency) h in
        let one : inverter_in r.inverter ≡ true = (and_parts (inverter_in r.inverter) (points_in warm_bounds r.warm) both.0).0 in
        let v = r.inverter in
        leb-true v.priority 1
        (and_parts
        (between 1 100000000 v.array && between 1 100000000 v.kva && leb v.cut_in 10000 && leb v.cut_out v.cut_in && leb v.limit 10000
        && leb (nat_abs v.var_request) 100000000)
        (leb v.priority 1) one).1

    roof_same : roof_in (led_roof l r vars) ≡ roof_in r
    unfolding roof_in inverter_in
    roof_same =
        let v = r.inverter in
        ap₂ (λ (w p : Bool).
        (between 1 100000000 v.array && between 1 100000000 v.kva && leb v.cut_in 10000 && leb v.cut_out v.cut_in && leb v.limit 10000
        && w && p) && points_in warm_bounds r.warm && points_in efficiency_bounds r.efficiency)
        (le-leb (nat_abs vars) 100000000 small ∙ sym (le-leb (nat_abs v.var_request) 100000000 (ranged r h).vars_most))
        (le-leb (first_by l v.priority) 1 (first_most l v.priority priority_most) ∙ sym (le-leb v.priority 1 priority_most))

    pub led_in : roof_in (led_roof l r vars) ≡ true
    led_in = roof_same ∙ h

  -- without what leads, it is the roof
  pub led_own : l.after ≡ false → led_roof l r r.inverter.var_request ≡ r
  led_own t = ap (λ (a : Bool). led_roof (lead l.leads a l.fresh l.y) r r.inverter.var_request) t

  -- ---- what it gives, on or off
  module _ (dc : ℕ) (b : ℤ) where
    -- vars that fit beside its watts are given whole, where it is on
    given_whole_lem : (n : Bool) → nat_abs b ≤ leg_of r.inverter.kva (nat_abs (given_by (led_roof l r b) n dc).watts) → (given_by (led_roof l r b) n dc).on ≡ true
        → (given_by (led_roof l r b) n dc).vars ≡ b
    unfolding given_by vars_of
    given_whole_lem true h e =
        let w = watts_of (led_roof l r b) dc in
        vars_whole b r.inverter.kva w h r.inverter.kva (le_trans h (leg_le r.inverter.kva w))
    given_whole_lem false h e = absurd (passed_failed e refl)

    -- watts first: they do not hang on the vars requested
    module _ (after : l.after ≡ true) (a : ℤ) where
      power_same : watts_of (led_roof l r a) dc ≡ watts_of (led_roof l r b) dc
      unfolding watts_of ac_of
      power_same =
          watts_same l after r.inverter.kva r.inverter.priority (limited_vars (led_inverter l r.inverter a)) (limited_vars (led_inverter l r.inverter b))
          (ac_of (led_roof l r b) dc)

      given_same : (n : Bool) → (given_by (led_roof l r a) n dc).watts ≡ (given_by (led_roof l r b) n dc).watts
      unfolding given_by
      given_same true = ap pos power_same
      given_same false = refl

      -- so what is given with vars that fit is what was given, with these vars if it is on
      given_others : (n : Bool) → nat_abs b ≤ leg_of r.inverter.kva (nat_abs (given_by (led_roof l r a) n dc).watts)
          → with_vars (given_by (led_roof l r a) n dc) b ≡ given_by (led_roof l r b) n dc
      unfolding given_by
      given_others true h =
          ap₂ (λ (p : ℕ) (q : ℤ). given true (pos p) q dc) power_same
          (sym (given_whole_lem true (subst (λ (w : ℤ). nat_abs b ≤ leg_of r.inverter.kva (nat_abs w)) (given_same true) h) refl))
      given_others false h = refl

  -- ---- a step of it: DC power, and on or off, are the roof's own
  module _ (on : Bool) (s : Sun) (b : ℤ) where
    step_whole : nat_abs b ≤ leg_of r.inverter.kva (nat_abs (step_of (led_roof l r b) on s).watts) → (step_of (led_roof l r b) on s).on ≡ true
        → (step_of (led_roof l r b) on s).vars ≡ b
    unfolding step_of dc_of on_after
    step_whole = given_whole_lem (dc_of r s) b (on_after r.inverter on (dc_of r s))

    module _ (after : l.after ≡ true) (a : ℤ) where
      step_same : (step_of (led_roof l r a) on s).watts ≡ (step_of (led_roof l r b) on s).watts
      unfolding step_of dc_of on_after
      step_same = given_same (dc_of r s) b after a (on_after r.inverter on (dc_of r s))

      step_others : nat_abs b ≤ leg_of r.inverter.kva (nat_abs (step_of (led_roof l r a) on s).watts)
          → with_vars (step_of (led_roof l r a) on s) b ≡ step_of (led_roof l r b) on s
      unfolding step_of dc_of on_after
      step_others = given_others (dc_of r s) b after a (on_after r.inverter on (dc_of r s))

-- ---- a led step
module _ (l : Lead) (r : Roof) (last : ℤ) (on : Bool) (s : Sun) where
  abbrev v : Inverter
  v = r.inverter

  -- without what leads it is the step as it was, and what is kept stands
  requested_own : l.leads ≡ false → l.fresh ≡ false → requested_of l r last on s ≡ v.var_request
  unfolding requested_of
  requested_own d f = requested_none l v.var_request last v.kva d f (watts_first l r on s)

  pub unled_is : l.leads ≡ false → l.after ≡ false → l.fresh ≡ false → lit_step l r last on s ≡ step_of r on s
  unfolding lit_step
  unled_is d a f = ap (λ (x : Roof). step_of x on s) (ap (led_roof l r) (requested_own d f) ∙ led_own l r a)

  pub stands_is : l.leads ≡ false → vars_kept l r last on s ≡ last
  unfolding vars_kept
  stands_is d = kept_stands l last (requested_of l r last on s) d

  -- with watts first, they are those of the step itself
  pub lit_same : l.after ≡ true → watts_first l r on s ≡ nat_abs (lit_step l r last on s).watts
  unfolding lit_step watts_first
  lit_same a = ap nat_abs (step_same l r on s (requested_of l r last on s) a v.var_request)

  module _ (h : roof_in r ≡ true) (g : Guiding l last) where
    -- the vars requested are small
    pub asked_small : nat_abs (requested_of l r last on s) ≤ 100000000
    unfolding requested_of
    asked_small = requested_small l v.var_request last v.kva g (watts_first l r on s) (ranged r h).vars_most (ranged r h).kva_most

    -- by what the circle leaves after the watts, they fit beside these, and are given whole
    module _ (f : l.fresh ≡ true) (a : l.after ≡ true) where
      first_fits : nat_abs (requested_of l r last on s) ≤ leg_of v.kva (watts_first l r on s)
      unfolding requested_of
      first_fits = requested_fits l v.var_request last v.kva g (watts_first l r on s) f a

      pub lit_fits : nat_abs (requested_of l r last on s) ≤ leg_of v.kva (nat_abs (lit_step l r last on s).watts)
      lit_fits = subst (λ (w : ℕ). nat_abs (requested_of l r last on s) ≤ leg_of v.kva w) (lit_same a) first_fits

      pub lit_whole : (lit_step l r last on s).on ≡ true → (lit_step l r last on s).vars ≡ requested_of l r last on s
      unfolding lit_step
      lit_whole = step_whole l r on s (requested_of l r last on s) lit_fits

    -- ---- the same from what the code has
    pub requested_asks : Modest l × (v.kva ≤ 100000000)
    requested_asks = (g.modest, (ranged r h).kva_most)

    -- the vars requested, as the code has them; then the led roof is in its ranges, and what is kept is right
    module _ (asked : ℤ) (ea : asked ≡ requested_of l r last on s) where
      asked_is : back asked ≡ requested_of l r last on s
      asked_is = asked_back l last g (requested_of l r last on s) asked_small asked ea

      kept_is : (kept : ℤ) → mag kept < 2 ^ 31 → kept ≡ kept_by l (back last) (back asked) → back kept ≡ vars_kept l r last on s
      unfolding vars_kept
      kept_is = kept_back l last g (requested_of l r last on s) asked_small asked ea

    -- handed on to a function of the code, and back
    pub step_read : (x : Given) → x ≡ lit_step l r (back last) on s → x ≡ lit_step l r last on s
    step_read x e = e ∙ ap (λ (z : ℤ). lit_step l r z on s) (last_back l last g)

    pub kept_read : (k : ℤ) → k ≡ vars_kept l r (back last) on s → k ≡ vars_kept l r last on s
    kept_read k e = e ∙ ap (λ (z : ℤ). vars_kept l r z on s) (last_back l last g)

    -- without what leads
    module _ (t : not (l.leads || l.after || l.fresh) ≡ true) where
      pub unled_step : (x : Given) → x ≡ step_of r on s → x ≡ lit_step l r last on s
      unled_step x e = let n = none_leads l t in e ∙ sym (unled_is n.0 n.1.0 n.1.1)

      pub unled_kept : back last ≡ vars_kept l r last on s
      unled_kept = last_back l last g ∙ sym (stands_is (none_leads l t).0)

    -- without watts
    module _ (none : watts_first l r on s ≡ 0) (asked : ℤ) (e : asked ≡ requested_by l (back v.var_request) (back last) v.kva 0) where
      none_asked : asked ≡ requested_of l r last on s
      unfolding requested_of
      none_asked =
          asked_read l last g v.var_request (ranged r h).vars_most v.kva 0 asked e
          ∙ sym (ap (requested_by l v.var_request last v.kva) none)

      pub none_kept : (kept : ℤ) → mag kept < 2 ^ 31 → kept ≡ kept_by l (back last) (back asked) → back kept ≡ vars_kept l r last on s
      none_kept = kept_is asked none_asked

    -- whatever the watts are
    module _ (t : (l.fresh && l.after) ≡ false) (asked : ℤ) (e : asked ≡ requested_by l (back v.var_request) (back last) v.kva 0) where
      before_asked : asked ≡ requested_of l r last on s
      unfolding requested_of
      before_asked =
          asked_read l last g v.var_request (ranged r h).vars_most v.kva 0 asked e
          ∙ requested_same l v.var_request last v.kva t 0 (watts_first l r on s)

      module _ (w : Inverter) (ew : w ≡ led_inverter l v (back asked)) where
        roof_is : roof_with r w ≡ led_roof l r (requested_of l r last on s)
        roof_is = ap (roof_with r) (ew ∙ ap (led_inverter l v) (asked_is asked before_asked))

        pub before_in : roof_in (roof_with r w) ≡ true
        before_in = ap roof_in roof_is ∙ led_in l r h (requested_of l r last on s) asked_small

        pub before_step : (x : Given) → x ≡ step_of (roof_with r w) on s → x ≡ lit_step l r last on s
        unfolding lit_step
        before_step x e = e ∙ ap (λ (y : Roof). step_of y on s) roof_is

      pub before_kept : (kept : ℤ) → mag kept < 2 ^ 31 → kept ≡ kept_by l (back last) (back asked) → back kept ≡ vars_kept l r last on s
      before_kept = kept_is asked before_asked

    -- after the watts, which come first: those of a step with no vars
    module _ (t : (l.fresh && l.after) ≡ true) (w : Inverter) (ew : w ≡ led_inverter l v (pos 0)) where
      abbrev first_roof : Roof
      first_roof = led_roof l r (pos 0)

      first_is : roof_with r w ≡ first_roof
      first_is = ap (roof_with r) ew

      first_in : roof_in first_roof ≡ true
      first_in = led_in l r h (pos 0) zero-le

      pub after_in : roof_in (roof_with r w) ≡ true
      after_in = ap roof_in first_is ∙ first_in

      first_watts : nat_abs (step_of first_roof on s).watts ≡ watts_first l r on s
      unfolding watts_first
      first_watts = ap nat_abs (step_same l r on s v.var_request (and_parts l.fresh l.after t).1 (pos 0))

      module _ (x : Given) (ex : x ≡ step_of (roof_with r w) on s) where
        given_is : x ≡ step_of first_roof on s
        given_is = ex ∙ ap (λ (y : Roof). step_of y on s) first_is

        watts_back : back x.watts ≡ (step_of first_roof on s).watts
        watts_back =
            ap (λ (y : Given). back y.watts) given_is
            ∙ small_same (step_of first_roof on s).watts (le_trans (relied first_roof first_in on s).within_s (ranged r h).kva_most)

        module _ (size : ℕ) (es : size ≡ nat_abs (back x.watts)) (asked : ℤ) (e : asked ≡ requested_by l (back v.var_request) (back last) v.kva size) where
          size_is : size ≡ watts_first l r on s
          size_is = es ∙ ap nat_abs watts_back ∙ first_watts

          after_asked : asked ≡ requested_of l r last on s
          unfolding requested_of
          after_asked =
              asked_read l last g v.var_request (ranged r h).vars_most v.kva size asked e
              ∙ ap (requested_by l v.var_request last v.kva) size_is

          pub after_step : (y : Given) → y ≡ with_vars x (back asked) → y ≡ lit_step l r last on s
          unfolding lit_step
          after_step y ey =
              let p = and_parts l.fresh l.after t in
              let fits = subst⁻¹ (λ (n : ℕ). nat_abs (requested_of l r last on s) ≤ leg_of v.kva n) first_watts (first_fits p.0 p.1) in
              ey
              ∙ ap₂ with_vars given_is (asked_is asked after_asked)
              ∙ step_others l r on s (requested_of l r last on s) p.1 (pos 0) fits

          pub after_kept : (kept : ℤ) → mag kept < 2 ^ 31 → kept ≡ kept_by l (back last) (back asked) → back kept ≡ vars_kept l r last on s
          after_kept = kept_is asked after_asked
