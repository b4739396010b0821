-- One step of every unit: a loop that replaces each store and the vars last requested of each, and adds what the unit does to the sums, has done so for all of them. Assumes nothing.
use mathlib.Core.Path.{◌≡◌, refl, sym, ap, ap₂, ◌∙◌, subst⁻¹}
use mathlib.Core.Bool.{Bool, false}
use mathlib.Core.List.{List}
use Prim.Native.Nat.{ℕ, ◌+◌, ◌*◌, ◌^◌, ◌≤◌, ◌<◌}
use native.Mathlib.Nat.{le_trans, le_of_eq, mul-le-mul}
use native.Mathlib.Numerals.{add-one}
use native.Mathlib.Omega.{arith}
use lib.IntN.{ℤ, pos, negsuc, nat_abs, ◌+ℤ◌}
use lib.Signed.{mag}
use lib.ListN.{length, get_or, set}
use mir.Syntax.{w32}
use Rattle.whole.specs.Over.{sum_of, sum_ofℤ, some_of}
use Rattle.whole.proofs.OverLaws.{part, part_none, part_all, part_next, part_more}
use Rattle.whole.proofs.SignLaws.{read, wide_size}
use Rattle.unit.specs.Ranges.{holding}
use Rattle.unit.proofs.RangeLaws.{bounds}
use Rattle.storage.specs.declared.Outcome.{Outcome}
use Rattle.storage.specs.Relied.{Balanced, carried}
use Rattle.lead.specs.declared.Lead.{Lead}
use Rattle.lead.specs.Lead.{Modest}
use Rattle.guided.specs.Units.{led_step, LedLaw, Guiding}
use Rattle.guided.proofs.LedProved.{led_law}
use Rattle.guided.proofs.SharedLaws.{back, small_same}
use Rattle.site.specs.Site.{Site, count, unit_of}
use Rattle.site.specs.Ranges.{Sited}
use Rattle.fleet.specs.Step.{given, kept_vars, stored_after, vars_after}
use Rattle.fleet.specs.Posts.{Held}
use Rattle.fleet.proofs.SiteLaws.{held_ranged}
use Rattle.tally.specs.declared.Sums.{Sums}
use Rattle.tally.specs.Posts.{Within}
use Rattle.peaks.specs.Figures.{not_met, sums_of}
use Rattle.peaks.specs.Posts.{with_unit}

-- ---- what a unit loses: its store, or what it draws
pub loss_small : (seconds before after loss : ℕ) (w : ℤ) → Balanced seconds before w after loss → before ≤ 10000000000000 → seconds ≤ 86400 → mag w < 2 ^ 31 → loss ≤ 200000000000000
loss_small seconds before after loss (pos x) e hb hs hw = omega arith
loss_small seconds before after loss (negsuc x) e hb hs hw =
    let n : nat_abs (negsuc x) ≤ 2147483648 = wide_size (negsuc x) hw in
    let p : nat_abs (negsuc x) * seconds ≤ 2147483648 * 86400 = mul-le-mul n hs in
    omega arith

-- ---- the sums with one unit more
pub sums_more : (i : ℕ) (site : Site) (l : Lead) (stored : List ℕ) (rs vs : List ℤ)
    → let o = given site l i (get_or stored i 0) (get_or rs i (pos 0)) (get_or vs i (pos 0)) in
    sums_of (i + 1) site l stored rs vs ≡ with_unit (sums_of i site l stored rs vs) (not_met (get_or rs i (pos 0)) (carried (unit_of site i) o)) o
unfolding sums_of with_unit sum_of sum_ofℤ some_of
sums_more i site l stored rs vs = ap (λ (n : ℕ). sums_of n site l stored rs vs) (add-one i)

-- ---- the loop over the units
module _ (site : Site) (l : Lead) (stored : List ℕ) (rs vs : List ℤ) where
  -- what a unit does, what it holds afterwards, and the vars then kept
  abbrev does : ℕ → Outcome
  does i = given site l i (get_or stored i 0) (get_or rs i (pos 0)) (get_or vs i (pos 0))

  abbrev left : ℕ → ℕ → ℕ
  left i s = (given site l i s (get_or rs i (pos 0)) (get_or vs i (pos 0))).stored

  abbrev kept : ℕ → ℤ → ℤ
  kept i v = kept_vars site l i (get_or stored i 0) (get_or rs i (pos 0)) v

  pub record Giving (i : ℕ) (now-stored : List ℕ) (now-vars : List ℤ) (sums : Sums) : Type 0 where
    pub upto : i ≤ count site
    pub stored_is : now-stored ≡ part left stored i
    pub vars_is : now-vars ≡ part kept vs i
    pub sums_is : sums ≡ sums_of i site l stored rs vs
    pub within : Within i sums

  pub none_given : Giving 0 stored vs (record { power = pos 0; stored = 0; loss = 0; missed = false })
  unfolding sums_of sum_of sum_ofℤ some_of
  none_given = record {
    upto = omega arith;
    stored_is = sym (part_none left stored);
    vars_is = sym (part_none kept vs);
    sums_is = refl;
    within = record { power_small = omega arith; stored_small = omega arith; loss_small = omega arith };
  }

  module _ (h : Sited site) (st : Held site stored rs vs) (y : Modest l) (i : ℕ) (now-stored : List ℕ) (now-vars : List ℤ) (sums : Sums) (g : Giving i now-stored now-vars sums) where
    module _ (b : i < count site) where
      in_stored : i < length stored
      in_stored = le_trans b (le_of_eq (sym st.stores))

      in_vars : i < length vs
      in_vars = le_trans b (le_of_eq (sym st.leads))

      -- the next unit holds what it held, no more than rated, and its vars are as they were
      next_holds : get_or now-stored i 0 ≡ get_or stored i 0
      next_holds = ap (λ (t : List ℕ). get_or t i 0) g.stored_is ∙ part_next left stored i 0 in_stored

      next_vars : back (get_or now-vars i (pos 0)) ≡ get_or vs i (pos 0)
      next_vars =
          ap (λ (t : List ℤ). back (get_or t i (pos 0))) g.vars_is ∙ ap back (part_next kept vs i (pos 0) in_vars)
          ∙ small_same (get_or vs i (pos 0)) (st.small i b)

      pub next_within : get_or now-stored i 0 ≤ (unit_of site i).rated
      next_within = le_trans (le_of_eq next_holds) (st.within i b)

      pub next_guiding : Guiding l (back (get_or now-vars i (pos 0)))
      next_guiding = subst⁻¹ (Guiding l) next_vars (record { modest = y; last_small = st.small i b })

      -- what is relied on of its step
      law : LedLaw l (holding (unit_of site i) (get_or stored i 0)) (get_or vs i (pos 0)) site.head.seconds (get_or rs i (pos 0))
      law =
          led_law l (holding (unit_of site i) (get_or stored i 0)) (get_or vs i (pos 0)) site.head.seconds (get_or rs i (pos 0))
          (held_ranged site h i (get_or stored i 0) b (st.within i b)) (record { modest = y; last_small = st.small i b })

      -- by what the code reads of the lists
      module _ (hr : mag (get_or rs i (pos 0)) < 2 ^ 31) (o : Outcome) (eo : o ≡ given site l i (get_or now-stored i 0) (back (get_or rs i (pos 0))) (back (get_or now-vars i (pos 0)))) where
        request_is : back (get_or rs i (pos 0)) ≡ get_or rs i (pos 0)
        request_is = read w32 (get_or rs i (pos 0)) hr

        does_is : o ≡ does i
        does_is =
            eo ∙ ap₂ (λ (s : ℕ) (z : ℤ). given site l i s z (back (get_or now-vars i (pos 0)))) next_holds request_is
            ∙ ap (given site l i (get_or stored i 0) (get_or rs i (pos 0))) next_vars

        does_stored : (does i).stored ≤ (unit_of site i).rated
        unfolding given led_step
        does_stored = law.relied.never_above_rated

        does_balanced : Balanced site.head.seconds (get_or stored i 0) (does i).watts (does i).stored (does i).loss
        unfolding given led_step
        does_balanced = law.relied.conserved

        pub unit_fits_is : mag o.watts < 2 ^ 31 → (o.stored ≤ 10000000000000) × (o.loss ≤ 200000000000000)
        unit_fits_is hw =
            let r = bounds (held_ranged site h i (get_or stored i 0) b (st.within i b)) in
            let top = r.rated_most in
            let within = st.within i b in
            let stays = does_stored in
            let lost : o.loss ≤ 200000000000000 =
            loss_small site.head.seconds (get_or stored i 0) o.stored o.loss o.watts
            (subst⁻¹ (λ (x : Outcome). Balanced site.head.seconds (get_or stored i 0) x.watts x.stored x.loss) does_is does_balanced) (omega arith) r.seconds_most hw in
            let same : o.stored ≡ (does i).stored = ap (λ (x : Outcome). x.stored) does_is in
            (omega arith, lost)

        -- one unit more
        pub one_more : (k : ℤ) → mag k < 2 ^ 31 → k ≡ kept_vars site l i (get_or now-stored i 0) (back (get_or rs i (pos 0))) (back (get_or now-vars i (pos 0)))
            → (grid : ℕ) → grid ≡ (unit_of site i).grid_loss → (missed : Bool) → missed ≡ not_met (back (get_or rs i (pos 0))) (o.watts +ℤ pos grid)
            → (more : Sums) → more ≡ with_unit sums missed o → Within (i + 1) more
            → Giving (i + 1) (set now-stored i o.stored) (set now-vars i (back k)) more
        one_more k hk ek grid eg missed em more es w =
            let kept_is : back k ≡ kept i (get_or vs i (pos 0)) =
            read w32 k hk ∙ ek ∙ ap₂ (λ (s : ℕ) (z : ℤ). kept_vars site l i s z (back (get_or now-vars i (pos 0)))) next_holds request_is ∙ ap (kept i) next_vars in
            let missed_is : missed ≡ not_met (get_or rs i (pos 0)) (carried (unit_of site i) (does i)) =
            em ∙ ap₂ (λ (z : ℤ) (n : ℕ). not_met z (o.watts +ℤ pos n)) request_is eg ∙ ap (λ (x : Outcome). not_met (get_or rs i (pos 0)) (carried (unit_of site i) x)) does_is in
            let all : with_unit sums missed o ≡ with_unit (sums_of i site l stored rs vs) (not_met (get_or rs i (pos 0)) (carried (unit_of site i) (does i))) (does i) =
            ap (λ (u : Sums). with_unit u missed o) g.sums_is ∙ ap₂ (with_unit (sums_of i site l stored rs vs)) missed_is does_is in
            record {
              upto = omega arith;
              stored_is =
                  ap (λ (t : List ℕ). set t i o.stored) g.stored_is
                  ∙ part_more left stored i 0 o.stored in_stored (ap (λ (x : Outcome). x.stored) does_is);
              vars_is = ap (λ (t : List ℤ). set t i (back k)) g.vars_is ∙ part_more kept vs i (pos 0) (back k) in_vars kept_is;
              sums_is = es ∙ all ∙ sym (sums_more i site l stored rs vs);
              within = w;
            }

    -- all units
    pub all_given : i ≡ count site → (now-stored ≡ stored_after site l stored rs vs)
        × ((now-vars ≡ vars_after site l stored rs vs) × ((sums ≡ sums_of (count site) site l stored rs vs) × Within 64 sums))
    unfolding stored_after vars_after
    all_given e =
        let w = g.within in
        let few = h.few in
        let p = w.power_small in
        let q = w.stored_small in
        let r = w.loss_small in (
          g.stored_is ∙ ap (part left stored) (e ∙ sym st.stores) ∙ part_all left stored,
          (
            g.vars_is ∙ ap (part kept vs) (e ∙ sym st.leads) ∙ part_all kept vs,
            (
              g.sums_is ∙ ap (λ (n : ℕ). sums_of n site l stored rs vs) e,
              record { power_small = omega arith; stored_small = omega arith; loss_small = omega arith },
            ),
          ),
        )
