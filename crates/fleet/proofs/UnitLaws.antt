-- One unit's step as the code takes it: a unit in its ranges that holds something else, no more than rated, stays in them; where nothing leads it takes the step
-- without a lead. Assumes nothing.
use mathlib.Core.Path.{◌≡◌, refl, sym, ap, ◌∙◌, subst⁻¹}
use mathlib.Core.Bool.{true, not, ◌||◌}
use Prim.Native.Nat.{ℕ, ◌≤◌, ◌<◌, ◌^◌}
use lib.Dec.{leb}
use lib.IntN.{ℤ}
use lib.Signed.{mag}
use mir.Syntax.{w32}
use borrow.Author.Tests.{le-leb}
use Rattle.whole.proofs.SignLaws.{read}
use Rattle.unit.specs.declared.Unit.{Unit}
use Rattle.unit.specs.Ranges.{idle_draw, member_in, unit_in, holding, Ranged}
use Rattle.unit.proofs.RangeLaws.{Bounds, bounds}
use Rattle.lead.specs.declared.Lead.{Lead}
use Rattle.storage.specs.declared.Outcome.{Outcome}
use Rattle.storage.specs.Step.{step_of}
use Rattle.guided.specs.Units.{led_step, vars_kept}
use Rattle.guided.specs.Units.{Guiding}
use Rattle.guided.proofs.SharedLaws.{back, last_back, none_leads}
use Rattle.guided.proofs.UnitLaws.{step_read, kept_read, unled_is, stands_is}

-- ---- a unit that holds something else
pub holding_in : (u : Unit) (s : ℕ) → unit_in u ≡ true → s ≤ u.rated → unit_in (holding u s) ≡ true
unfolding unit_in member_in idle_draw
holding_in u s e h =
    let b : Bounds u 1 = bounds {u = u} {seconds = 1} (record { unit = e; seconds_in_is = refl }) in
    let same : leb s u.rated ≡ leb u.stored u.rated = le-leb s u.rated h ∙ sym (le-leb u.stored u.rated b.stored_most) in
    cc

pub holding_ranged : (u : Unit) (s seconds : ℕ) → Ranged u seconds → s ≤ u.rated → Ranged (holding u s) seconds
holding_ranged u s seconds r h = record { unit = holding_in u s r.unit h; seconds_in_is = r.seconds_in_is }

-- ---- a step as the code has it
module _ (l : Lead) (u : Unit) (s : ℕ) (last : ℤ) (seconds : ℕ) (request : ℤ) (r : Ranged u seconds) (w : s ≤ u.rated) (g : Guiding l last) (h : mag request < 2 ^ 31) where
  pub ranged : Ranged (holding u s) seconds
  ranged = holding_ranged u s seconds r w

  pub give_asks : Ranged (holding u s) seconds × Guiding l (back last)
  give_asks = (ranged, subst⁻¹ (Guiding l) (last_back l last g) g)

  pub step_is : (o : Outcome) → o ≡ led_step l (holding u s) (back last) seconds (back request) → o ≡ led_step l (holding u s) last seconds request
  step_is = step_read l (holding u s) last seconds request ranged g h

  pub kept_is : (k : ℤ) → k ≡ vars_kept l (holding u s) (back last) seconds (back request) → k ≡ vars_kept l (holding u s) last seconds request
  kept_is = kept_read l (holding u s) last seconds request ranged g h

  -- where nothing leads
  module _ (t : not (l.leads || l.after || l.fresh) ≡ true) where
    pub own_is : (o : Outcome) → o ≡ step_of (holding u s) seconds (back request) → o ≡ led_step l (holding u s) last seconds request
    own_is o e =
        let n = none_leads l t in
        e ∙ ap (step_of (holding u s) seconds) (read w32 request h) ∙ sym (unled_is l (holding u s) last seconds request n.0 n.1.0 n.1.1)

    pub own_keeps : back last ≡ vars_kept l (holding u s) last seconds request
    own_keeps = last_back l last g ∙ sym (stands_is l (holding u s) last seconds request (none_leads l t).0)
