-- One step of a fleet: the pass on what the meter shows of its reading, or none, and one step of every unit, whose sums are those of the step. Assumes nothing.
use mathlib.Core.Path.{◌≡◌, refl, sym, ap, ap₂, ◌∙◌}
use mathlib.Core.Bool.{Bool, true, false, cond, not}
use mathlib.Core.List.{List}
use Prim.Native.Nat.{ℕ, ◌^◌, ◌<◌}
use lib.Dec.{leb, ltb}
use lib.IntN.{ℤ}
use lib.Signed.{mag}
use mir.Syntax.{w64}
use mir.Val.{to_z, of_z}
use borrow.Author.Tests.{leb-true, leb-false, lt-ltb, le-ltb}
use Rattle.whole.proofs.SignLaws.{read}
use Rattle.reading.specs.declared.Reading.{Reading}
use Rattle.reading.specs.declared.Reading.TheVariants.{Missing, Power, Current}
use Rattle.reading.specs.Choice.{measure_of, current_of, shown_by, meter_of}
use Rattle.rules.specs.Rules.{by_current}
use Rattle.members.specs.Ranges.{fleet_for}
use Rattle.controller.specs.Pass.{pass_of}
use Rattle.lead.specs.declared.Lead.{Lead}
use Rattle.site.specs.Site.{Site, count}
use Rattle.fleet.specs.declared.Moment.{Moment}
use Rattle.fleet.specs.Step.{standing, passed_on, asked_by_watts, asked_by_current, asked_by}
use Rattle.tally.specs.declared.Sums.{Sums}
use Rattle.peaks.specs.Figures.{sums_of, sums_by}
use Rattle.peaks.specs.Posts.{of_kind}
use Rattle.std.proofs.Common.{Err, None, Ok, Option, Result, Some}
use Rattle.whole.specs.declared.Refusal.{Refusal}

-- a mode that does not go by current goes by watts
pub by_watts_lem : (mode : ℕ) → ltb mode 4 ≡ not (by_current mode)
by_watts_lem mode = go (leb 4 mode) refl
  where
    go : (b : Bool) → leb 4 mode ≡ b → ltb mode 4 ≡ not b
    go true e = le-ltb mode 4 (leb-true 4 mode e)
    go false e = lt-ltb mode 4 (leb-false 4 mode e)

-- ---- the pass, or none, by what the meter shows and whether the reading is of the mode's kind
module _ (site : Site) (stored : List ℕ) (rs : List ℤ) where
  abbrev passed : ℤ → List ℤ
  passed z = pass_of site.head.settings z (fleet_for site.units stored) rs

  abbrev asked_on : Option ℤ → Bool → List ℤ
  asked_on (Some z) kind = cond kind (passed z) rs
  asked_on None kind = rs

  by_shown : (r : Reading) → asked_by site stored rs r ≡ asked_on (meter_of r site.head.phase) (of_kind r site.head.settings.mode)
  unfolding asked_by asked_by_watts asked_by_current meter_of of_kind
  by_shown Missing = none (by_current site.head.settings.mode)
    where
      none : (b : Bool) → cond b rs rs ≡ rs
      none true = refl
      none false = refl
  by_shown (Power p) = powers (by_current site.head.settings.mode) (measure_of p site.head.phase)
    where
      powers : (b : Bool) (x : Result ℤ Refusal) → cond b rs (passed_on site stored rs x) ≡ asked_on (shown_by x) (not b)
      powers true (Ok z) = refl
      powers true (Err n) = refl
      powers false (Ok z) = refl
      powers false (Err n) = refl
  by_shown (Current p) = currents (by_current site.head.settings.mode) (current_of p site.head.phase)
    where
      currents : (b : Bool) (x : Result ℤ Refusal) → cond b (passed_on site stored rs x) rs ≡ asked_on (shown_by x) b
      currents true (Ok z) = refl
      currents true (Err n) = refl
      currents false (Ok z) = refl
      currents false (Err n) = refl

  -- by the meter's value and the test's, as the code has them
  module _ (r : Reading) (m : Option ℤ) (em : m ≡ meter_of r site.head.phase) where
    asked_on_lem : (kind : Bool) → kind ≡ of_kind r site.head.settings.mode → asked_on m kind ≡ asked_by site stored rs r
    asked_on_lem kind ek = ap₂ asked_on em ek ∙ sym (by_shown r)

    pub silent_asks : m ≡ None → rs ≡ asked_by site stored rs r
    silent_asks e = sym (ap (λ (x : Option ℤ). asked_on x (of_kind r site.head.settings.mode)) e) ∙ asked_on_lem (of_kind r site.head.settings.mode) refl

    module _ (z : ℤ) (e : m ≡ Some z) where
      shown_asks : (kind : Bool) → kind ≡ of_kind r site.head.settings.mode → cond kind (passed z) rs ≡ asked_by site stored rs r
      shown_asks kind ek = sym (ap (λ (x : Option ℤ). asked_on x kind) e) ∙ asked_on_lem kind ek

      pub other_asks : false ≡ of_kind r site.head.settings.mode → rs ≡ asked_by site stored rs r
      other_asks ek = shown_asks false ek

      pub pass_asks : true ≡ of_kind r site.head.settings.mode → mag z < 2 ^ 63 → (after : List ℤ) → after ≡ passed (to_z w64 (of_z w64 z)) → after ≡ asked_by site stored rs r
      pass_asks ek fits after d = d ∙ ap passed (read w64 z fits) ∙ shown_asks true ek

-- a step, as the laws of one have it; its number and the place of its records matter to none of them
abbrev pub moment_of : Lead → Reading → Moment
moment_of l r = record { step = 0; reading = r; lead = l; at = 0 }

pub step_sums : (site : Site) (l : Lead) (stored : List ℕ) (rs vs rs' : List ℤ) (r : Reading) → rs' ≡ asked_by site stored rs r
    → (u : Sums) → u ≡ sums_of (count site) site l stored rs' vs → u ≡ sums_by site l (standing stored rs vs) r
unfolding sums_by
step_sums site l stored rs vs rs' r ea u eu = eu ∙ ap (λ (qs : List ℤ). sums_of (count site) site l stored qs vs) ea
