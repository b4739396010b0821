-- No run meets a reading that is refused: the check has looked at every power and current, and at the phase choice. Assumes nothing.
use mathlib.Core.Path.{◌≡◌, refl, sym, ap, ◌∙◌, subst, subst⁻¹}
use mathlib.Core.Bool.{Bool, true, false, cond}
use mathlib.Core.List.{List, [], ◌∷◌}
use Prim.Native.Nat.{ℕ, zero, suc, ◌<◌}
use native.Mathlib.Omega.{arith}
use lib.IntN.{ℤ}
use lib.ListN.{length, get_or}
use Rattle.parts.specs.Header.{tag_at}
use Rattle.reading.specs.declared.Phases.{Phases}
use Rattle.reading.specs.declared.Reading.TheVariants.{Missing, Power, Current}
use Rattle.reading.specs.Choice.{measure_of, current_of, refusal_of}
use Rattle.site.specs.declared.Due.{Due}
use Rattle.site.specs.declared.Step.{Step}
use Rattle.site.specs.Site.{none_yet, step_with}
use Rattle.fields.specs.Fields.{is_reading}
use Rattle.stick.specs.Site.{places_from, site_of, reading_at, due_after, steps_in, steps_from, steps_of}
use Rattle.stick.specs.Check.{Accepted}
use Rattle.stick.specs.Posts.{steps_place}
use Rattle.stick.proofs.SiteProved.{sited, steps_from_lem}
use Rattle.fleet.proofs.UsedLaws.{chosen, chosen_current}
use Rattle.stretch.specs.Posts.{FieldsAt, StepsThere}
use Rattle.stretch.proofs.AcceptedLaws.{steps_there}
use Rattle.std.proofs.Common.{Ok}

-- each reading of these fields
usable : (file : List ℕ) (d : Due) (ats : List ℕ) → FieldsAt file ats → (k : ℕ) → k < length (steps_in file d ats) → refusal_of (get_or (steps_in file d ats) k (step_with Missing none_yet)).reading ≡ 0
unfolding FieldsAt steps_in
usable file d [] fs k h = absurd (omega (arith, h))
usable file d (at ∷ ats) fs k h = go (is_reading (tag_at file at)) refl (λ j l. usable file (due_after file d at) ats fs.1 j l) k h
  where
    more : List Step
    more = steps_in file (due_after file d at) ats

    steps : Bool → List Step
    steps a = cond a (step_with (reading_at file at) d ∷ more) more

    Rest : Type 0
    Rest = (j : ℕ) → j < length more → refusal_of (get_or more j (step_with Missing none_yet)).reading ≡ 0

    go : (a : Bool) → is_reading (tag_at file at) ≡ a → Rest → (k : ℕ) → k < length (steps a) → refusal_of (get_or (steps a) k (step_with Missing none_yet)).reading ≡ 0
    go true r rest zero l = (fs.0.reading r).usable
    go true r rest (suc k) l = rest k (omega (arith, l))
    go false r rest k l = rest k l

all_usable : (file : List ℕ) → Accepted file → (k : ℕ) → k < length (steps_of file) → refusal_of (get_or (steps_of file) k (step_with Missing none_yet)).reading ≡ 0
unfolding StepsThere steps_from
all_usable file a k h =
    let at : ℕ = steps_place file in
    let e : steps_in file none_yet (places_from (length file) file at) ≡ steps_of file = steps_from_lem file a in
    subst (λ (ss : List Step). refusal_of (get_or ss k (step_with Missing none_yet)).reading ≡ 0) e
    (usable file none_yet (places_from (length file) file at) (steps_there file a) k (subst⁻¹ (λ (ss : List Step). k < length ss) e h))

-- every power that an accepted file has gives a measure, and every current
pub none_refused_lem : (file : List ℕ) → Accepted file → (k : ℕ) → k < length (steps_of file) → (p : Phases) → (get_or (steps_of file) k (step_with Missing none_yet)).reading ≡ Power p
    → (m : ℤ) × (measure_of p (site_of file).head.phase ≡ Ok m)
none_refused_lem file a k h p e = chosen p (site_of file).head.phase (sited file a).phase (ap refusal_of (sym e) ∙ all_usable file a k h)

pub no_current_refused_lem : (file : List ℕ) → Accepted file → (k : ℕ) → k < length (steps_of file) → (p : Phases) → (get_or (steps_of file) k (step_with Missing none_yet)).reading ≡ Current p
    → (m : ℤ) × (current_of p (site_of file).head.phase ≡ Ok m)
no_current_refused_lem file a k h p e = chosen_current p (site_of file).head.phase (sited file a).phase (ap refusal_of (sym e) ∙ all_usable file a k h)
