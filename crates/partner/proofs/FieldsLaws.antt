-- What the fields of a run file ask for: those before the steps nothing, a reading the fields of its step, the end field the end record, and behind that the
-- file ends. So what is asked from a place on goes field by field, as the steps do. Assumes nothing.
use mathlib.Core.Path.{◌≡◌, refl, ap, ap₂, ◌∙◌}
use mathlib.Core.Bool.{Bool, true, false, cond, ◌||◌}
use mathlib.Core.List.{List, [], ◌∷◌, ◌++◌, map}
use Prim.Native.Nat.{ℕ, zero, suc, ◌≤◌, ◌<◌}
use native.Mathlib.Omega.{arith}
use lib.Dec.{leb, eqb}
use lib.ListN.{length}
use borrow.Author.Tests.{leb-false, eq-eqb}
use Rattle.whole.proofs.Choice.{passed_failed}
use Rattle.parts.specs.Header.{tag_at, past}
use Rattle.site.specs.declared.Due.{Due}
use Rattle.site.specs.declared.Step.{Step}
use Rattle.site.specs.Site.{Plant}
use Rattle.fields.specs.Fields.{is_reading}
use Rattle.stick.specs.Site.{places_of, plant_of, due_after, steps_from, of_steps, head_from}
use Rattle.stick.specs.Check.{Accepted}
use Rattle.stick.specs.Posts.{steps_place}
use Rattle.stick.proofs.PlaceLaws.{from, from_over, from_field, steps_over}
use Rattle.stick.proofs.StepLaws.{Ending, ends_here, ends_later}
use Rattle.stick.proofs.SiteProved.{walk_accepted}
use Rattle.records.specs.Records.{end_bytes}
use Rattle.stretch.proofs.FieldLaws.{steps_field, closes_none}
use Rattle.chunks.proofs.HeadFile.{head_place}
use Rattle.partner.specs.Verdict.{Field, asked_by, sizes_of, fields_at, fields_in, fields_of}

-- a tag before the steps is no reading's and not the end's
before_steps_lem : (tag : ℕ) → of_steps tag ≡ false → (is_reading tag ≡ false) × (eqb tag 127 ≡ false)
before_steps_lem tag = go (is_reading tag) (eqb tag 8) (eqb tag 12) (eqb tag 127)
  where
    go : (a b c d : Bool) → (a || b || c || d) ≡ false → (a ≡ false) × (d ≡ false)
    go true b c d e = absurd (passed_failed refl e)
    go false true c d e = absurd (passed_failed refl e)
    go false false true d e = absurd (passed_failed refl e)
    go false false false d e = (refl, e)

module _ (p : Plant) (run : List ℕ) where
  -- ---- what one field asks for, by its tag
  asks_by : (at : ℕ) (a b : Bool) → is_reading (tag_at run at) ≡ a → eqb (tag_at run at) 127 ≡ b
      → fields_at p run at ≡ cond a (map (asked_by at) (sizes_of p)) (cond b (asked_by at end_bytes ∷ []) [])
  unfolding fields_at
  asks_by at a b ea eb = ap₂ (λ (a b : Bool). cond a (map (asked_by at) (sizes_of p)) (cond b (asked_by at end_bytes ∷ []) [])) ea eb

  pub reading_asks : (at : ℕ) → is_reading (tag_at run at) ≡ true → fields_at p run at ≡ map (asked_by at) (sizes_of p)
  reading_asks at r = asks_by at true (eqb (tag_at run at) 127) r refl

  pub asks_nothing : (at : ℕ) → is_reading (tag_at run at) ≡ false → eqb (tag_at run at) 127 ≡ false → fields_at p run at ≡ []
  asks_nothing at r e = asks_by at false false r e

  pub end_asks : (at : ℕ) → tag_at run at ≡ 127 → fields_at p run at ≡ asked_by at end_bytes ∷ []
  end_asks at e = asks_by at false true (ap is_reading e) (eq-eqb (tag_at run at) 127 e)

  -- ---- what the fields from a place on ask for
  pub fields_field : (at : ℕ) → at < length run → fields_in p run (from run at) ≡ fields_at p run at ++ fields_in p run (from run (past run at))
  unfolding fields_in
  fields_field at h = ap (fields_in p run) (from_field run at h)

  fields_over : (at : ℕ) → length run ≤ at → fields_in p run (from run at) ≡ []
  unfolding fields_in
  fields_over at h = ap (fields_in p run) (from_over run at h)

  -- those before the steps, for nothing
  fields_head : (k at : ℕ) → fields_in p run (from run at) ≡ fields_in p run (from run (head_from k run at))
  unfolding head_from
  fields_head zero at = refl
  fields_head (suc k) at = go (leb (length run) at) refl (of_steps (tag_at run at)) refl (fields_head k (past run at))
    where
      go : (over : Bool) → leb (length run) at ≡ over → (o : Bool) → of_steps (tag_at run at) ≡ o
          → fields_in p run (from run (past run at)) ≡ fields_in p run (from run (head_from k run (past run at)))
          → fields_in p run (from run at) ≡ fields_in p run (from run (cond over at (cond o at (head_from k run (past run at)))))
      go true e o f more = refl
      go false e true f more = refl
      go false e false f more =
          let n = before_steps_lem (tag_at run at) f in
          fields_field at (leb-false (length run) at e) ∙ ap (λ (fs : List Field). fs ++ fields_in p run (from run (past run at))) (asks_nothing at n.0 n.1) ∙ more

pub fields_start : (run : List ℕ) → Accepted run → fields_of run ≡ fields_in (plant_of run) run (from run (steps_place run))
unfolding fields_of places_of
fields_start run z = fields_head (plant_of run) run (length run) 0 ∙ ap (λ (at : ℕ). fields_in (plant_of run) run (from run at)) (head_place run (walk_accepted run z))

-- ---- the way to the end field
pub ends_within : {run : List ℕ} {at : ℕ} → Ending run at → at < length run
ends_within (ends_here l t e) = l
ends_within (ends_later l n more) = l

pub ends_on : {run : List ℕ} {at : ℕ} → Ending run at → (tag_at run at ≡ 127 → ⊥) → Ending run (past run at)
ends_on (ends_here l t e) n = absurd (n t)
ends_on (ends_later l other more) n = more

ends_last : {run : List ℕ} {at : ℕ} → Ending run at → tag_at run at ≡ 127 → past run at ≡ length run
ends_last (ends_here l t e) is = e
ends_last (ends_later l other more) is = absurd (other is)

-- there only the end record is asked for, and no step is left
module _ (run : List ℕ) (at : ℕ) (e : Ending run at) (is : tag_at run at ≡ 127) where
  over : length run ≤ past run at
  over = let l = ends_last e is in omega arith

  pub fields_end : (p : Plant) → fields_in p run (from run at) ≡ asked_by at end_bytes ∷ []
  fields_end p = fields_field p run at (ends_within e) ∙ ap₂ (λ (a b : List Field). a ++ b) (end_asks p run at is) (fields_over p run (past run at) over)

  pub steps_end : (d : Due) → steps_from run d at ≡ []
  steps_end d =
      steps_field run at (ends_within e) d ∙ ap₂ (λ (a b : List Step). a ++ b) (closes_none run d at 127 is refl) (steps_over run (past run at) over (due_after run d at))
