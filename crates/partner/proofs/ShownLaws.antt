-- What a verdict shows lies within its file: the partner's bytes within the result, and a field that asks for something within the run file. Assumes nothing.
use mathlib.Core.Path.{◌≡◌, refl, ap, ap₂, ◌∙◌, subst, subst⁻¹}
use mathlib.Core.Bool.{Bool, true, false, cond}
use mathlib.Core.List.{List, [], ◌∷◌, ◌++◌, map}
use Prim.Native.Nat.{ℕ, ◌+◌, ◌-◌, ◌≤◌}
use native.Mathlib.Omega.{arith}
use lib.Dec.{eqb}
use lib.ListN.{length, take, drop, length-take, length-drop}
use borrow.Author.Tests.{eqb-true, eqb-false}
use denote.Ref.{Bor}
use Rattle.parts.specs.Header.{tag_at, past}
use Rattle.fields.specs.Fields.{is_reading}
use Rattle.site.specs.Site.{Plant}
use Rattle.stick.specs.Check.{check_of, Accepted, refusal_by}
use Rattle.stick.specs.Site.{places_from, plant_of}
use Rattle.stick.specs.Posts.{steps_place}
use Rattle.records.specs.Records.{end_bytes}
use Rattle.stretch.specs.Posts.{FieldsAt, StepsThere}
use Rattle.stretch.proofs.AcceptedLaws.{steps_there}
use Rattle.season.specs.Run.{result_of}
use Rattle.partner.specs.declared.Verdict.{Verdict}
use Rattle.std.proofs.Common.{Ok, Err}
use Rattle.partner.specs.Verdict.{Field, asked_by, sizes_of, fields_at, fields_in, fields_of, right, their_bytes, our_field, same, verdict_from, verdict_of, partner_answer}
use Rattle.partner.specs.Shown.{told_by, file_of, ShownPart}
use Rattle.partner.proofs.FieldsLaws.{fields_start}

-- fields of ours, each asked for by a field that lies whole within the run file
data Placed (run : List ℕ) : List Field → Type 0 where
  none : Placed run []
  more : {w : Field} {ws : List Field} → past run w.place ≤ length run → Placed run ws → Placed run (w ∷ ws)

module _ (run : List ℕ) where
  of_step : (at : ℕ) → past run at ≤ length run → (sizes : List ℕ) {ws : List Field} → Placed run ws → Placed run (map (asked_by at) sizes ++ ws)
  of_step at h [] p = p
  of_step at h (n ∷ ns) p = more h (of_step at h ns p)

  of_field : (p : Plant) (at : ℕ) → past run at ≤ length run → {ws : List Field} → Placed run ws → Placed run (fields_at p run at ++ ws)
  unfolding fields_at
  of_field p at h {ws} r = go (is_reading (tag_at run at)) (eqb (tag_at run at) 127)
    where
      go : (a b : Bool) → Placed run (cond a (map (asked_by at) (sizes_of p)) (cond b (asked_by at end_bytes ∷ []) []) ++ ws)
      go true b = of_step at h (sizes_of p) r
      go false true = more h r
      go false false = r

  of_fields : (p : Plant) (ats : List ℕ) → FieldsAt run ats → Placed run (fields_in p run ats)
  unfolding FieldsAt fields_in
  of_fields p [] f = none
  of_fields p (at ∷ ats) f = of_field p at f.0.within (of_fields p ats f.1)

  fields_placed : Accepted run → Placed run (fields_of run)
  unfolding StepsThere
  fields_placed z = subst⁻¹ (Placed run) (fields_start run z) (of_fields (plant_of run) (places_from (length run) run (steps_place run)) (steps_there run z))

-- ---- what a verdict shows
abbrev Within : List ℕ → List ℕ → Verdict → Type 0
Within run result v = v.start + v.len ≤ length (file_of v run result)

module _ (run result : List ℕ) where
  -- from the fields that are still to come, where what the partner has lies in its result
  from_within : {ws : List Field} → Placed run ws → (ours theirs : List ℕ) (at : ℕ) → (1 ≤ length theirs → at + length theirs ≤ length result) → Within run result (verdict_from run ws ours theirs at)
  unfolding verdict_from our_field
  from_within none ours theirs at h = go (eqb (length theirs) 0) refl
    where
      go : (b : Bool) → eqb (length theirs) 0 ≡ b → Within run result (cond b right (their_bytes at (length theirs)))
      go true e = omega arith
      go false e = h (omega (arith, eqb-false (length theirs) 0 e))
  from_within (more {w} {ws} p ps) ours theirs at h =
      go (same (take n ours) (take n theirs)) (eqb (length (take n theirs)) 0) refl (from_within ps (drop n ours) (drop n theirs) (at + n) further)
    where
      n : ℕ
      n = w.size

      further : 1 ≤ length (drop n theirs) → at + n + length (drop n theirs) ≤ length result
      further l = let d = length-drop n theirs in omega (arith, h (omega arith))

      go : (s b : Bool) → eqb (length (take n theirs)) 0 ≡ b → Within run result (verdict_from run ws (drop n ours) (drop n theirs) (at + n))
          → Within run result (cond s (verdict_from run ws (drop n ours) (drop n theirs) (at + n)) (cond b (our_field run w.place) (their_bytes at (length (take n theirs)))))
      go true b e rest = rest
      go false true e rest = omega (arith, p)
      go false false e rest = let t = length-take n theirs in omega (arith, h (omega (arith, eqb-false (length (take n theirs)) 0 e)), eqb-false (length (take n theirs)) 0 e)

  pub within : Accepted run → Within run result (verdict_of run result)
  unfolding verdict_of
  within z = from_within (fields_placed run z) (result_of run) result 0 (λ l. omega arith)

  told_within : Within run result (told_by (partner_answer run result))
  unfolding partner_answer
  told_within = go (eqb (check_of run).number 0) refl
    where
      go : (b : Bool) → eqb (check_of run).number 0 ≡ b → Within run result (told_by (cond b (Ok (verdict_of run result)) (Err (refusal_by (check_of run)))))
      go true e = within (record { complete = eqb-true (check_of run).number 0 e })
      go false e = omega arith

-- ---- as the code has it: the verdict told, and the file chosen by it
module _ (run result : Bor (List ℕ)) {file : Bor (List ℕ)} {v : Verdict} (ev : v ≡ told_by (partner_answer run.now result.now)) (ef : file ≡ file_of v run result) where
  file_is : file.now ≡ file_of v run.now result.now
  file_is = ap (λ x. x.now) ef ∙ go (eqb v.number 2)
    where
      go : (b : Bool) → (cond b run result).now ≡ cond b run.now result.now
      go true = refl
      go false = refl

  pub reaches : v.start + v.len ≤ length file.now
  reaches = subst⁻¹ (λ (l : List ℕ). v.start + v.len ≤ length l) file_is (subst⁻¹ (Within run.now result.now) ev (told_within run.now result.now))

  pub shown_there : {part : Bor (List ℕ)} → part.now ≡ take (v.start + v.len - v.start) (drop v.start file.now) → part.ref_ptr ≡ (file.ref_ptr.0, v.start + file.ref_ptr.1)
      → ShownPart run result part
  shown_there {part} eb el =
      let size : v.start + v.len - v.start ≡ v.len = omega arith in
      let place : v.start + file.ref_ptr.1 ≡ file.ref_ptr.1 + v.start = omega arith in
      record {
        bytes = subst (λ (w : Verdict). part.now ≡ take w.len (drop w.start (file_of w run.now result.now))) ev
            (eb ∙ ap₂ (λ (n : ℕ) (l : List ℕ). take n (drop v.start l)) size file_is);
        lies = subst (λ (w : Verdict). part.ref_ptr ≡ ((file_of w run result).ref_ptr.0, (file_of w run result).ref_ptr.1 + w.start)) ev
            (el ∙ ap (λ (n : ℕ). (file.ref_ptr.0, n)) place ∙ ap (λ (f : Bor (List ℕ)). (f.ref_ptr.0, f.ref_ptr.1 + v.start)) ef);
      }
