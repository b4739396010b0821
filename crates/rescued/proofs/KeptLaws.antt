-- What a rescue keeps of a file is whole fields by themselves, which lead to the state where its walk ends: what is read at a place depends on the bytes
-- there alone, and a missing reading may stand wherever a reading may. No weather and no voltage is left there without its
-- reading. Assumes nothing.
use mathlib.Core.Path.{◌≡◌, refl, sym, ap, ap₂, ◌∙◌, subst}
use mathlib.Core.Bool.{Bool, true, false, not, cond}
use mathlib.Core.List.{List}
use Prim.Native.Nat.{ℕ, ◌+◌, ◌-◌, ◌≤◌}
use native.Mathlib.Omega.{arith}
use lib.Dec.{leb, eqb}
use lib.ListN.{length, take, drop, take-append-drop}
use lib.Seq.{slice, length-take-le, length-slice}
use Rattle.octets.specs.BigEndian.{be}
use Rattle.parts.specs.Header.{past}
use Rattle.fields.specs.declared.State.{State}
use Rattle.fields.specs.Fields.{closes, kinds, size_in, size_of, stands_in, allowed, head_of, value_of, refused_by, state_after, taken_by}
use Rattle.stick.specs.declared.Reached.{Reached}
use Rattle.stick.specs.Check.{field_at, reached, reach_of, start}
use Rattle.chunks.specs.Holds.{moved}
use Rattle.chunks.proofs.ReachChunks.{reach_over, reach_fuel, reach_shift, Went, there, passing, went_upto, went_reach, went_take}
use Rattle.chunks.proofs.StepChunks.{reach_most}
use Rattle.taking.specs.Posts.{Leads}
use Rattle.taking.proofs.LedLaws.{leads_so, leads_none, leads_append}
use Rattle.rescue.specs.Saved.{Saved, missing_field, closed_step, bytes_at, waits, saved_of}
use Rattle.rescue.proofs.SaveLaws.{Saving, over, ended, refused, lost, passed, waiting, saves}
use Rattle.rescue.proofs.GroupLaws.{never_waits}
use Rattle.std.proofs.Common.{Err, Ok}

-- ---- the fields of a part, by themselves
unmoved : (r : Reached) (i j : ℕ) (m : State) → moved i r ≡ reached 0 j m → r ≡ reached 0 (j - i) m
unmoved r i j m e =
    let number : r.number ≡ 0 = ap (λ (r : Reached). r.number) e in
    let place : i + r.at ≡ j = ap (λ (r : Reached). r.at) e in
    let at : r.at ≡ j - i = omega arith in
    let state : r.state ≡ m = ap (λ (r : Reached). r.state) e in
    λ k. record { number = number k; at = at k; state = state k }

pub leads_part : (file : List ℕ) {st m : State} {i j : ℕ} → Went file m j st i → i ≤ length file → Leads st (slice i j file) m
leads_part file {st} {m} {i} {j} w h =
    let u = went_upto file w h in
    let a = take j file in
    let long : length a ≡ j = length-take-le j file u.1 in
    let front : length (take i a) ≡ i = length-take-le i a (omega (arith, u.0)) in
    let part : length (slice i j file) ≡ j - i = length-slice i j file u.1 in
    let place : length (take i a) + 0 ≡ i = omega arith in
    let here : reach_of (length a) st a i ≡ reached 0 j m =
    went_reach a (went_take file w u.1) (length a) 0 (omega arith) (omega arith) ∙ reach_over a 0 m j (omega arith) in
    let shifted : moved i (reach_of (length a) st (drop i a) 0) ≡ reached 0 j m =
    ap (λ (n : ℕ). moved n (reach_of (length a) st (drop i a) 0)) (sym front)
    ∙ sym (reach_shift (take i a) (drop i a) (length a) st 0)
    ∙ ap₂ (reach_of (length a) st) (take-append-drop i a) place
    ∙ here in
    record {
      leads =
          reach_fuel (drop i a) (length (drop i a)) (length a) st 0 (omega arith) (omega arith)
          ∙ unmoved (reach_of (length a) st (drop i a) 0) i j m shifted
          ∙ ap (λ (n : ℕ). reached 0 n m) (sym part);
    }

-- ---- a missing reading, where a reading may stand
missing_field_lem : (st : State) → closes st ≡ true → leb 65535 st.steps ≡ false → field_at st missing_field 0 ≡ Ok (closed_step st)
unfolding field_at head_of size_of kinds size_in be taken_by refused_by allowed stands_in value_of state_after
missing_field_lem st c f = go (closes st) (leb 65535 st.steps) c f
  where
    by : Bool → Bool → ℕ
    by c f = cond (not c) 4 (cond f 12 0)

    go : (c f : Bool) → c ≡ true → f ≡ false → cond (eqb (by c f) 0) (Ok (closed_step st)) (Err (by c f)) ≡ Ok (closed_step st)
    go c f ec ef = ap₂ (λ (c f : Bool). cond (eqb (by c f) 0) (Ok (closed_step st)) (Err (by c f))) ec ef

missing_past : past missing_field 0 ≡ 3
unfolding be
missing_past = refl

missing_leads : (st : State) → eqb st.stage 0 ≡ false → closes st ≡ true → leb 65535 st.steps ≡ false → Leads st missing_field (closed_step st)
missing_leads st e c f =
    leads_so (passing (closed_step st) (omega arith) e (missing_field_lem st c f) (omega (arith, missing_past)) (there refl missing_past))

-- ---- so the bytes kept lead to the state saved
pub keeps_lead : (file : List ℕ) {st : State} {at : ℕ} {s : Saved} → Saving file st at s → at ≤ length file → Leads st s.kept s.state
keeps_lead file {st} (over e) h = leads_none st
keeps_lead file {st} (ended l e) h = leads_none st
keeps_lead file {st} (refused n l e f u) h = leads_none st
keeps_lead file {st} (lost {s = s} l e f u more) h =
    leads_append missing_field s.kept (missing_leads st e u.closes_here u.few) (keeps_lead file more u.all)
keeps_lead file {st} {at} (passed {s = s} m l e f w n more) h =
    leads_append (bytes_at file at) s.kept (leads_part file (passing m l e f w (there refl refl)) h) (keeps_lead file more w)
keeps_lead file {st} (waiting m l e f w n more) h = leads_none st

-- ---- from the start
module _ (file : List ℕ) where
  pub saving : Saving file start 0 (saved_of file)
  unfolding saved_of
  saving = saves file (length file) start 0 (omega arith) (omega arith)

  pub kept_leads : Leads start (saved_of file).kept (saved_of file).state
  kept_leads = keeps_lead file saving (omega arith)

  pub no_reading_waited : waits (saved_of file).state ≡ false
  no_reading_waited = never_waits saving refl

  -- no more than 65,535 steps
  pub kept_few : (saved_of file).state.steps ≤ 65535
  kept_few =
      subst (λ (r : Reached). r.state.steps ≤ 65535) kept_leads.leads
      (reach_most (length (saved_of file).kept) start (saved_of file).kept 0 (omega arith))
