-- What is said of a file, by the check's number: of an accepted file what it says, of any other nothing or the check's refusal. Assumes nothing.
use mathlib.Core.Path.{◌≡◌, refl, sym, ap, ap₂, ◌∙◌}
use mathlib.Core.Bool.{Bool, true, false, cond, ◌&&◌}
use mathlib.Core.List.{List, [], ◌∷◌}
use Prim.Native.Nat.{ℕ, ◌+◌, ◌≤◌, ◌<◌}
use lib.ListN.{length, get_or}
use lib.Dec.{leb, ltb, eqb}
use lib.IntN.{ℤ}
use borrow.Author.Tests.{eq-eqb, ne_eqb, lt-ltb, le-ltb}
use Rattle.whole.specs.declared.Refusal.{Refusal}
use Rattle.whole.specs.Call.{refusal}
use Rattle.unit.specs.declared.Unit.{Unit}
use Rattle.settling.specs.Answers.{study_answer, study_leaves}
use Rattle.site.specs.declared.Head.{Head}
use Rattle.site.specs.Site.{count, unit_of}
use Rattle.stick.specs.Check.{Answer, check_of, checked_by, refusal_by, Accepted}
use Rattle.stick.specs.declared.Checked.{Checked}
use Rattle.stick.proofs.CheckedLaws.{accepted_is, refused_is}
use Rattle.stick.specs.Site.{connections_of, value_of_first, site_of, roofs_of}
use Rattle.stick.specs.Posts.{connections_place, connected}
use Rattle.stick.proofs.SiteProved.{walk_accepted, connections_picked}
use Rattle.parts.specs.Header.{header}
use Rattle.fields.specs.Fields.{phases_in, volts_in}
use Rattle.ask.specs.Says.{units_said, inverters_said, seconds_said, head_answer, unit_answer, connection_of, connection_answer, fleet_said, trial_said, file_study, file_study_leaves}
use Rattle.std.proofs.Common.{Err, Ok, Result}
use Rattle.settling.specs.declared.Studied.{Studied}
use Rattle.ask.specs.declared.Connection.{Connection}

-- a choice by whether a number is 0
abbrev by_number {ℓ} : {X : Type ℓ} → ℕ → X → X → X
by_number n x y = cond (eqb n 0) x y

zero_number {ℓ} : {X : Type ℓ} (n : ℕ) (x y : X) → n ≡ 0 → by_number n x y ≡ x
zero_number n x y e = ap (λ (b : Bool). cond b x y) (eq-eqb n 0 e)

other_number {ℓ} : {X : Type ℓ} (n : ℕ) (x y : X) → (n ≡ 0 → ⊥) → by_number n x y ≡ y
other_number n x y h = ap (λ (b : Bool). cond b x y) (ne_eqb n 0 h)

-- a file that the check accepts
pub accepts : (file : List ℕ) (a : Checked) → Ok a ≡ checked_by (check_of file) → Accepted file
accepts file a e = record { complete = sym (ap (λ (x : Answer). x.number) (accepted_is (check_of file) a e)) }

-- a file that is refused
module _ (file : List ℕ) (r : Refusal) (is : Err r ≡ checked_by (check_of file)) where
  whole_is : r ≡ refusal_by (check_of file)
  whole_is = (refused_is (check_of file) r is).0

  refused : (check_of file).number ≡ 0 → ⊥
  refused = (refused_is (check_of file) r is).1

  pub no_units : 0 ≡ units_said file
  unfolding units_said
  no_units = sym (other_number (check_of file).number (count (site_of file)) 0 refused)

  pub no_inverters : 0 ≡ inverters_said file
  unfolding inverters_said
  no_inverters = sym (other_number (check_of file).number (length (roofs_of file)) 0 refused)

  pub no_seconds : 0 ≡ seconds_said file
  unfolding seconds_said
  no_seconds = sym (other_number (check_of file).number (site_of file).head.seconds 0 refused)

  pub no_head : Err r ≡ head_answer file
  unfolding head_answer
  no_head = ap Err whole_is ∙ sym (other_number (check_of file).number (Ok (site_of file).head) (Err (refusal_by (check_of file))) refused)

  pub no_unit_lem : (i : ℕ) → Err r ≡ unit_answer file i
  unfolding unit_answer
  no_unit_lem i =
      let said = cond (ltb i (count (site_of file))) (Ok (unit_of (site_of file) i)) (Err (refusal 10)) in
      ap Err whole_is ∙ sym (other_number (check_of file).number said (Err (refusal_by (check_of file))) refused)

  pub no_connection : (i : ℕ) → Err r ≡ connection_answer file i
  unfolding connection_answer
  no_connection i =
      let said = cond (ltb i (count (site_of file)) && leb 1 (length (connections_of file))) (Ok (connection_of file i)) (Err (refusal 10)) in
      ap Err whole_is ∙ sym (other_number (check_of file).number said (Err (refusal_by (check_of file))) refused)

  pub no_study : (load : ℤ) (budget : ℕ) (rs : List ℤ) → (Err r ≡ file_study file load budget rs) × (rs ≡ file_study_leaves file load budget rs)
  unfolding file_study file_study_leaves
  no_study load budget rs = (
    ap Err whole_is
        ∙ sym (other_number (check_of file).number (study_answer (trial_said file load budget) (fleet_said file) rs) (Err (refusal_by (check_of file))) refused),
    sym (other_number (check_of file).number (study_leaves (trial_said file load budget) (fleet_said file) rs) rs refused),
  )

-- ---- an accepted file
module _ (file : List ℕ) (z : Accepted file) where
  pub units_said_lem : (n : ℕ) → n ≡ count (site_of file) → n ≡ units_said file
  unfolding units_said
  units_said_lem n e = e ∙ sym (zero_number (check_of file).number (count (site_of file)) 0 z.complete)

  pub inverters_said_lem : (n : ℕ) → n ≡ length (roofs_of file) → n ≡ inverters_said file
  unfolding inverters_said
  inverters_said_lem n e = e ∙ sym (zero_number (check_of file).number (length (roofs_of file)) 0 z.complete)

  pub seconds_said_lem : (h : Head) → h ≡ (site_of file).head → h.seconds ≡ seconds_said file
  unfolding seconds_said
  seconds_said_lem h e = ap (λ (x : Head). x.seconds) e ∙ sym (zero_number (check_of file).number (site_of file).head.seconds 0 z.complete)

  pub head_said_lem : (h : Head) → h ≡ (site_of file).head → Ok h ≡ head_answer file
  unfolding head_answer
  head_said_lem h e = ap Ok e ∙ sym (zero_number (check_of file).number (Ok (site_of file).head) (Err (refusal_by (check_of file))) z.complete)

  -- a unit, by its number
  abbrev within : ℕ → Bool → Result Unit Refusal
  within i b = cond b (Ok (unit_of (site_of file) i)) (Err (refusal 10))

  answered : (i : ℕ) (b : Bool) → ltb i (count (site_of file)) ≡ b → within i b ≡ unit_answer file i
  unfolding unit_answer
  answered i b e =
      sym (zero_number (check_of file).number (within i (ltb i (count (site_of file)))) (Err (refusal_by (check_of file))) z.complete ∙ ap (within i) e)

  pub unit_said_lem : (i : ℕ) → i < count (site_of file) → (u : Unit) → u ≡ unit_of (site_of file) i → Ok u ≡ unit_answer file i
  unit_said_lem i l u e = ap Ok e ∙ answered i true (lt-ltb i (count (site_of file)) l)

  pub unit_outside : (i : ℕ) → count (site_of file) ≤ i → (r : Refusal) → r ≡ refusal 10 → Err r ≡ unit_answer file i
  unit_outside i l r er = ap Err er ∙ answered i false (le-ltb i (count (site_of file)) l)

  -- a unit's connection, by its number and by whether the file has connections: they stand where the code looks for them
  there_is : (b : Bool) → connected file ≡ b → connections_of file ≡ cond b (connections_place file ∷ []) []
  unfolding connections_of
  there_is b e = connections_picked file (walk_accepted file z) ∙ ap (λ (c : Bool). cond c (connections_place file ∷ []) []) e

  place_is : connected file ≡ true → value_of_first 10 file ≡ connections_place file + header
  unfolding connections_of
  place_is e = ap (λ (ats : List ℕ). get_or ats 0 0 + header) (there_is true e)

  has_some : (b : Bool) → connected file ≡ b → leb 1 (length (connections_of file)) ≡ b
  has_some true e = ap (λ (ats : List ℕ). leb 1 (length ats)) (there_is true e)
  has_some false e = ap (λ (ats : List ℕ). leb 1 (length ats)) (there_is false e)

  abbrev joined : ℕ → Bool → Result Connection Refusal
  joined i b = cond b (Ok (connection_of file i)) (Err (refusal 10))

  told : (i : ℕ) (b : Bool) → (ltb i (count (site_of file)) && leb 1 (length (connections_of file))) ≡ b → joined i b ≡ connection_answer file i
  unfolding connection_answer
  told i b e =
      let inside : Bool = ltb i (count (site_of file)) && leb 1 (length (connections_of file)) in
      sym (zero_number (check_of file).number (joined i inside) (Err (refusal_by (check_of file))) z.complete ∙ ap (joined i) e)

  pub connection_said : (i : ℕ) → i < count (site_of file) → connected file ≡ true → (phases volts : ℕ)
      → phases ≡ phases_in file (connections_place file + header) i → volts ≡ volts_in file (connections_place file + header) i
      → Ok (record { phases = phases; volts = volts }) ≡ connection_answer file i
  unfolding connection_of
  connection_said i l e phases volts ep ev =
      let at = sym (place_is e) in
      let phases-are = ep ∙ ap (λ (v : ℕ). phases_in file v i) at in
      let volts-are = ev ∙ ap (λ (v : ℕ). volts_in file v i) at in
      (λ k. Ok (record { phases = phases-are k; volts = volts-are k }))
      ∙ told i true (ap₂ ◌&&◌ (lt-ltb i (count (site_of file)) l) (has_some true e))

  pub connection_outside : (i : ℕ) → count (site_of file) ≤ i → (r : Refusal) → r ≡ refusal 10 → Err r ≡ connection_answer file i
  connection_outside i l r er = ap Err er ∙ told i false (ap (λ (b : Bool). b && leb 1 (length (connections_of file))) (le-ltb i (count (site_of file)) l))

  pub none_connected : (i : ℕ) → i < count (site_of file) → connected file ≡ false → (r : Refusal) → r ≡ refusal 10 → Err r ≡ connection_answer file i
  none_connected i l e r er = ap Err er ∙ told i false (ap₂ ◌&&◌ (lt-ltb i (count (site_of file)) l) (has_some false e))

  -- a study of the file is a study of its fleet
  pub study_said : (load : ℤ) (budget : ℕ) (rs after : List ℤ) (r : Result Studied Refusal)
      → (r ≡ study_answer (trial_said file load budget) (fleet_said file) rs) × (after ≡ study_leaves (trial_said file load budget) (fleet_said file) rs)
      → (r ≡ file_study file load budget rs) × (after ≡ file_study_leaves file load budget rs)
  unfolding file_study file_study_leaves
  study_said load budget rs after r e = (
    e.0 ∙ sym (zero_number (check_of file).number (study_answer (trial_said file load budget) (fleet_said file) rs) (Err (refusal_by (check_of file))) z.complete),
    e.1 ∙ sym (zero_number (check_of file).number (study_leaves (trial_said file load budget) (fleet_said file) rs) rs z.complete),
  )
