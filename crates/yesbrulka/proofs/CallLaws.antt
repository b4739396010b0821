-- An exported function hands numbers to the library, which reads them back as they were, and stores what its answer gives, case by case. Assumes nothing.
use mathlib.Core.Path.{◌≡◌, refl, sym, ap, ap₂, ◌∙◌, subst}
use mathlib.Core.Bool.{Bool, true, false}
use mathlib.Core.List.{List}
use Prim.Native.Nat.{ℕ, ◌^◌, ◌<◌}
use lib.IntN.{ℤ}
use lib.Signed.{mag}
use mir.Syntax.{w32, w64}
use mir.Val.{to_z, of_z, bool_byte}
use Rattle.whole.specs.declared.Refusal.{Refusal}
use Rattle.whole.specs.Call.{Call, number_of, held_after}
use Rattle.whole.proofs.SignLaws.{read}
use Rattle.unit.specs.declared.Unit.{Unit}
use Rattle.rules.specs.declared.Settings.{Settings}
use Rattle.controller.specs.declared.Passed.{Passed}
use Rattle.members.specs.Ranges.{Fleet}
use Rattle.settling.specs.declared.Studied.{Studied}
use Rattle.settling.specs.Answers.{study_answer, study_leaves}
use Rattle.solar.specs.declared.Inverter.{Inverter}
use Rattle.solar.specs.declared.Weather.{Weather}
use Rattle.solar.specs.declared.Given.{Given}
use Rattle.solar.specs.Answers.{Lists, lit_of}
use Rattle.storage.specs.declared.Outcome.{Outcome}
use Rattle.storage.specs.Step.{stepped_as}
use Rattle.yesbrulka.specs.Calls.{flag, settings_of, PassSeen, StudySeen, trial_of, StepSeen, LitSeen}
use Rattle.std.proofs.Common.{Err, Ok, Result}

-- a flag as a byte
byte_is : (b : Bool) → bool_byte b ≡ flag b
byte_is true = refl
byte_is false = refl

-- ---- a pass
module _ (a : Result Passed Refusal) (need : ℤ) (changed : ℕ) where
  pass_given : (p : Passed) → a ≡ Ok p → mag p.need < 2 ^ 63 → PassSeen a 0 need (to_z w64 (of_z w64 p.need)) changed (bool_byte p.changed)
  pass_given p is h = record {
    number_is = sym (ap (λ (x : Result Passed Refusal). number_of x) is);
    need_is = read w64 p.need h ∙ sym (ap (λ (x : Result Passed Refusal). held_after x (λ (q : Passed). q.need) need) is);
    changed_is = byte_is p.changed ∙ sym (ap (λ (x : Result Passed Refusal). held_after x (λ (q : Passed). flag q.changed) changed) is);
  }

  pass_kept : (r : Refusal) → a ≡ Err r → PassSeen a r.number need need changed changed
  pass_kept r is = record {
    number_is = sym (ap (λ (x : Result Passed Refusal). number_of x) is);
    need_is = sym (ap (λ (x : Result Passed Refusal). held_after x (λ (q : Passed). q.need) need) is);
    changed_is = sym (ap (λ (x : Result Passed Refusal). held_after x (λ (q : Passed). flag q.changed) changed) is);
  }

-- by watts or by current: what a pass answers and what it leaves, by its settings and its measure
module _ (answer : Settings → ℤ → Result Passed Refusal) (leaves : Settings → ℤ → List ℤ) (mode : ℕ) (target : ℤ) (band factor : ℕ) (measure : ℤ)
    (ht : mag target < 2 ^ 31) (hm : mag measure < 2 ^ 63) (ans : Result Passed Refusal) (after : List ℤ)
    (ea : ans ≡ answer (settings_of mode (to_z w32 (of_z w32 target)) band factor) (to_z w64 (of_z w64 measure)))
    (el : after ≡ leaves (settings_of mode (to_z w32 (of_z w32 target)) band factor) (to_z w64 (of_z w64 measure))) (need : ℤ) (changed : ℕ) where
  abbrev s : Settings
  s = settings_of mode target band factor

  pass_is : ans ≡ answer s measure
  pass_is = ea ∙ ap₂ (λ (t m : ℤ). answer (settings_of mode t band factor) m) (read w32 target ht) (read w64 measure hm)

  left_is : after ≡ leaves s measure
  left_is = el ∙ ap₂ (λ (t m : ℤ). leaves (settings_of mode t band factor) m) (read w32 target ht) (read w64 measure hm)

  pub pass_done : (p : Passed) → ans ≡ Ok p → mag p.need < 2 ^ 63
      → PassSeen (answer s measure) 0 need (to_z w64 (of_z w64 p.need)) changed (bool_byte p.changed) × (after ≡ leaves s measure)
  pass_done p is h = (pass_given (answer s measure) need changed p (sym pass_is ∙ is) h, left_is)

  pub pass_refused : (r : Refusal) → ans ≡ Err r → PassSeen (answer s measure) r.number need need changed changed × (after ≡ leaves s measure)
  pass_refused r is = (pass_kept (answer s measure) need changed r (sym pass_is ∙ is), left_is)

-- ---- a study
module _ (c : Call Studied) (settled passes : ℕ) where
  pub study_given : (r : Studied) → c ≡ Ok r → StudySeen c 0 settled (bool_byte r.settled) passes r.passes
  study_given r is = record {
    number_is = sym (ap number_of is);
    settled_is_is = byte_is r.settled ∙ sym (ap (λ (x : Call Studied). held_after x (λ (q : Studied). flag q.settled) settled) is);
    passes_is = sym (ap (λ (x : Call Studied). held_after x (λ (q : Studied). q.passes) passes) is);
  }

  pub study_kept : (r : Refusal) → c ≡ Err r → StudySeen c r.number settled settled passes passes
  study_kept r is = record {
    number_is = sym (ap number_of is);
    settled_is_is = sym (ap (λ (x : Call Studied). held_after x (λ (q : Studied). flag q.settled) settled) is);
    passes_is = sym (ap (λ (x : Call Studied). held_after x (λ (q : Studied). q.passes) passes) is);
  }

module _ (load target : ℤ) (band factor budget : ℕ) (f : Fleet) (rs : List ℤ) (hl : mag load < 2 ^ 63) (ht : mag target < 2 ^ 31)
    (ans : Result Studied Refusal) (after : List ℤ)
    (ea : ans ≡ study_answer (trial_of (to_z w64 (of_z w64 load)) (to_z w32 (of_z w32 target)) band factor budget) f rs)
    (el : after ≡ study_leaves (trial_of (to_z w64 (of_z w64 load)) (to_z w32 (of_z w32 target)) band factor budget) f rs) (settled passes : ℕ) where
  study_is : ans ≡ study_answer (trial_of load target band factor budget) f rs
  study_is = ea ∙ ap₂ (λ (l t : ℤ). study_answer (trial_of l t band factor budget) f rs) (read w64 load hl) (read w32 target ht)

  study_left_is : after ≡ study_leaves (trial_of load target band factor budget) f rs
  study_left_is = el ∙ ap₂ (λ (l t : ℤ). study_leaves (trial_of l t band factor budget) f rs) (read w64 load hl) (read w32 target ht)

  pub study_done : (r : Studied) → ans ≡ Ok r
      → StudySeen (study_answer (trial_of load target band factor budget) f rs) 0 settled (bool_byte r.settled) passes r.passes
      × (after ≡ study_leaves (trial_of load target band factor budget) f rs)
  study_done r is = (study_given (study_answer (trial_of load target band factor budget) f rs) settled passes r (sym study_is ∙ is), study_left_is)

  pub study_refused : (r : Refusal) → ans ≡ Err r
      → StudySeen (study_answer (trial_of load target band factor budget) f rs) r.number settled settled passes passes
      × (after ≡ study_leaves (trial_of load target band factor budget) f rs)
  study_refused r is = (study_kept (study_answer (trial_of load target band factor budget) f rs) settled passes r (sym study_is ∙ is), study_left_is)

-- ---- a step, of a unit by its var request
pub step_alike : {a b : Result Outcome Refusal} {number : ℕ} {watts watts' vars vars' : ℤ} {stored stored' loss loss' : ℕ} → a ≡ b
    → StepSeen a number watts watts' vars vars' stored stored' loss loss' → StepSeen b number watts watts' vars vars' stored stored' loss loss'
step_alike {number = n} {watts = w} {watts' = w'} {vars = v} {vars' = v'} {stored = s} {stored' = s'} {loss = l} {loss' = l'} e seen =
    subst (λ (x : Result Outcome Refusal). StepSeen x n w w' v v' s s' l l') e seen

pub step_read : (edition seconds : ℕ) (unit : ℤ → Unit) (var request : ℤ) → mag var < 2 ^ 31 → mag request < 2 ^ 31
    → stepped_as edition (unit (to_z w32 (of_z w32 var))) seconds (to_z w32 (of_z w32 request)) ≡ stepped_as edition (unit var) seconds request
step_read edition seconds unit var request hv hr = ap₂ (λ (v r : ℤ). stepped_as edition (unit v) seconds r) (read w32 var hv) (read w32 request hr)

module _ (edition seconds : ℕ) (unit : ℤ → Unit) (var request : ℤ) (hv : mag var < 2 ^ 31) (hr : mag request < 2 ^ 31) (ans : Result Outcome Refusal)
    (ea : ans ≡ stepped_as edition (unit (to_z w32 (of_z w32 var))) seconds (to_z w32 (of_z w32 request))) (watts vars : ℤ) (stored loss : ℕ) where
  step_is : ans ≡ stepped_as edition (unit var) seconds request
  step_is = ea ∙ step_read edition seconds unit var request hv hr

  pub step_done : (o : Outcome) → ans ≡ Ok o → mag o.watts < 2 ^ 31 → mag o.vars < 2 ^ 31
      → StepSeen (stepped_as edition (unit var) seconds request) 0 watts (to_z w32 (of_z w32 o.watts)) vars (to_z w32 (of_z w32 o.vars)) stored o.stored loss o.loss
  step_done o e hw hq =
      let is : Ok o ≡ stepped_as edition (unit var) seconds request = sym e ∙ step_is in
      record {
        number_is = ap (λ (x : Result Outcome Refusal). number_of x) is;
        watts_is = read w32 o.watts hw ∙ ap (λ (x : Result Outcome Refusal). held_after x (λ (q : Outcome). q.watts) watts) is;
        vars_is = read w32 o.vars hq ∙ ap (λ (x : Result Outcome Refusal). held_after x (λ (q : Outcome). q.vars) vars) is;
        stored_is = ap (λ (x : Result Outcome Refusal). held_after x (λ (q : Outcome). q.stored) stored) is;
        loss_is = ap (λ (x : Result Outcome Refusal). held_after x (λ (q : Outcome). q.loss) loss) is;
      }

  pub step_refused : (r : Refusal) → ans ≡ Err r → StepSeen (stepped_as edition (unit var) seconds request) r.number watts watts vars vars stored stored loss loss
  step_refused r e =
      let is : Err r ≡ stepped_as edition (unit var) seconds request = sym e ∙ step_is in
      record {
        number_is = ap (λ (x : Result Outcome Refusal). number_of x) is;
        watts_is = ap (λ (x : Result Outcome Refusal). held_after x (λ (q : Outcome). q.watts) watts) is;
        vars_is = ap (λ (x : Result Outcome Refusal). held_after x (λ (q : Outcome). q.vars) vars) is;
        stored_is = ap (λ (x : Result Outcome Refusal). held_after x (λ (q : Outcome). q.stored) stored) is;
        loss_is = ap (λ (x : Result Outcome Refusal). held_after x (λ (q : Outcome). q.loss) loss) is;
      }

-- ---- a call's answer: given, or kept
module _ {A : Type 0} (c : Call A) (a : A) (is : Ok a ≡ c) where
  pub call_zero : 0 ≡ number_of c
  call_zero = ap number_of is

  pub call_given : {B : Type 0} (value : A → B) (held : B) → value a ≡ held_after c value held
  call_given value held = ap (λ (x : Call A). held_after x value held) is

module _ {A : Type 0} (c : Call A) (r : Refusal) (is : Err r ≡ c) where
  pub call_number : r.number ≡ number_of c
  call_number = ap number_of is

  pub call_kept : {B : Type 0} (value : A → B) (held : B) → held ≡ held_after c value held
  call_kept value held = ap (λ (x : Call A). held_after x value held) is

-- ---- a step of an inverter, by its var request
module _ (inverter : ℤ → Inverter) (l : Lists) (on : ℕ) (w : Weather) (var : ℤ) (hv : mag var < 2 ^ 31) (ans : Result Given Refusal)
    (ea : ans ≡ lit_of (inverter (to_z w32 (of_z w32 var))) l on w) (turned : ℕ) (watts vars : ℤ) (dc : ℕ) where
  lit_is : ans ≡ lit_of (inverter var) l on w
  lit_is = ea ∙ ap (λ (v : ℤ). lit_of (inverter v) l on w) (read w32 var hv)

  pub lit_done : (g : Given) → ans ≡ Ok g → mag g.watts < 2 ^ 31 → mag g.vars < 2 ^ 31
      → LitSeen (lit_of (inverter var) l on w) 0 turned (bool_byte g.on) watts (to_z w32 (of_z w32 g.watts)) vars (to_z w32 (of_z w32 g.vars)) dc g.dc
  lit_done g e hw hq =
      let is : Ok g ≡ lit_of (inverter var) l on w = sym e ∙ lit_is in
      record {
        number_is = ap (λ (x : Result Given Refusal). number_of x) is;
        on_is = byte_is g.on ∙ ap (λ (x : Result Given Refusal). held_after x (λ (q : Given). flag q.on) turned) is;
        watts_is = read w32 g.watts hw ∙ ap (λ (x : Result Given Refusal). held_after x (λ (q : Given). q.watts) watts) is;
        vars_is = read w32 g.vars hq ∙ ap (λ (x : Result Given Refusal). held_after x (λ (q : Given). q.vars) vars) is;
        dc_is = ap (λ (x : Result Given Refusal). held_after x (λ (q : Given). q.dc) dc) is;
      }

  pub lit_refused : (r : Refusal) → ans ≡ Err r → LitSeen (lit_of (inverter var) l on w) r.number turned turned watts watts vars vars dc dc
  lit_refused r e =
      let is : Err r ≡ lit_of (inverter var) l on w = sym e ∙ lit_is in
      record {
        number_is = ap (λ (x : Result Given Refusal). number_of x) is;
        on_is = ap (λ (x : Result Given Refusal). held_after x (λ (q : Given). flag q.on) turned) is;
        watts_is = ap (λ (x : Result Given Refusal). held_after x (λ (q : Given). q.watts) watts) is;
        vars_is = ap (λ (x : Result Given Refusal). held_after x (λ (q : Given). q.vars) vars) is;
        dc_is = ap (λ (x : Result Given Refusal). held_after x (λ (q : Given). q.dc) dc) is;
      }
