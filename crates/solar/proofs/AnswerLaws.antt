-- What one step without a file answers, by the tests that the code makes. Assumes nothing.
use mathlib.Core.Path.{◌≡◌, refl, sym, ap, ap₂, ◌∙◌}
use mathlib.Core.Bool.{Bool, true, false, not, cond, ◌&&◌}
use mathlib.Core.List.{List}
use Prim.Native.Nat.{ℕ, ◌≤◌}
use lib.Dec.{leb, eqb}
use borrow.Author.Tests.{leb-true, eqb-true, not-true, not-false}
use Rattle.whole.specs.declared.Refusal.{Refusal}
use Rattle.whole.specs.Call.{refusal}
use Rattle.whole.specs.Interval.{between}
use Rattle.whole.proofs.OverLaws.{and_parts}
use Rattle.curve.specs.Curve.{Point}
use Rattle.solar.specs.declared.Inverter.{Inverter}
use Rattle.solar.specs.declared.Sun.{Sun}
use Rattle.solar.specs.declared.Weather.{Weather}
use Rattle.solar.specs.declared.Given.{Given}
use Rattle.solar.specs.Roof.{Roof, roof_in}
use Rattle.solar.specs.Weather.{sky_of}
use Rattle.solar.specs.Step.{step_of}
use Rattle.solar.specs.Answers.{Lists, lengths_in, roof_of, lit_refusal, lit_by, lit_of}
use Rattle.std.proofs.Common.{Err, None, Ok, Option, Result, Some}

-- ---- the answer of a roof: 5, 6, or the step
module _ (r : Roof) (on : ℕ) (w : Weather) where
  abbrev pub answer : Result Given Refusal
  answer = cond (roof_in r && leb on 1) (lit_by r (eqb on 1) (sky_of w)) (Err (refusal 5))

  module _ (passed : Bool) (ep : passed ≡ roof_in r) where
    pub out_of_range : not (passed && leb on 1) ≡ true → (q : Refusal) → q ≡ refusal 5 → Err q ≡ answer
    out_of_range t q eq =
        ap Err eq
        ∙ sym (ap (λ (b : Bool). cond b (lit_by r (eqb on 1) (sky_of w)) (Err (refusal 5)))
        (ap (λ (b : Bool). b && leb on 1) (sym ep) ∙ not-true (passed && leb on 1) t))

    module _ (t : not (passed && leb on 1) ≡ false) where
      pub roof_passed : roof_in r ≡ true
      roof_passed = sym ep ∙ (and_parts passed (leb on 1) (not-false (passed && leb on 1) t)).0

      in_range : lit_by r (eqb on 1) (sky_of w) ≡ answer
      in_range =
          sym (ap (λ (b : Bool). cond b (lit_by r (eqb on 1) (sky_of w)) (Err (refusal 5)))
          (ap (λ (b : Bool). b && leb on 1) (sym ep) ∙ not-false (passed && leb on 1) t))

      module _ (sky : Option Sun) (es : sky ≡ sky_of w) where
        pub no_sky : sky ≡ None → (q : Refusal) → q ≡ refusal 6 → Err q ≡ answer
        no_sky e q eq = ap Err eq ∙ ap (lit_by r (eqb on 1)) (sym e ∙ es) ∙ in_range

        pub clear_sky : (s : Sun) → sky ≡ Some s → (g : Given) → g ≡ step_of r (eqb on 1) s → Ok g ≡ answer
        clear_sky s e g eg = ap Ok eg ∙ ap (lit_by r (eqb on 1)) (sym e ∙ es) ∙ in_range

-- the same curves, the same answer
pub answer_same : (v : Inverter) (on : ℕ) (w : Weather) (p q p' q' : List Point) → p ≡ p' → q ≡ q'
    → (g : Result Given Refusal) → g ≡ answer (record { inverter = v; warm = p; efficiency = q }) on w → g ≡ answer (record { inverter = v; warm = p'; efficiency = q' }) on w
answer_same v on w p q p' q' ep eq g e = e ∙ ap₂ (λ (a b : List Point). answer (record { inverter = v; warm = a; efficiency = b }) on w) ep eq

-- ---- the lists of a curve
pub lengths_few : (xs ys : ℕ) → (between 2 16 xs && eqb ys xs) ≡ true → (xs ≤ 16) × (ys ≡ xs)
lengths_few xs ys e =
    let p = and_parts (between 2 16 xs) (eqb ys xs) e in
    (leb-true xs 16 (and_parts (leb 2 xs) (leb xs 16) p.0).1, eqb-true ys xs p.1)

-- ---- the whole answer
module _ (v : Inverter) (l : Lists) (on : ℕ) (w : Weather) (warm eff : Bool) (ew : warm ≡ lengths_in l.warm_x l.warm_y)
    (ee : eff ≡ lengths_in l.eff_x l.eff_y) where
  abbrev by : ℕ → Result Given Refusal
  by n = cond (eqb n 0) (lit_by (roof_of v l) (eqb on 1) (sky_of w)) (Err (refusal n))

  abbrev late : ℕ
  late = cond (not (roof_in (roof_of v l) && leb on 1)) 5 0

  tested : lit_refusal v l on ≡ cond (not (warm && eff)) 10 late
  unfolding lit_refusal
  tested = sym (ap₂ (λ (a b : Bool). cond (not (a && b)) 10 late) ew ee)

  pub lit_lengths : not (warm && eff) ≡ true → (q : Refusal) → q ≡ refusal 10 → Err q ≡ lit_of v l on w
  unfolding lit_of
  lit_lengths t q eq = ap Err eq ∙ sym (ap by (tested ∙ ap (λ (b : Bool). cond b 10 late) t))

  late_is : (b : Bool) → by (cond (not b) 5 0) ≡ cond b (lit_by (roof_of v l) (eqb on 1) (sky_of w)) (Err (refusal 5))
  late_is true = refl
  late_is false = refl

  pub lit_answer : not (warm && eff) ≡ false → (g : Result Given Refusal) → g ≡ answer (roof_of v l) on w → g ≡ lit_of v l on w
  unfolding lit_of
  lit_answer t g e = e ∙ sym (ap by (tested ∙ ap (λ (b : Bool). cond b 10 late) t) ∙ late_is (roof_in (roof_of v l) && leb on 1))
