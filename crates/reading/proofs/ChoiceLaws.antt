-- The phase choice, arm by arm, as the code meets it. Assumes nothing.
use mathlib.Core.Path.{◌≡◌, refl, sym, ap, ap₂, ◌∙◌, subst⁻¹}
use mathlib.Core.Bool.{Bool, true, false, cond}
use Prim.Native.Nat.{ℕ, ◌+◌, ◌^◌, ◌≤◌, ◌<◌}
use native.Mathlib.Nat.{le_trans, lt_of_le_of_lt, add-le-add}
use native.Mathlib.Omega.{arith}
use lib.Dec.{lit<}
use lib.Ieee.{Float}
use lib.IntN.{ℤ, pos, negsuc, ◌+ℤ◌, nat_abs}
use lib.Signed.{le_z, lt_z, mag}
use borrow.Author.Tests.{ne_eqb, le-leb, lt-leb}
use mir.Syntax.{Width, w32, w64}
use mir.Val.{SFits, to_z, of_z}
use Rattle.whole.specs.declared.Refusal.{Refusal}
use Rattle.whole.specs.Call.{refusal}
use Rattle.whole.proofs.Choice.{passed_failed}
use Rattle.whole.proofs.SignLaws.{read, sign_is, size_sum, size_fits, wide_is, wide_size}
use Rattle.reading.specs.declared.Phases.{Phases}
use Rattle.reading.specs.Conversion.{not_below}
use Rattle.reading.specs.Choice.{larger_of, smaller_of, choice_of, chosen_of, measure_by}
use Rattle.std.proofs.Common.{Err, None, Ok, Option, Result, Some}

-- ---- the larger and the smaller, by the machine's test on what is read back
module _ (w : Width) (a b : ℤ) (f : SFits w a) (g : SFits w b) where
  test_is : le_z (to_z w (of_z w a)) (to_z w (of_z w b)) ≡ le_z a b
  test_is = cc (read w a f.sfits, read w b g.sfits)

  pub larger_second : le_z (to_z w (of_z w a)) (to_z w (of_z w b)) ≡ true → to_z w (of_z w b) ≡ larger_of a b
  unfolding larger_of
  larger_second t = read w b g.sfits ∙ ap (λ (c : Bool). cond c b a) (sym (sym test_is ∙ t))

  pub larger_first : le_z (to_z w (of_z w a)) (to_z w (of_z w b)) ≡ false → to_z w (of_z w a) ≡ larger_of a b
  unfolding larger_of
  larger_first t = read w a f.sfits ∙ ap (λ (c : Bool). cond c b a) (sym (sym test_is ∙ t))

  pub smaller_first : le_z (to_z w (of_z w a)) (to_z w (of_z w b)) ≡ true → to_z w (of_z w a) ≡ smaller_of a b
  unfolding smaller_of
  smaller_first t = read w a f.sfits ∙ ap (λ (c : Bool). cond c a b) (sym (sym test_is ∙ t))

  pub smaller_second : le_z (to_z w (of_z w a)) (to_z w (of_z w b)) ≡ false → to_z w (of_z w b) ≡ smaller_of a b
  unfolding smaller_of
  smaller_second t = read w b g.sfits ∙ ap (λ (c : Bool). cond c a b) (sym (sym test_is ∙ t))

-- ---- the arms of the choice
module _ (phase : ℕ) (a b c : ℤ) where
  pub phase_sum : phase ≡ 0 → choice_of phase a b c ≡ a +ℤ b +ℤ c
  unfolding choice_of
  phase_sum e = ap (λ (p : ℕ). choice_of p a b c) e

  pub phase_first : phase ≡ 1 → choice_of phase a b c ≡ a
  unfolding choice_of
  phase_first e = ap (λ (p : ℕ). choice_of p a b c) e

  pub phase_second : phase ≡ 2 → choice_of phase a b c ≡ b
  unfolding choice_of
  phase_second e = ap (λ (p : ℕ). choice_of p a b c) e

  pub phase_third : phase ≡ 3 → choice_of phase a b c ≡ c
  unfolding choice_of
  phase_third e = ap (λ (p : ℕ). choice_of p a b c) e

  pub phase_largest : phase ≡ 4 → choice_of phase a b c ≡ larger_of a (larger_of b c)
  unfolding choice_of
  phase_largest e = ap (λ (p : ℕ). choice_of p a b c) e

  pub phase_smallest : (phase ≡ 0 → ⊥) → (phase ≡ 1 → ⊥) → (phase ≡ 2 → ⊥) → (phase ≡ 3 → ⊥) → (phase ≡ 4 → ⊥) → choice_of phase a b c ≡ smaller_of a (smaller_of b c)
  unfolding choice_of
  phase_smallest n₀ n₁ n₂ n₃ n₄ = simp (ne_eqb phase 0 n₀, ne_eqb phase 1 n₁, ne_eqb phase 2 n₂, ne_eqb phase 3 n₃, ne_eqb phase 4 n₄)

-- ---- what the code makes of three numbers that 32 bits hold, each read back from its bits
abbrev pub back : ℤ → ℤ
back z = to_z w64 (of_z w64 z)

module _ (a b c : ℤ) (fa : SFits w64 a) (fb : SFits w64 b) (fc : SFits w64 c) where
  module _ (ha : nat_abs a ≤ 2147483648) (hb : nat_abs b ≤ 2147483648) (hc : nat_abs c ≤ 2147483648) where
    two : nat_abs (a +ℤ b) ≤ 2147483648 + 2147483648
    two = le_trans (size_sum a b) (add-le-add ha hb)

    two_fit : SFits w64 (a +ℤ b)
    two_fit = size_fits w64 (a +ℤ b) (lt_of_le_of_lt two (lit< tt))

    three_fit : SFits w64 (a +ℤ b +ℤ c)
    three_fit = size_fits w64 (a +ℤ b +ℤ c) (lt_of_le_of_lt (le_trans (size_sum (a +ℤ b) c) (add-le-add two hc)) (lit< tt))

    two_back : back a +ℤ back b ≡ a +ℤ b
    two_back = cc (read w64 a fa.sfits, read w64 b fb.sfits)

    pub sum_fits : SFits w64 (back a +ℤ back b)
    sum_fits = subst⁻¹ (SFits w64) two_back two_fit

    three_back : back (back a +ℤ back b) +ℤ back c ≡ a +ℤ b +ℤ c
    three_back = cc (two_back, read w64 (a +ℤ b) two_fit.sfits, read w64 c fc.sfits)

    pub sums_fit : SFits w64 (back (back a +ℤ back b) +ℤ back c)
    sums_fit = subst⁻¹ (SFits w64) three_back three_fit

    pub sum_is : back (back (back a +ℤ back b) +ℤ back c) ≡ a +ℤ b +ℤ c
    sum_is = cc (three_back, read w64 (a +ℤ b +ℤ c) three_fit.sfits)

  -- one function of two numbers, twice
  pub read_two : (f : ℤ → ℤ → ℤ) (r q : ℤ) → mag r < 2 ^ 63 → mag q < 2 ^ 63 → r ≡ f (back b) (back c) → q ≡ f (back a) (back r) → back q ≡ f a (f b c)
  read_two f r q hr hq e g = cc (read w64 a fa.sfits, read w64 b fb.sfits, read w64 c fc.sfits, read w64 r hr, read w64 q hq)

-- ---- a current: below 0 is refused, any other stays
pub below_refused : (w : ℤ) → SFits w32 w → lt_z (to_z w32 (of_z w32 w)) (pos 0) ≡ true → None ≡ not_below (Some w)
below_refused (pos n) f t = absurd (passed_failed t (sign_is w32 (pos n) f))
below_refused (negsuc n) f t = refl

pub not_below_lem : (w : ℤ) → SFits w32 w → lt_z (to_z w32 (of_z w32 w)) (pos 0) ≡ false → to_z w32 (of_z w32 w) ≡ w → Some (to_z w32 (of_z w32 w)) ≡ not_below (Some w)
not_below_lem (pos n) f t e = ap Some e ∙ sym (ap (λ (b : Bool). cond b (Some (pos n)) None) (le-leb 0 n (omega arith)))
not_below_lem (negsuc n) f t e = absurd (passed_failed (sign_is w32 (negsuc n) f) t)

-- ---- three converted numbers that are whole, and the measure by either conversion
pub all_taken : (phase : ℕ) (x y z : Option ℤ) (a b c : ℤ) → x ≡ Some a → y ≡ Some b → z ≡ Some c → Ok (choice_of phase a b c) ≡ chosen_of phase x y z
all_taken phase x y z a b c ex ey ez = sym (ap₂ (λ (v w : Option ℤ). chosen_of phase v w z) ex ey ∙ ap (chosen_of phase (Some a) (Some b)) ez)

module _ (whole : Float → Option ℤ) (p : Phases) (phase : ℕ) where
  abbrev pub all_three : Result ℤ Refusal
  all_three = chosen_of phase (whole p.first) (whole p.second) (whole p.third)

  pub no_phase : 5 < phase → (r : Refusal) → r ≡ refusal 5 → Err r ≡ measure_by whole p phase
  no_phase h r er = ap Err er ∙ sym (ap (λ (t : Bool). cond t all_three (Err (refusal 5))) (lt-leb phase 5 h))

  pub measured : phase ≤ 5 → all_three ≡ measure_by whole p phase
  measured h = sym (ap (λ (t : Bool). cond t all_three (Err (refusal 5))) (le-leb phase 5 h))

-- the sizes that the choice asks for, of numbers widened from 32 bits
pub widened_size : (a : ℤ) → mag a < 2 ^ 31 → nat_abs (back (to_z w32 (of_z w32 a))) ≤ 2147483648
widened_size a h = subst⁻¹ (λ (z : ℤ). nat_abs z ≤ 2147483648) (wide_is a h) (wide_size a h)

pub choice_widened : (phase : ℕ) (a b c : ℤ) → mag a < 2 ^ 31 → mag b < 2 ^ 31 → mag c < 2 ^ 31
    → choice_of phase (back (to_z w32 (of_z w32 a))) (back (to_z w32 (of_z w32 b))) (back (to_z w32 (of_z w32 c))) ≡ choice_of phase a b c
choice_widened phase a b c ha hb hc = cc (wide_is a ha, wide_is b hb, wide_is c hc)
