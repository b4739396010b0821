-- A measure is at most 300,000,000 W or mA in size: each converted power or current is at most `most_watts`, and the choice is the sum of three, or one of them.
-- Assumes nothing.
use mathlib.Core.Path.{◌≡◌, subst}
use mathlib.Core.Bool.{Bool, true, false, cond}
use Prim.Native.Nat.{ℕ, ◌*◌, ◌≤◌}
use native.Mathlib.Nat.{le_trans, le_of_eq}
use native.Mathlib.Omega.{arith}
use lib.Dec.{leb, eqb}
use lib.IntN.{ℤ, pos, ◌+ℤ◌, nat_abs}
use lib.Ieee.{Float, nan, inf, fin, up, down}
use lib.Signed.{le_z}
use borrow.Author.Tests.{leb-true}
use Rattle.whole.specs.Call.{refusal}
use Rattle.whole.proofs.Choice.{by_test}
use Rattle.whole.proofs.SignLaws.{size_signed, size_sum}
use Rattle.whole.specs.Signed.{signed}
use Rattle.reading.specs.declared.Phases.{Phases}
use Rattle.reading.specs.Conversion.{nearest, most_watts, within, watts_of, not_below, milli_of}
use Rattle.reading.specs.Choice.{larger_of, smaller_of, choice_of, chosen_of, measure_by, measure_of, current_of}
use Rattle.std.proofs.Common.{Err, None, Ok, Option, Result, Some}
use Rattle.whole.specs.declared.Refusal.{Refusal}

-- ---- a converted power, or current
abbrev pub Small : Option ℤ → Type 0
Small None = 0 ≤ 0
Small (Some w) = nat_abs w ≤ most_watts

within_small : (s : Bool) (size : ℕ) → Small (within s size)
unfolding within
within_small s size =
    by_test Small (leb size most_watts) (Some (signed s size)) None
    (λ t. le_trans (le_of_eq (size_signed s size)) (leb-true size most_watts t))
    (λ t. omega arith)

pub watts_small : (x : Float) → Small (watts_of x)
unfolding watts_of
watts_small nan = omega arith
watts_small (inf s) = omega arith
watts_small (fin s m e) = within_small s (nearest (1000 * (m * up e)) (down e))

not_below_small : (w : Option ℤ) → Small w → Small (not_below w)
not_below_small None h = h
not_below_small (Some w) h = by_test Small (le_z (pos 0) w) (Some w) None (λ t. h) (λ t. omega arith)

milli_small : (x : Float) → Small (milli_of x)
unfolding milli_of
milli_small x = not_below_small (watts_of x) (watts_small x)

-- ---- the choice among three numbers of at most n in size
module _ (n : ℕ) where
  abbrev Upto : ℤ → Type 0
  Upto z = nat_abs z ≤ n

  larger_upto : (a b : ℤ) → Upto a → Upto b → Upto (larger_of a b)
  unfolding larger_of
  larger_upto a b ha hb = by_test Upto (le_z a b) b a (λ t. hb) (λ t. ha)

  smaller_upto : (a b : ℤ) → Upto a → Upto b → Upto (smaller_of a b)
  unfolding smaller_of
  smaller_upto a b ha hb = by_test Upto (le_z a b) a b (λ t. ha) (λ t. hb)

  choice_upto : (phase : ℕ) (a b c : ℤ) → Upto a → Upto b → Upto c → nat_abs (choice_of phase a b c) ≤ 3 * n
  unfolding choice_of
  choice_upto phase a b c ha hb hc = go (eqb phase 0) (eqb phase 1) (eqb phase 2) (eqb phase 3) (eqb phase 4)
    where
      go : (o p q r s : Bool)
          → nat_abs (cond o (a +ℤ b +ℤ c) (cond p a (cond q b (cond r c (cond s (larger_of a (larger_of b c)) (smaller_of a (smaller_of b c))))))) ≤ 3 * n
      go true p q r s = omega (arith, size_sum (a +ℤ b) c, size_sum a b)
      go false true q r s = omega arith
      go false false true r s = omega arith
      go false false false true s = omega arith
      go false false false false true = omega (arith, larger_upto a (larger_of b c) ha (larger_upto b c hb hc))
      go false false false false false = omega (arith, smaller_upto a (smaller_of b c) ha (smaller_upto b c hb hc))

-- ---- the measure
abbrev Bounded : Result ℤ Refusal → Type 0
Bounded (Ok m) = nat_abs m ≤ 300000000
Bounded (Err n) = 0 ≤ 0

chosen_small : (phase : ℕ) (x y z : Option ℤ) → Small x → Small y → Small z → Bounded (chosen_of phase x y z)
chosen_small phase None y z hx hy hz = omega arith
chosen_small phase (Some a) None z hx hy hz = omega arith
chosen_small phase (Some a) (Some b) None hx hy hz = omega arith
chosen_small phase (Some a) (Some b) (Some c) hx hy hz = choice_upto most_watts phase a b c hx hy hz

by_small : (whole : Float → Option ℤ) → ((x : Float) → Small (whole x)) → (p : Phases) (phase : ℕ) → Bounded (measure_by whole p phase)
by_small whole small p phase =
    by_test Bounded (leb phase 5) (chosen_of phase (whole p.first) (whole p.second) (whole p.third)) (Err (refusal 5))
    (λ t. chosen_small phase (whole p.first) (whole p.second) (whole p.third) (small p.first) (small p.second) (small p.third))
    (λ t. omega arith)

pub measure_small : (p : Phases) (phase : ℕ) (m : ℤ) → measure_of p phase ≡ Ok m → nat_abs m ≤ 300000000
unfolding measure_of
measure_small p phase m e = subst Bounded e (by_small watts_of watts_small p phase)

pub current_small : (p : Phases) (phase : ℕ) (m : ℤ) → current_of p phase ≡ Ok m → nat_abs m ≤ 300000000
unfolding current_of
current_small p phase m e = subst Bounded e (by_small milli_of milli_small p phase)
