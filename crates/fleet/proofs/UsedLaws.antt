-- Three powers or currents that can be used give a measure for every phase choice, so the case of a refused measure in `passed_on` is reached by no step whose reading
-- can be used. Assumes nothing.
use mathlib.Core.Path.{◌≡◌}
use mathlib.Core.Bool.{true, cond}
use Prim.Native.Nat.{ℕ, ◌≤◌}
use native.Mathlib.Omega.{arith}
use lib.Dec.{leb}
use lib.Ieee.{Float}
use lib.IntN.{ℤ}
use borrow.Author.Tests.{le-leb}
use Rattle.whole.specs.Call.{refusal}
use Rattle.reading.specs.declared.Phases.{Phases}
use Rattle.reading.specs.declared.Reading.TheVariants.{Power, Current}
use Rattle.reading.specs.Conversion.{watts_of, milli_of}
use Rattle.reading.specs.Choice.{choice_of, chosen_of, measure_by, measure_of, current_of, usable_of, refusal_of}
use Rattle.std.proofs.Common.{Err, None, Ok, Option, Some}

by_usable : (whole : Float → Option ℤ) (p : Phases) (phase : ℕ) → phase ≤ 5 → usable_of (whole p.first) (whole p.second) (whole p.third) ≡ 0
    → (m : ℤ) × (measure_by whole p phase ≡ Ok m)
by_usable whole p phase h u = go (whole p.first) (whole p.second) (whole p.third) u
  where
    t : leb phase 5 ≡ true
    t = le-leb phase 5 h

    go : (x y z : Option ℤ) → usable_of x y z ≡ 0 → (m : ℤ) × (cond (leb phase 5) (chosen_of phase x y z) (Err (refusal 5)) ≡ Ok m)
    go None y z u = absurd (omega arith)
    go (Some a) None z u = absurd (omega arith)
    go (Some a) (Some b) None u = absurd (omega arith)
    go (Some a) (Some b) (Some c) u = (choice_of phase a b c, simp t)

pub chosen : (p : Phases) (phase : ℕ) → phase ≤ 5 → refusal_of (Power p) ≡ 0 → (m : ℤ) × (measure_of p phase ≡ Ok m)
unfolding refusal_of measure_of
chosen = by_usable watts_of

pub chosen_current : (p : Phases) (phase : ℕ) → phase ≤ 5 → refusal_of (Current p) ≡ 0 → (m : ℤ) × (current_of p phase ≡ Ok m)
unfolding refusal_of current_of
chosen_current = by_usable milli_of
