-- A file that is known to be complete is accepted. Assumes nothing.
use mathlib.Core.Path.{◌≡◌, refl}
use mathlib.Core.Bool.{Bool, true, false, cond}
use mathlib.Core.List.{List}
use Prim.Native.Nat.{ℕ}
use native.Mathlib.Omega.{arith}
use lib.Dec.{eqb}
use borrow.Author.Tests.{eqb-true}
use Rattle.stick.specs.Check.{Answer, check_of, Accepted, refusal_by}
use Rattle.stick.specs.declared.Known.TheVariants.{Complete, Refused}
use Rattle.stick.specs.Known.{known_by}

pub complete_accepted : (file : List ℕ) (steps : ℕ) → known_by (check_of file) ≡ Complete steps → Accepted file
unfolding known_by
complete_accepted file steps said = go (eqb a.number 0) refl said
  where
    a : Answer
    a = check_of file

    go : (b : Bool) → eqb a.number 0 ≡ b → cond b (Complete a.steps) (Refused (refusal_by a)) ≡ Complete steps → Accepted file
    go true t e = record { complete = eqb-true a.number 0 t }
    go false t e = let z : ◌≡◌ {A = ℕ} 0 1 = cc in absurd (omega arith)
