-- The rules over a fleet as the code works them out: what is unable in total, and one whole unit. Assumes nothing.
use mathlib.Core.Path.{◌≡◌, sym, ap}
use mathlib.Core.Bool.{Bool, true, false, cond}
use mathlib.Core.List.{List}
use Prim.Native.Nat.{ℕ}
use lib.IntN.{ℤ, pos}
use lib.ListN.{length}
use Rattle.unit.specs.declared.Unit.{Unit}
use Rattle.rules.specs.Rules.{unable, unit_after}
use Rattle.members.specs.Sums.{total}
use Rattle.members.specs.Posts.{spent_by, next_by}

-- ---- rule 4: what is unable in total
pub spent_is : (charging : Bool) (rated reserve : ℕ) (stored : List ℕ) (held : ℕ) → held ≡ total (length stored) stored
    → unable charging rated reserve held ≡ spent_by charging rated reserve stored
unfolding spent_by
spent_is charging rated reserve stored held e = ap (unable charging rated reserve) e

-- ---- rule 6 of the whole unit
module _ (charging : Bool) (factor : ℕ) (need : ℤ) (weights : ℕ) (u : Unit) (held : ℕ) (old : ℤ) where
  pub next_none : unable charging u.rated u.reserve held ≡ true → pos 0 ≡ next_by charging factor need weights u held old
  unfolding next_by
  next_none e = sym (ap (λ (t : Bool). cond t (pos 0) (unit_after charging factor need weights u.rating u.weight old)) e)

  pub next_some : unable charging u.rated u.reserve held ≡ false → unit_after charging factor need weights u.rating u.weight old ≡ next_by charging factor need weights u held old
  unfolding next_by
  next_some e = sym (ap (λ (t : Bool). cond t (pos 0) (unit_after charging factor need weights u.rating u.weight old)) e)
