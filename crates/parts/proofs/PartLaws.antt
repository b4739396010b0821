-- A field's value part: from the two tests of the code to the definition's one. Assumes nothing.
use mathlib.Core.Path.{◌≡◌, refl, sym, ap}
use mathlib.Core.Bool.{Bool, true, false, cond}
use mathlib.Core.List.{List}
use Prim.Native.Nat.{ℕ, ◌+◌, ◌-◌, ◌≤◌, ◌<◌, min}
use native.Mathlib.Omega.{arith}
use lib.Dec.{leb}
use lib.ListN.{length}
use borrow.Author.Tests.{le-leb, lt-leb, leb-true, leb-false}
use Rattle.parts.specs.Header.{length_at}
use Rattle.parts.specs.Parts.{head_there, part_start, part_size}

-- ---- whether the head is there
pub head_short : (size place : ℕ) → size < 3 → false ≡ head_there size place
unfolding head_there
head_short size place h = sym (lt-leb (place + 3) size (omega arith))

pub head_by_place : (size place : ℕ) → 3 ≤ size → leb place (size - 3) ≡ head_there size place
unfolding head_there
head_by_place size place h = go (leb place (size - 3)) refl
  where
    go : (t : Bool) → leb place (size - 3) ≡ t → t ≡ leb (place + 3) size
    go true e = let p : place ≤ size - 3 = leb-true place (size - 3) e in sym (le-leb (place + 3) size (omega arith))
    go false e = let p : size - 3 < place = leb-false place (size - 3) e in sym (lt-leb (place + 3) size (omega arith))

pub head_room : (size place : ℕ) → head_there size place ≡ true → place + 3 ≤ size
unfolding head_there
head_room size place e = leb-true (place + 3) size e

-- ---- where the part begins
module _ (file : List ℕ) (place : ℕ) where
  pub starts_after : head_there (length file) place ≡ true → place + 3 ≡ part_start file place
  unfolding part_start
  starts_after e = sym (ap (λ (b : Bool). cond b (place + 3) (min place (length file))) e)

  pub starts_empty : head_there (length file) place ≡ false → min place (length file) ≡ part_start file place
  unfolding part_start
  starts_empty e = sym (ap (λ (b : Bool). cond b (place + 3) (min place (length file))) e)

  -- ---- how many bytes it has
  pub sized_none : head_there (length file) place ≡ false → 0 ≡ part_size file place
  unfolding part_size
  sized_none e = sym (ap (λ (b : Bool). cond b (min (length_at file place) (length file - (place + 3))) 0) e)

  pub sized_some : head_there (length file) place ≡ true → min (length_at file place) (length file - (place + 3)) ≡ part_size file place
  unfolding part_size
  sized_some e = sym (ap (λ (b : Bool). cond b (min (length_at file place) (length file - (place + 3))) 0) e)
