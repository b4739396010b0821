-- The part of the file that a field's value is: it lies within the file, its two ends say which bytes it has, and how many it has. Assumes nothing.
use mathlib.Core.Path.{◌≡◌, refl, ap, ap₂}
use mathlib.Core.Bool.{Bool, true, false}
use mathlib.Core.List.{List}
use Prim.Native.Nat.{ℕ, ◌+◌, ◌-◌, ◌≤◌}
use native.Mathlib.Omega.{arith}
use lib.ListN.{length, take, drop, length-take, length-drop}
use denote.Ref.{Bor}
use Rattle.parts.specs.Parts.{head_there, part_start, part_size, PartOf}
use Rattle.parts.proofs.PartLaws.{head_room, starts_after, starts_empty, sized_none, sized_some}

module _ (file : List ℕ) (place : ℕ) where
  pub part_within : part_start file place + part_size file place ≤ length file
  part_within = go (head_there (length file) place) refl
    where
      go : (t : Bool) → head_there (length file) place ≡ t → part_start file place + part_size file place ≤ length file
      go true e = omega (arith, head_room (length file) place e, starts_after file place e, sized_some file place e)
      go false e = omega (arith, starts_empty file place e, sized_none file place e)

  pub part_bytes_lem : (start size : ℕ) → start ≡ part_start file place → size ≡ part_size file place → take (start + size - start) (drop start file) ≡ take (part_size file place) (drop (part_start file place) file)
  part_bytes_lem start size s n = let k : start + size - start ≡ part_size file place = omega arith in ap₂ (λ (k l : ℕ). take k (drop l file)) k s

pub value_length : (file : Bor (List ℕ)) (place : ℕ) (part : Bor (List ℕ)) → PartOf file place part → length part.now ≡ part_size file.now place
value_length file place part p =
    let rest = drop (part_start file.now place) file.now in
    omega (arith, ap length p.bytes, length-take (part_size file.now place) rest, length-drop (part_start file.now place) file.now, part_within file.now place)
