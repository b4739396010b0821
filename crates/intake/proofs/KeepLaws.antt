-- What is kept after whole fields: the mark's bytes and those of what stands, laid one before the other, with the site part behind them as it was.
-- Assumes nothing.
use mathlib.Core.Path.{◌≡◌, sym, ap, ap₂, ◌∙◌}
use mathlib.Core.List.{List, [], ◌++◌, append_assoc}
use Prim.Native.Nat.{ℕ, ◌+◌, ◌*◌, ◌≤◌}
use native.Mathlib.Nat.{zero-add}
use native.Mathlib.Omega.{arith}
use lib.IntN.{ℤ}
use mathlib.Core.Bool.{Bool}
use lib.ListN.{length, drop, take}
use lib.Seq.{slice, slice_empty, length-take-le, drop_at}
use Rattle.octets.specs.BigEndian.{laid}
use Rattle.records.proofs.LayLaws.{both}
use Rattle.kept.specs.declared.Mark.{Mark}
use Rattle.kept.specs.Layout.{state_size, held_place, site_place, tail_most, filled, numbers_of, held_of, flags_of, vars_of, top_of, stands_of}
use Rattle.kept.proofs.NumberLaws.{numbers_length}
use Rattle.kept.proofs.PieceLaws.{filled_long}
use Rattle.kept.proofs.StandLaws.{held_length, flags_length, vars_length}

-- the bytes before what stands, and those of what stands
top_length : (m : Mark) → length (top_of m []) ≡ held_place
unfolding top_of
top_length m = both (numbers_of m) (filled tail_most []) 27 tail_most (numbers_length m) (filled_long tail_most [] (omega arith))

stands_length : (stored : List ℕ) (rs vs : List ℤ) (on : List Bool) → length stored ≤ 64 → length vs ≤ 128 → length on ≤ 64 → length (stands_of stored rs vs on) ≡ 1344
unfolding stands_of
stands_length stored rs vs on few many fewer =
    let held = held_of (length stored) stored rs in
    let flags = flags_of (length on) on in
    let vars = vars_of (length vs) vs in
    let l : length held ≡ 12 * length stored = held_length (length stored) stored rs in
    let k : length flags ≡ length on = flags_length (length on) on in
    let j : length vars ≡ 4 * length vs = vars_length (length vs) vs in
    both (filled 768 held ++ filled 64 flags) (filled 512 vars) 832 512
    (both (filled 768 held) (filled 64 flags) 768 64 (filled_long 768 held (omega arith)) (filled_long 64 flags (omega arith)))
    (filled_long 512 vars (omega arith))

-- bytes laid in the middle, and then others up to them
module _ (s : List ℕ) (long : length s ≡ state_size) (top stands : List ℕ) (l : length top ≡ held_place) (k : length stands ≡ 1344) where
  behind_top : drop held_place (laid s held_place stands) ≡ stands ++ drop site_place s
  unfolding laid
  behind_top =
      let rest = drop (held_place + length stands) s in
      let far : held_place + length stands ≡ site_place = omega arith in
      ap (drop held_place) (append_assoc (take held_place s) stands rest)
      ∙ drop_at (take held_place s) (stands ++ rest) held_place (length-take-le held_place s (omega arith))
      ∙ ap (λ (n : ℕ). stands ++ drop n s) far

  both_laid : (t u : List ℕ) → t ≡ laid s held_place stands → u ≡ laid t 0 top → u ≡ top ++ stands ++ drop site_place s
  unfolding laid
  both_laid t u a b =
      b
      ∙ ap₂ (λ (n : ℕ) (r : List ℕ). top ++ drop n r) (zero-add (length top) ∙ l) a
      ∙ ap (λ (r : List ℕ). top ++ r) behind_top
      ∙ sym (append_assoc top stands (drop site_place s))

-- as the code lays them: no tail is a part of any bytes without an element
pub kept_after : (s : List ℕ) (m : Mark) (bytes stored : List ℕ) (rs vs : List ℤ) (on : List Bool)
    → length s ≡ state_size → length stored ≤ 64 → length vs ≤ 128 → length on ≤ 64 → (t u : List ℕ)
    → t ≡ laid s held_place (stands_of stored rs vs on) → u ≡ laid t 0 (top_of m (slice 0 0 bytes)) → u ≡ top_of m [] ++ stands_of stored rs vs on ++ drop site_place s
kept_after s m bytes stored rs vs on long few many fewer t u a b =
    both_laid s long (top_of m []) (stands_of stored rs vs on) (top_length m) (stands_length stored rs vs on few many fewer) t u a
    (b ∙ ap (λ (r : List ℕ). laid t 0 (top_of m r)) (slice_empty 0 bytes))
