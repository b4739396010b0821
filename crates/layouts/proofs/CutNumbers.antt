-- Bytes cut into numbers: the numbers that are read one behind the other from a place on, laid in bytes, are the bytes that stand there. Assumes nothing.
use mathlib.Core.Path.{◌≡◌, refl}
use mathlib.Core.List.{List, [], ◌∷◌, ◌++◌}
use Prim.Native.Nat.{ℕ, zero, suc, ◌+◌, ◌-◌, ◌*◌, ◌/◌, ◌%◌, ◌≤◌, ◌<◌}
use native.Mathlib.Nat.{add-zero, add_assoc}
use native.Mathlib.Omega.{arith}
use lib.ListN.{length, get_or, take, drop, length-drop}
use lib.Seq.{take-suc, get_or-drop, drop-drop, take-add}
use mir.Syntax.{w32}
use mir.Val.{to_z, of_z}
use mir.ValLaws.{of_z-to_z}
use Rattle.octets.specs.BigEndian.{be, bytes_of}
use Rattle.octets.proofs.ByteLaws.{be_below}
use Rattle.layouts.specs.Layout.{Number, in_bytes, size}

module _ (b : List ℕ) where
  -- numbers that are those read one behind the other from a place on
  unfoldable pub Cut : List Number → ℕ → Type 0
  unfolding be
  Cut [] at = 0 ≤ 0
  Cut (n ∷ ns) at = (n.value ≡ be n.width b at) × Cut ns (at + n.width)

  -- first some, and behind them others
  pub cut_append : (xs ys : List Number) (at : ℕ) → Cut xs at → Cut ys (at + size xs) → Cut (xs ++ ys) at
  unfolding Cut size
  cut_append [] ys at p q = rw (add-zero at) at q
  cut_append (x ∷ xs) ys at p q = (p.0, cut_append xs ys (at + x.width) p.1 (rw (add_assoc at x.width (size xs)) q))

  module _ (small : (i : ℕ) → get_or b i 0 < 256) where
    -- the bytes of a number that is read are those that it is read from
    bytes_be : (n at : ℕ) → at + n ≤ length b → bytes_of n (be n b at) ≡ take n (drop at b)
    unfolding be bytes_of
    bytes_be zero at h = refl
    bytes_be (suc n) at h =
        let l : get_or b (at + n) 0 < 256 = small (at + n) in
        let high : (be n b at * 256 + get_or b (at + n) 0) / 256 ≡ be n b at = omega arith in
        let low : (be n b at * 256 + get_or b (at + n) 0) % 256 ≡ get_or b (at + n) 0 = omega arith in
        let d : length (drop at b) ≡ length b - at = length-drop at b in
        rw (high, low, take-suc (drop at b) n 0 (omega arith), get_or-drop at b n 0, bytes_be n at (omega arith))

    -- and so those of numbers
    pub relaid : (ns : List Number) (at : ℕ) → Cut ns at → at + size ns ≤ length b → in_bytes ns ≡ take (size ns) (drop at b)
    unfolding Cut in_bytes size
    relaid [] at c h = refl
    relaid (n ∷ ns) at c h =
        rw (c.0, bytes_be n.width at (omega arith), relaid ns (at + n.width) c.1 (omega arith), take-add n.width (size ns) (drop at b), drop-drop n.width at b)

    -- a signed number that is read has the bits that it is read from
    pub bits_be : (at : ℕ) → of_z w32 (to_z w32 (be 4 b at)) ≡ be 4 b at
    bits_be at = of_z-to_z w32 (be 4 b at) (record { fits = be_below 4 b at small })
