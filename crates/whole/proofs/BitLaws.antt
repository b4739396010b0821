-- The leg bit by bit from the top: low is what is found of it, and `bits` bits are still to be tried. Assumes nothing.
use mathlib.Core.Path.{◌≡◌, refl, sym, ap, ◌∙◌, subst, subst⁻¹}
use mathlib.Core.Bool.{Bool, true, false}
use Prim.Native.Nat.{ℕ, suc, ◌+◌, ◌-◌, ◌*◌, ◌/◌, ◌%◌, ◌^◌, ◌≤◌, ◌<◌}
use native.Mathlib.Nat.{lt_of_lt_of_le, le_of_eq, le_trans, one-mul, mul-one, mul_comm, mul-add, add-mul, zero-add}
use native.Mathlib.Numerals.{add-one}
use native.Mathlib.Omega.{arith}
use mir.Val.{bool_byte}
use borrow.Author.Tests.{leb-true, leb-false}
use lib.Dec.{leb, lit<}
use lib.Pow.{pow_mono, pow-add, shl_exact}
use lib.Count.{count_leading_zeros, leading_length}
use Rattle.whole.proofs.LargestLaws.{leg_is, square_fits}
use Rattle.whole.specs.Largest.{leg_of}

-- low passes the test, what the untried bits could add at most does not, and neither leaves 32 bits
pub record Found (room bits low : ℕ) : Type 0 where
  pub few : bits ≤ 32
  pub passes : low * low ≤ room
  pub most : room < (low + 2 ^ bits) * (low + 2 ^ bits)
  pub narrow : low + 2 ^ bits ≤ 2 ^ 32

-- a bit as the machine makes it
bit_is : (k : ℕ) → k < 64 → (1 * 2 ^ k) % 2 ^ 64 ≡ 2 ^ k
bit_is k h = shl_exact {a = 1} 1 k 64 (lit< tt) (omega arith) ∙ one-mul (2 ^ k)

twice : (k : ℕ) → 2 ^ suc k ≡ 2 ^ k + 2 ^ k
twice k = let e : 2 ^ (1 + k) ≡ 2 ^ 1 * 2 ^ k = pow-add 2 1 k in omega arith

-- a leg has half as many bits as its square
none_tried : (room : ℕ) → room < 2 ^ 64 → Found room ((65 - count_leading_zeros 64 room) / 2) 0
none_tried room h = from (count_leading_zeros 64 room) (leading_length 64 room h).0 (leading_length 64 room h).1 (leading_length 64 room h).2
  where
    from : (z m : ℕ) → z + m ≡ 64 → room < 2 ^ m → Found room ((65 - z) / 2) 0
    from z m e l =
        let b : ℕ = (65 - z) / 2 in
        let small : b ≤ 32 = omega arith in
        let wide : m ≤ b + b = omega arith in
        record {
          few = small;
          passes = omega arith;
          most = subst⁻¹ (λ (n : ℕ). room < n * n) (zero-add (2 ^ b)) (lt_of_lt_of_le l (le_trans (pow_mono wide) (le_of_eq (pow-add 2 b b))));
          narrow = subst⁻¹ (λ (n : ℕ). n ≤ 2 ^ 32) (zero-add (2 ^ b)) (pow_mono small);
        }

module _ (room bits low : ℕ) (f : Found room bits low) (h : 0 < bits) where
  halves : 2 ^ bits ≡ 2 ^ (bits - 1) + 2 ^ (bits - 1)
  halves = let e : bits ≡ suc (bits - 1) = omega arith in ap (λ (k : ℕ). 2 ^ k) e ∙ twice (bits - 1)

  -- what is tried fits 32 bits
  fits : (next : ℕ) → next ≡ low + 2 ^ (bits - 1) → next < 2 ^ 32
  fits next e = let n = f.narrow in let t = halves in let p : 1 ≤ 2 ^ (bits - 1) = pow_mono {i = 0} {j = bits - 1} (omega arith) in omega arith

  -- a bit that passes is kept, and one that does not is left out
  kept : (next : ℕ) → next ≡ low + 2 ^ (bits - 1) → next * next ≤ room → Found room (bits - 1) next
  kept next e l =
      let up : low + 2 ^ bits ≡ next + 2 ^ (bits - 1) = let t = halves in omega arith in
      let few = f.few in
      record { few = omega arith; passes = l; most = subst (λ (n : ℕ). room < n * n) up f.most; narrow = subst (λ (n : ℕ). n ≤ 2 ^ 32) up f.narrow }

  left_out : (next : ℕ) → next ≡ low + 2 ^ (bits - 1) → room < next * next → Found room (bits - 1) low
  left_out next e l =
      let few = f.few in
      let n = f.narrow in
      let t = halves in
      record { few = omega arith; passes = f.passes; most = subst (λ (n : ℕ). room < n * n) e l; narrow = omega arith }

-- what the loop holds: q is what is found of the leg, low is q raised by the untried bits, and left is what its square leaves of the room
pub record Held (room bits left low : ℕ) : Type 0 where
  pub q : ℕ
  pub found : Found room bits q
  pub raised : low ≡ q * 2 ^ bits
  pub rest : left + q * q ≡ room

pub none_held : (room : ℕ) → room < 2 ^ 64 → Held room ((65 - count_leading_zeros 64 room) / 2) room 0
none_held room h = record { q = 0; found = none_tried room h; raised = omega arith; rest = omega arith }

-- a turn of the loop: more is what a further bit takes of left, one says whether it is taken
pub record Turn (room bits left low at more one : ℕ) : Type 0 where
  pub wide : more < 2 ^ 64
  pub product : more * one < 2 ^ 64
  pub there : more * one ≤ left
  pub sum : low / 2 + (one * 2 ^ at) % 2 ^ 64 < 2 ^ 64
  pub next : Held room (bits - 1) (left - more * one) (low / 2 + (one * 2 ^ at) % 2 ^ 64)

module _ (room bits left low : ℕ) (h : Held room bits left low) (p : 0 < bits) (more : ℕ) (m : more ≡ low + (1 * 2 ^ (2 * (bits - 1))) % 2 ^ 64) where
  -- the further bit's square, which is what is above q * q and low in the square of what is tried
  square : (1 * 2 ^ (2 * (bits - 1))) % 2 ^ 64 ≡ 2 ^ (bits - 1) * 2 ^ (bits - 1)
  square =
      let few = h.found.few in
      let e : 2 * (bits - 1) ≡ (bits - 1) + (bits - 1) = omega arith in
      bit_is (2 * (bits - 1)) (omega arith) ∙ ap (λ (k : ℕ). 2 ^ k) e ∙ pow-add 2 (bits - 1) (bits - 1)

  pair : low ≡ h.q * 2 ^ (bits - 1) + h.q * 2 ^ (bits - 1)
  pair = h.raised ∙ ap (λ (n : ℕ). h.q * n) (halves room bits h.q h.found p) ∙ mul-add h.q (2 ^ (bits - 1)) (2 ^ (bits - 1))

  opened : (h.q + 2 ^ (bits - 1)) * (h.q + 2 ^ (bits - 1)) ≡ h.q * h.q + more
  opened =
      let q = h.q in
      let b = 2 ^ (bits - 1) in
      let e : (q + b) * (q + b) ≡ q * (q + b) + b * (q + b) = add-mul q b (q + b) in
      let f : q * (q + b) ≡ q * q + q * b = mul-add q q b in
      let g : b * (q + b) ≡ b * q + b * b = mul-add b q b in
      let o : b * q ≡ q * b = mul_comm b q in
      let s = square in
      let l = pair in
      omega arith

  below : more < 2 ^ 64
  below =
      let next = h.q + 2 ^ (bits - 1) in
      let w : next * next < 2 ^ 64 = square_fits next (fits room bits h.q h.found p next refl) in
      let e = opened in
      omega arith

  pub turn : (b : Bool) → leb more left ≡ b → Turn room bits left low (2 * (bits - 1)) more (bool_byte b)
  turn true t =
      let q = h.q in
      let b = 2 ^ (bits - 1) in
      let l : more ≤ left = leb-true more left t in
      let e = opened in
      let w = below in
      let s = square in
      let d = pair in
      let r = h.rest in
      let o : more * 1 ≡ more = mul-one more in
      let a : (q + b) * b ≡ q * b + b * b = add-mul q b b in
      record {
        wide = w;
        product = omega arith;
        there = omega arith;
        sum = omega arith;
        next = record { q = q + b; found = kept room bits q h.found p (q + b) refl (omega arith); raised = omega arith; rest = omega arith };
      }
  turn false t =
      let q = h.q in
      let b = 2 ^ (bits - 1) in
      let l : left < more = leb-false more left t in
      let e = opened in
      let w = below in
      let d = pair in
      let r = h.rest in
      record {
        wide = w;
        product = omega arith;
        there = omega arith;
        sum = omega arith;
        next = record { q = q; found = left_out room bits q h.found p (q + b) refl (omega arith); raised = omega arith; rest = omega arith };
      }

-- when no bit is left, low is the leg
pub all_tried : (S y bits left low : ℕ) → y ≤ S → bits ≡ 0 → Held (S * S - y * y) bits left low → (low < 2 ^ 32) × (leg_of S y ≡ low)
all_tried S y bits left low h e f =
    let q = f.q in
    let one : 2 ^ bits ≡ 1 = ap (λ (k : ℕ). 2 ^ k) e in
    let same : low ≡ q = f.raised ∙ ap (λ (n : ℕ). q * n) one ∙ mul-one q in
    let next : q + 2 ^ bits ≡ suc q = ap (λ (n : ℕ). q + n) one ∙ add-one q in
    let n = f.found.narrow in
    (omega arith, leg_is S y q h f.found.passes (subst (λ (n : ℕ). S * S - y * y < n * n) next f.found.most) ∙ sym same)
