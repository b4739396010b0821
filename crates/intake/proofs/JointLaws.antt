-- The first field behind a tail is put together from the tail and the chunk: the bytes that are put together are the beginning of the two. Assumes nothing.
use mathlib.Core.Path.{◌≡◌, refl, sym, ap, ◌∙◌}
use mathlib.Core.Bool.{Bool, true, false}
use mathlib.Core.List.{List, [], ◌∷◌, ◌++◌}
use Prim.Native.Nat.{ℕ, zero, suc, ◌+◌, ◌-◌, ◌≤◌, ◌<◌, min}
use native.Mathlib.Nat.{zero-add}
use native.Mathlib.Omega.{arith}
use lib.Dec.{leb, ltb, eqb}
use lib.ListN.{length, take, drop, length-append, take-append-drop}
use lib.Seq.{slice, length-take-le, take_all, take_at, take-append-add}
use borrow.Author.Tests.{ltb-true, ltb-false, leb-true, leb-false}
use Rattle.octets.specs.BigEndian.{laid}
use Rattle.parts.specs.Header.{past}
use Rattle.fields.specs.declared.State.{State}
use Rattle.fields.specs.Fields.{head_of}
use Rattle.stick.specs.Check.{field_at, reached, reach_of}
use Rattle.stick.proofs.WalkLaws.{field_stops}
use Rattle.chunks.specs.Sizes.{largest_field}
use Rattle.chunks.specs.Holds.{moved}
use Rattle.chunks.proofs.FieldChunks.{Few, past_append, field_cut, field_take}
use Rattle.chunks.proofs.ReachChunks.{reach_fuel, reach_step, apart, reach_shift}
use Rattle.chunks.proofs.PlaceChunks.{accepted_there}
use Rattle.records.proofs.LayLaws.{behind}
use Rattle.kept.specs.Layout.{tail_most}
use Rattle.std.proofs.Common.{Err, Ok}

-- no bytes are the empty list
pub no_bytes : (l : List ℕ) → length l ≡ 0 → l ≡ []
no_bytes [] e = refl
no_bytes (x ∷ xs) e = absurd (let n : suc (length xs) ≡ 0 = e in omega (arith, n))

pub take_most : (n : ℕ) (l : List ℕ) → length (take n l) ≤ n
take_most zero l = omega arith
take_most (suc n) [] = omega arith
take_most (suc n) (x ∷ xs) = let h = take_most n xs in omega (arith, h)

module _ (chunk : List ℕ) (left : ℕ) where
  -- as many bytes of the chunk as are left
  pub some : (n : ℕ) → n ≡ min (length chunk) left → take n chunk ≡ take left chunk
  some n e = go (ltb (length chunk) left) refl
    where
      go : (b : Bool) → ltb (length chunk) left ≡ b → take n chunk ≡ take left chunk
      go true t =
          let l : length chunk < left = ltb-true (length chunk) left t in
          take_all n chunk (omega arith) ∙ sym (take_all left chunk (omega arith))
      go false t = let l : left ≤ length chunk = ltb-false (length chunk) left t in ap (λ (k : ℕ). take k chunk) (let z : n ≡ left = omega arith in z)

module _ (tail chunk : List ℕ) (n : ℕ) (short : length tail ≤ tail_most) (is : n ≡ min (length chunk) (largest_field - length tail)) where
  pub joint_is : tail ++ take n chunk ≡ take largest_field (tail ++ chunk)
  joint_is =
      let e : length tail + (largest_field - length tail) ≡ largest_field = omega arith in
      ap (λ (x : List ℕ). tail ++ x) (some chunk (largest_field - length tail) n is)
      ∙ sym (take-append-add tail chunk (largest_field - length tail))
      ∙ ap (λ (k : ℕ). take k (tail ++ chunk)) e

  pub joint_long : length (tail ++ take n chunk) ≡ length tail + n
  joint_long = length-append tail (take n chunk) ∙ ap (λ (k : ℕ). length tail + k) (length-take-le n chunk (omega arith))

  -- laid in a room of the largest field's bytes
  module _ (room once twice : List ℕ) (long : length room ≡ largest_field) (first : once ≡ laid room 0 tail) (second : twice ≡ laid once (length tail) (slice 0 n chunk)) where
    pub joined : take (length tail + n) twice ≡ take largest_field (tail ++ chunk)
    unfolding laid
    joined =
        let whole : twice ≡ laid room 0 (tail ++ take n chunk) =
        behind room 0 (omega arith) tail (take n chunk) (length tail) refl once twice first
        (second ∙ ap (λ (p : ℕ). laid once p (take n chunk)) (sym (zero-add (length tail)))) in
        ap (take (length tail + n)) whole
        ∙ take_at (tail ++ take n chunk) (drop (0 + length (tail ++ take n chunk)) room) (length tail + n) joint_long
        ∙ joint_is

-- ---- how far the fields go behind a tail
module _ (st : State) (few : Few st) (tail chunk : List ℕ) (some_tail : 0 < length tail) (goes : eqb st.stage 0 ≡ false) (cut : head_of st tail 0 ≡ 1) where
  abbrev both : List ℕ
  both = tail ++ chunk

  abbrev start : List ℕ
  start = take largest_field both

  some_bytes : 0 < length both
  some_bytes = omega (arith, length-append tail chunk)

  -- the first field is what it is in the bytes put together
  first_field : field_at st both 0 ≡ field_at st start 0
  first_field = sym (field_take st few both 0 largest_field (omega arith))

  pub stops_first : (n : ℕ) → field_at st start 0 ≡ Err n → reached n 0 st ≡ reach_of (length both) st both 0
  stops_first n e = sym (reach_step both (length both) st 0 false (Err n) (omega arith) some_bytes goes (first_field ∙ e))

  module _ (s : State) (e : field_at st start 0 ≡ Ok s) where
    in_both : field_at st both 0 ≡ Ok s
    in_both = first_field ∙ e

    pub three : 3 ≤ length start
    three = let t = (accepted_there st s start 0 (omega arith) e).all in omega arith

    whole : past both 0 ≤ length tail + length chunk
    whole = omega (arith, (accepted_there st s both 0 (omega arith) in_both).all, length-append tail chunk)

    same_past : past both 0 ≡ past start 0
    same_past = ap (λ (l : List ℕ). past l 0) (sym (take-append-drop largest_field both)) ∙ past_append start (drop largest_field both) 0 (omega (arith, three))

    -- the tail is not the whole field
    beyond_tail : length tail ≤ past both 0
    beyond_tail = go (leb (past both 0) (length tail)) refl
      where
        go : (b : Bool) → leb (past both 0) (length tail) ≡ b → length tail ≤ past both 0
        go false f = let l = leb-false (past both 0) (length tail) f in omega arith
        go true f =
            absurd
            (apart {t = field_at st both 0} {s = s} {n = 1} in_both
            (sym (field_cut st tail chunk 0 (leb-true (past both 0) (length tail) f)) ∙ sym (field_stops st tail 0 1 (sym cut) refl)))

    pub tail_first : length tail ≤ past start 0
    tail_first = omega (arith, beyond_tail, same_past)

    pub past_within : past start 0 ≤ length tail + length chunk
    past_within = omega (arith, whole, same_past)

    pub goes_first : moved (length tail) (reach_of (length chunk) s chunk (past start 0 - length tail)) ≡ reach_of (length both) st both 0
    goes_first =
        let p : past both 0 ≡ length tail + (past start 0 - length tail) = omega (arith, same_past, tail_first) in
        sym
        (reach_step both (length both) st 0 false (Ok s) (omega arith) some_bytes goes in_both
        ∙ ap (reach_of (length both) s both) p
        ∙ reach_fuel both (length both) (length chunk) s (length tail + (past start 0 - length tail)) (omega (arith, length-append tail chunk)) (omega (arith, length-append tail chunk))
        ∙ reach_shift tail chunk (length chunk) s (past start 0 - length tail))
