-- Numbers that are laid one behind the other are read where they begin, and a field's tag, length and value likewise. Assumes nothing.
use mathlib.Core.Path.{◌≡◌, refl, ◌∙◌}
use mathlib.Core.List.{List, [], ◌∷◌, ◌++◌, append_assoc}
use Prim.Native.Nat.{ℕ, ◌+◌, ◌≤◌, ◌<◌, ◌^◌, zero-le}
use native.Mathlib.Nat.{zero-add, add-zero, add_assoc, mod-eq_of_lt}
use native.Mathlib.Omega.{arith}
use lib.ListN.{length, length-append, get_or-append}
use lib.Seq.{get_or-append-add}
use Rattle.octets.specs.BigEndian.{be, bytes_of}
use Rattle.octets.proofs.ByteLaws.{be_same, bytes_length, be_bytes}
use Rattle.parts.specs.Header.{tag_at, length_at, past}
use Rattle.layouts.specs.Layout.{Number, in_bytes, size, field}
use Rattle.layouts.specs.Ranges.{Each}

-- every number fits its width
abbrev pub Small : List Number → Type 0
Small ns = Each (λ (n : Number). n.value < 256 ^ n.width) ns

-- they stand in F from a place on, one behind the other
abbrev pub Stand : List Number → List ℕ → ℕ → Type 0
Stand [] F at = 0 ≤ 0
Stand (n ∷ ns) F at = (be n.width F at ≡ n.value) × Stand ns F (at + n.width)

-- how many bytes they are, and those of others behind them
in_length : (ns : List Number) → length (in_bytes ns) ≡ size ns
unfolding in_bytes size
in_length [] = refl
in_length (n ∷ ns) = rw (length-append, bytes_length n.width n.value, in_length ns)

pub size_append : (xs ys : List Number) → size (xs ++ ys) ≡ size xs + size ys
unfolding size
size_append [] ys = omega arith
size_append (x ∷ xs) ys = omega (arith, size_append xs ys)

-- one number, between other bytes
number_stands : (w v : ℕ) (a b : List ℕ) → v < 256 ^ w → be w (a ++ (bytes_of w v ++ b)) (length a) ≡ v
number_stands w v a b h =
    be_same w (a ++ (bytes_of w v ++ b)) (bytes_of w v) (length a) 0
    (λ i l. rw (zero-add i) (get_or-append-add a (bytes_of w v ++ b) i 0 ∙ get_or-append (bytes_of w v) b 0 i (omega (arith, bytes_length w v))))
    ∙ be_bytes w v ∙ mod-eq_of_lt h

-- all of them
pub all_stand : (ns : List Number) → Small ns → (a b : List ℕ) → Stand ns (a ++ (in_bytes ns ++ b)) (length a)
unfolding in_bytes
all_stand [] h a b = zero-le
all_stand (n ∷ ns) h a b =
    let one = bytes_of n.width n.value in
    let more = in_bytes ns ++ b in
    let rest : Stand ns ((a ++ one) ++ more) (length (a ++ one)) = all_stand ns h.1 (a ++ one) b in
    let there : length (a ++ one) ≡ length a + n.width = rw (length-append, bytes_length n.width n.value) in
    rw (append_assoc one (in_bytes ns) b)
    (number_stands n.width n.value a more h.0, rw (append_assoc a one more, there) at rest)

-- of numbers behind others
pub stand_front : (a b : List Number) (F : List ℕ) (at : ℕ) → Stand (a ++ b) F at → Stand a F at
stand_front [] b F at s = zero-le
stand_front (n ∷ a) b F at s = (s.0, stand_front a b F (at + n.width) s.1)

pub stand_behind : (a b : List Number) (F : List ℕ) (at : ℕ) → Stand (a ++ b) F at → Stand b F (at + size a)
unfolding size
stand_behind [] b F at s = rw (add-zero at) s
stand_behind (n ∷ a) b F at s = rw (add_assoc at n.width (size a)) at (stand_behind a b F (at + n.width) s.1)

pub small_append : (a b : List Number) → Small a → Small b → Small (a ++ b)
small_append [] b ha hb = hb
small_append (n ∷ a) b ha hb = (ha.0, small_append a b ha.1 hb)

-- a field is its three bytes of tag and length, and its value
abbrev head : ℕ → List Number → List ℕ
head tag ns = bytes_of 1 tag ++ bytes_of 2 (size ns)

field_bytes : (tag : ℕ) (ns : List Number) → field tag ns ≡ head tag ns ++ in_bytes ns
unfolding field in_bytes
field_bytes tag ns = rw append_assoc

head_length : (tag : ℕ) (ns : List Number) → length (head tag ns) ≡ 3
head_length tag ns = rw (length-append, bytes_length 1 tag, bytes_length 2 (size ns))

pub field_length : (tag : ℕ) (ns : List Number) → length (field tag ns) ≡ 3 + size ns
field_length tag ns = rw (field_bytes tag ns, length-append (head tag ns) (in_bytes ns), head_length tag ns, in_length ns)

module _ (tag : ℕ) (ns : List Number) (rest : List ℕ) where
  -- its value
  pub value_stands : Small ns → Stand ns (field tag ns ++ rest) 3
  value_stands h =
      rw (field_bytes tag ns, append_assoc (head tag ns) (in_bytes ns) rest)
      (rw (head_length tag ns) at (all_stand ns h (head tag ns) rest))

  pub field_tag : tag < 256 → tag_at (field tag ns ++ rest) 0 ≡ tag
  unfolding field in_bytes
  field_tag h = rw append_assoc (number_stands 1 tag [] ((bytes_of 2 (size ns) ++ in_bytes ns) ++ rest) h)

  pub field_size_lem : size ns < 65536 → length_at (field tag ns ++ rest) 0 ≡ size ns
  unfolding field in_bytes
  field_size_lem h =
      rw (append_assoc (bytes_of 1 tag) (bytes_of 2 (size ns) ++ in_bytes ns) rest, append_assoc (bytes_of 2 (size ns)) (in_bytes ns) rest)
      (rw (bytes_length 1 tag) at (number_stands 2 (size ns) (bytes_of 1 tag) (in_bytes ns ++ rest) h))

  pub field_past : size ns < 65536 → past (field tag ns ++ rest) 0 ≡ length (field tag ns)
  field_past h = omega (arith, field_size_lem h, field_length tag ns)
