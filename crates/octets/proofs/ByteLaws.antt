-- Numbers and their bytes, at every width: a number of n + m bytes is one of n bytes and one of m bytes behind it. Assumes nothing.
use mathlib.Core.Path.{◌≡◌, refl, sym, ap}
use mathlib.Core.List.{List, [], ◌∷◌, ◌++◌, append-nil, append_assoc}
use Prim.Native.Nat.{ℕ, zero, suc, ◌+◌, ◌*◌, ◌/◌, ◌%◌, ◌^◌, ◌<◌}
use native.Mathlib.Nat.{add-zero, zero-add, add-suc, add_assoc, mul_assoc, pow-suc, pow-succ', div-one, div-div-eq-div-mul, mod-one, one-le-pow, le_step, lt-suc_self}
use native.Mathlib.Numerals.{add-one, one-add}
use native.Mathlib.Omega.{arith}
use lib.Arith.{digits_lt, mod-mul}
use lib.Dec.{lit<}
use lib.ListN.{length, get_or, length-append, get_or-append}
use lib.Seq.{get_or_at}
use Rattle.std.specs.Int.{byte_at, bytes_high_first}
use Rattle.octets.specs.BigEndian.{be, bytes_of}

-- every place weighs something
pub pow_pos : (n : ℕ) → 0 < 256 ^ n
pow_pos n = one-le-pow n 256 (lit< tt)

-- ---- the number in the bytes

-- one byte is its own number
pub be_one : (s : List ℕ) (at : ℕ) → be 1 s at ≡ get_or s at 0
unfolding be
be_one s at = rw (add-zero at) (omega arith)

-- the first n of n + m bytes weigh 256 ^ m times as much
pub be_split : (n m : ℕ) (s : List ℕ) (at : ℕ) → be (n + m) s at ≡ be n s at * 256 ^ m + be m s (at + n)
unfolding be
be_split n zero s at = rw (add-zero n) (omega arith)
be_split n (suc m) s at =
    rw (add-suc n m, pow-suc 256 m, add_assoc at n m)
    (step (be (n + m) s at) (be n s at) (be m s (at + n)) (get_or s (at + (n + m)) 0) (256 ^ m) (be_split n m s at))
  where
    step : (a b c x p : ℕ) → a ≡ b * p + c → a * 256 + x ≡ b * (p * 256) + (c * 256 + x)
    step a b c x p e = let q : b * p * 256 ≡ b * (p * 256) = mul_assoc b p 256 in omega arith

-- the first of n + 1 bytes weighs most
pub be_first : (n : ℕ) (s : List ℕ) (at : ℕ) → be (suc n) s at ≡ get_or s at 0 * 256 ^ n + be n s (at + 1)
be_first n s at = rw (← one-add n, be_split 1 n s at, be_one s at)

-- two, four and eight bytes, each with its weight
pub be_2 : (s : List ℕ) (at : ℕ) → be 2 s at ≡ get_or s at 0 * 256 + get_or s (at + 1) 0
be_2 s at = omega (arith, be_split 1 1 s at, be_one s at, be_one s (at + 1))

pub be_4 : (s : List ℕ) (at : ℕ) → be 4 s at ≡ get_or s at 0 * 256 ^ 3 + get_or s (at + 1) 0 * 256 ^ 2 + get_or s (at + 2) 0 * 256 + get_or s (at + 3) 0
be_4 s at = rw (be_split 2 2 s at, be_2 s at, be_2 s (at + 2), add_assoc at 2 1) (omega arith)

pub be_8 : (s : List ℕ) (at : ℕ)
    → be 8 s at ≡ get_or s at 0 * 256 ^ 7 + get_or s (at + 1) 0 * 256 ^ 6 + get_or s (at + 2) 0 * 256 ^ 5 + get_or s (at + 3) 0 * 256 ^ 4
    + get_or s (at + 4) 0 * 256 ^ 3 + get_or s (at + 5) 0 * 256 ^ 2 + get_or s (at + 6) 0 * 256 + get_or s (at + 7) 0
be_8 s at = rw (be_split 4 4 s at, be_4 s at, be_4 s (at + 4), add_assoc at 4 1, add_assoc at 4 2, add_assoc at 4 3) (omega arith)

-- the number is known by its bytes
pub be_same : (n : ℕ) (s t : List ℕ) (at to : ℕ) → ((i : ℕ) → i < n → get_or s (at + i) 0 ≡ get_or t (to + i) 0) → be n s at ≡ be n t to
unfolding be
be_same zero s t at to h = refl
be_same (suc n) s t at to h = rw (be_same n s t at to (λ i l. h i (le_step l)), h n (lt-suc_self n))

-- n bytes hold a number below 256 ^ n
pub be_below : (n : ℕ) (s : List ℕ) (at : ℕ) → ((i : ℕ) → get_or s i 0 < 256) → be n s at < 256 ^ n
unfolding be
be_below zero s at h = lit< tt
be_below (suc n) s at h = rw (pow-suc 256 n) (digits_lt (be_below n s at h) (h (at + n)))

-- ---- the bytes of a number

-- n bytes are n bytes
pub bytes_length : (n v : ℕ) → length (bytes_of n v) ≡ n
unfolding bytes_of
bytes_length zero v = refl
bytes_length (suc n) v = rw (length-append, bytes_length n (v / 256)) (add-one n)

-- the bytes of a number are those of its high part and then those of its low part
pub bytes_split : (n m v : ℕ) → bytes_of (n + m) v ≡ bytes_of n (v / 256 ^ m) ++ bytes_of m v
unfolding bytes_of
bytes_split n zero v = rw (add-zero n, append-nil, div-one v)
bytes_split n (suc m) v = rw (add-suc n m, pow-succ' 256 m, bytes_split n m (v / 256), div-div-eq-div-mul v 256 (256 ^ m), append_assoc)

-- one byte is itself
bytes_one : (v : ℕ) → bytes_of 1 v ≡ v % 256 ∷ []
unfolding bytes_of
bytes_one v = refl

-- the highest of n + 1 bytes comes first
pub bytes_first : (n v : ℕ) → bytes_of (suc n) v ≡ v / 256 ^ n % 256 ∷ bytes_of n v
bytes_first n v = rw (← one-add n, bytes_split 1 n v, bytes_one (v / 256 ^ n))

-- the library's bytes of a number, the highest first, are these
pub high_first : (n v : ℕ) → bytes_high_first n v ≡ bytes_of n v
unfolding bytes_of
high_first zero v = refl
high_first (suc n) v = rw (bytes_first n v, high_first n v) (ap (λ (b : ℕ). b ∷ bytes_of n v) (byte_is n))
  where
    byte_is : (k : ℕ) → byte_at k v ≡ v / 256 ^ k % 256
    byte_is zero = rw (div-one v)
    byte_is (suc k) = refl

-- ---- there and back

-- the number in the n lowest bytes of v is v, cut to n bytes
pub be_bytes : (n v : ℕ) → be n (bytes_of n v) 0 ≡ v % 256 ^ n
unfolding be bytes_of
be_bytes zero v = sym (mod-one v)
be_bytes (suc n) v =
    let front = bytes_of n (v / 256) in
    let l : length front ≡ n = bytes_length n (v / 256) in
    rw (
      pow-suc 256 n,
      mod-mul v (pow_pos n) (lit< tt),
      zero-add n,
      get_or_at front (v % 256) [] 0 n l,
      be_same n (front ++ (v % 256 ∷ [])) front 0 0 (λ i h. get_or-append front (v % 256 ∷ []) 0 (0 + i) (omega arith)),
      be_bytes n (v / 256),
    )
