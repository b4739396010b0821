-- Numbers high byte first (rule F2): the number that stands in n bytes at a place, and the n bytes of a number.
-- A signed number of four bytes is `to_z w32` of the bits, the library's two's complement; a double is `of_bits binary64`, every NaN pattern being the one `nan`.
use Rattle.std.specs.Prelude.{ℕ, zero, suc, ◌+◌, ◌*◌, ◌/◌, ◌%◌, List, [], ◌∷◌, ◌++◌, length, get_or, take, drop}

-- the number in the n bytes at a place, the first byte weighing most
unfoldable pub be : ℕ → List ℕ → ℕ → ℕ
be zero s at = 0
be (suc n) s at = be n s at * 256 + get_or s (at + n) 0

-- the n lowest bytes of a number, the first weighing most
unfoldable pub bytes_of : ℕ → ℕ → List ℕ
bytes_of zero v = []
bytes_of (suc n) v = bytes_of n (v / 256) ++ (v % 256 ∷ [])

-- a list of bytes with others laid over it from a place on
unfoldable pub laid : List ℕ → ℕ → List ℕ → List ℕ
laid s at bs = take at s ++ bs ++ drop (at + length bs) s
