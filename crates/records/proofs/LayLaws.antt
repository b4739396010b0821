-- Bytes laid one piece behind the other are laid whole, two numbers as one too, and how long the pieces are. Assumes nothing.
use mathlib.Core.Path.{◌≡◌, refl, sym, ap, ap₂, ◌∙◌}
use mathlib.Core.Bool.{Bool, true, false, cond}
use mathlib.Core.List.{List, [], ◌++◌, append-nil}
use Prim.Native.Nat.{ℕ, zero, suc, ◌+◌, ◌*◌, ◌/◌, ◌%◌, ◌^◌, ◌≤◌, ◌<◌}
use native.Mathlib.Omega.{arith}
use lib.Arith.{digits_div}
use lib.Dec.{lit<}
use lib.IntN.{ℤ}
use mir.Syntax.{w32}
use mir.Val.{of_z, bool_byte}
use native.Mathlib.Nat.{add-zero, mul_assoc, pow-suc}
use lib.ListN.{length, take, drop, length-append, take-append-drop}
use Rattle.octets.specs.BigEndian.{bytes_of, laid}
use Rattle.octets.proofs.ByteLaws.{bytes_length, bytes_split}
use Rattle.octets.proofs.LaidLaws.{laid_laid}
use Rattle.solar.specs.declared.Given.{Given}
use Rattle.storage.specs.declared.Outcome.{Outcome}
use Rattle.records.specs.Records.{asked_part, given_part, record_of, turned_part, lit_part, roof_record_of, end_of}

-- a flag's number, as a cast gives it
pub flag_byte : (b : Bool) → ◌≡◌ {A = ℕ} (bool_byte b) (cond b 1 0)
flag_byte true = refl
flag_byte false = refl

-- nothing laid changes nothing
pub nothing : (s : List ℕ) (at : ℕ) → s ≡ laid s at []
unfolding laid
nothing s at = sym (ap (λ (k : ℕ). take at s ++ [] ++ drop k s) (add-zero at) ∙ ap (λ (r : List ℕ). r ++ drop at s) (append-nil (take at s)) ∙ take-append-drop at s)

-- a piece of n bytes, and another behind it
pub behind : (s : List ℕ) (at : ℕ) → at ≤ length s → (a b : List ℕ) (n : ℕ) → length a ≡ n → (t u : List ℕ) → t ≡ laid s at a → u ≡ laid t (at + n) b → u ≡ laid s at (a ++ b)
behind s at h a b n l t u d e = cc (laid_laid s at h a b)

-- both are as long as the two
pub both : (a b : List ℕ) (n m : ℕ) → length a ≡ n → length b ≡ m → length (a ++ b) ≡ n + m
both a b n m p q = length-append a b ∙ ap₂ ◌+◌ p q

-- a number more
pub longer : (a : List ℕ) (n m v : ℕ) → length a ≡ n → length (a ++ bytes_of m v) ≡ n + m
longer a n m v l = both a (bytes_of m v) n m l (bytes_length m v)

-- ---- the bytes of two numbers, one behind the other, are those of one number
above : (m a b : ℕ) → bytes_of m (a * 256 ^ m + b) ≡ bytes_of m b
unfolding bytes_of
above zero a b = refl
above (suc m) a b =
    let p : a * 256 ^ m * 256 ≡ a * (256 ^ m * 256) = mul_assoc a (256 ^ m) 256 in
    let high : (a * (256 ^ m * 256) + b) / 256 ≡ a * 256 ^ m + b / 256 = omega arith in
    let low : (a * (256 ^ m * 256) + b) % 256 ≡ b % 256 = omega arith in
    rw (pow-suc 256 m, high, low, above m a (b / 256))

joined : (n m a b : ℕ) → b < 256 ^ m → bytes_of (n + m) (a * 256 ^ m + b) ≡ bytes_of n a ++ bytes_of m b
joined n m a b h = rw (bytes_split n m (a * 256 ^ m + b), digits_div a h, above m a b)

-- so are tag, length, step and unit of a unit's record
abbrev pub asked_number : ℕ → ℕ → ℕ
asked_number step unit = 1225019780575002624 + step * 256 + unit

asked_head : (step unit : ℕ) → unit < 256 → step < 2 ^ 32 → bytes_of 8 (asked_number step unit) ≡ bytes_of 1 0x11 ++ bytes_of 2 37 ++ bytes_of 4 step ++ bytes_of 1 unit
asked_head step unit h k =
    let e : asked_number step unit ≡ ((0x11 * 256 ^ 2 + 37) * 256 ^ 4 + step) * 256 ^ 1 + unit = omega arith in
    ap (bytes_of 8) e
    ∙ joined 7 1 ((0x11 * 256 ^ 2 + 37) * 256 ^ 4 + step) unit h
    ∙ ap (λ (b : List ℕ). b ++ bytes_of 1 unit) (joined 3 4 (0x11 * 256 ^ 2 + 37) step k ∙ ap (λ (b : List ℕ). b ++ bytes_of 4 step) (joined 1 2 0x11 37 (lit< tt)))

pub asked_whole : (step unit : ℕ) (request : ℤ) → unit < 256 → step < 2 ^ 32 → bytes_of 8 (asked_number step unit) ++ bytes_of 4 (of_z w32 request) ≡ asked_part step unit request
unfolding asked_part
asked_whole step unit request h k = ap (λ (b : List ℕ). b ++ bytes_of 4 (of_z w32 request)) (asked_head step unit h k)

-- ---- the lengths of the records
pub asked_length : (step unit : ℕ) (request : ℤ) → length (asked_part step unit request) ≡ 12
unfolding asked_part bytes_of
asked_length step unit request = refl

pub given_length : (o : Outcome) → length (given_part o) ≡ 28
unfolding given_part bytes_of
given_length o = refl

pub record_length : (step unit : ℕ) (request : ℤ) (o : Outcome) → length (record_of step unit request o) ≡ 40
unfolding record_of
record_length step unit request o = both (asked_part step unit request) (given_part o) 12 28 (asked_length step unit request) (given_length o)

pub turned_length : (step inverter : ℕ) (on : Bool) → length (turned_part step inverter on) ≡ 9
unfolding turned_part bytes_of
turned_length step inverter on = refl

pub lit_length : (g : Given) → length (lit_part g) ≡ 20
unfolding lit_part bytes_of
lit_length g = refl

pub roof_length : (step inverter : ℕ) (g : Given) → length (roof_record_of step inverter g) ≡ 29
unfolding roof_record_of
roof_length step inverter g = both (turned_part step inverter g.on) (lit_part g) 9 20 (turned_length step inverter g.on) (lit_length g)

pub end_length : (steps : ℕ) → length (end_of steps) ≡ 7
unfolding end_of bytes_of
end_length steps = refl
