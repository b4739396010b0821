-- The NaN, found by the tests that the code has: by the bits, and by a double that differs from itself. Assumes nothing.
use mathlib.Core.Path.{◌≡◌, refl, sym, ◌∙◌, subst⁻¹}
use mathlib.Core.Bool.{Bool, true, false, not}
use Prim.Native.Nat.{ℕ, ◌*◌, ◌%◌, ◌≤◌, ◌<◌}
use lib.Dec.{T}
use lib.Ieee.{Format, Float, nan, inf, fin, ones, hid, top, ne, is_nan, nan_bits, of_bits}
use lib.Ieee.Bits.{nan_bits_is, nan_bits_above}
use lib.Ieee.Compare.{nan_differs, differs_from_itself}
use borrow.Author.Tests.{lt-ltb, le-ltb}
use Rattle.whole.proofs.Choice.{passed_failed}

-- the test finds only the NaN
nan_is : (x : Float) → is_nan x ≡ true → x ≡ nan
unfolding is_nan
nan_is nan t = refl
nan_is (inf s) t = absurd (passed_failed t refl)
nan_is (fin s m e) t = absurd (passed_failed t refl)

-- a pattern above the infinity's, its sign apart, is a NaN's
pub above_nan : (f : Format) (n : ℕ) → ones f * hid f < n % top f → of_bits f n ≡ nan
above_nan f n l = nan_is (of_bits f n) (sym (nan_bits_is f n) ∙ nan_bits_above f n ∙ lt-ltb (ones f * hid f) (n % top f) l)

-- any other is a number's or an infinity's
pub upto_no_nan : (f : Format) (n : ℕ) → n % top f ≤ ones f * hid f → T (not (nan_bits f n))
upto_no_nan f n l = subst⁻¹ (λ (b : Bool). T (not b)) (nan_bits_above f n ∙ le-ltb (ones f * hid f) (n % top f) l) tt

-- only the NaN differs from itself
pub differs_nan : (x : Float) → ne x x ≡ true → x ≡ nan
differs_nan x t = differs_from_itself x (subst⁻¹ T t tt)

-- so a double that is the same as itself is no NaN
pub same_no_nan : (x : Float) → ne x x ≡ false → T (not (is_nan x))
unfolding is_nan
same_no_nan nan t = absurd (passed_failed nan_differs t)
same_no_nan (inf s) t = tt
same_no_nan (fin s m e) t = tt
