-- What closing leaves of a gap. At factor 1,000 it is the remainder by n. Else a floor loses less than one, so that 1,000 times what a pass leaves is at most
-- (1,000 - factor) times the gap and n × 1,000; j passes then leave what the bound says, by induction over j. Assumes nothing.
use mathlib.Core.Path.{◌≡◌, sym, ap, ◌∙◌}
use Prim.Native.Nat.{ℕ, zero, suc, ◌+◌, ◌-◌, ◌*◌, ◌/◌, ◌^◌, ◌≤◌, ◌<◌}
use native.Mathlib.Nat.{mod-lt, div-add-mod, mul-div-mul_right, div-mul-le_self, lt-div-mul-add, mul_assoc, mul_comm, mul-add, add-mul, mul-le-mul_right, pow-zero, pow-suc}
use native.Mathlib.Omega.{arith}
use Rattle.settling.specs.Closing.{closed, closed_by, ClosedLaw}

pub remainder : (n gap : ℕ) → 0 < n → closed n 1000 gap < n
unfolding closed
remainder n gap h =
    let quotient : n * (gap * 1000 / (n * 1000)) ≡ n * (gap / n) = ap (λ (x : ℕ). n * x) (mul-div-mul_right gap n (omega arith)) in
    omega (arith, div-add-mod gap n, mod-lt gap h)

-- one pass
pub one_closed : (n factor gap : ℕ) → 0 < n → factor ≤ 1000 → closed n factor gap * 1000 ≤ gap * (1000 - factor) + n * 1000
unfolding closed
one_closed n factor gap some most =
    let q : ℕ = gap * factor / (n * 1000) in
    let turned : q * (n * 1000) ≡ n * q * 1000 = sym (mul_assoc q n 1000) ∙ ap (λ (x : ℕ). x * 1000) (mul_comm q n) in
    let upper : gap * factor < q * (n * 1000) + n * 1000 = lt-div-mul-add (omega arith) in
    let lower : q * (n * 1000) ≤ gap * factor = div-mul-le_self (gap * factor) (n * 1000) in
    let parts : 1000 - factor + factor ≡ 1000 = omega arith in
    let whole : gap * (1000 - factor) + gap * factor ≡ gap * 1000 = sym (mul-add gap (1000 - factor) factor) ∙ ap (λ (x : ℕ). gap * x) parts in
    omega arith

-- one pass more, over plain numbers
more : (x y factor less N A X : ℕ) → x * 1000 ≤ y * less + N → less + factor ≡ 1000 → y * factor * A ≤ X + N * A → x * factor * (A * 1000) ≤ X * less + N * (A * 1000)
more x y factor less N A X one parts before =
    let left : x * factor * (A * 1000) ≡ x * 1000 * (factor * A) =
    mul_assoc x factor (A * 1000) ∙ ap (λ (z : ℕ). x * z) (sym (mul_assoc factor A 1000) ∙ mul_comm (factor * A) 1000) ∙ sym (mul_assoc x 1000 (factor * A)) in
    let grown : x * 1000 * (factor * A) ≤ (y * less + N) * (factor * A) = mul-le-mul_right (factor * A) one in
    let split : (y * less + N) * (factor * A) ≡ y * less * (factor * A) + N * (factor * A) = add-mul (y * less) N (factor * A) in
    let old : y * less * (factor * A) ≡ y * factor * A * less =
    mul_assoc y less (factor * A) ∙ ap (λ (z : ℕ). y * z) (mul_comm less (factor * A)) ∙ sym (mul_assoc y (factor * A) less) ∙ ap (λ (z : ℕ). z * less) (sym (mul_assoc y factor A)) in
    let bound : y * factor * A * less ≤ (X + N * A) * less = mul-le-mul_right less before in
    let apart : (X + N * A) * less ≡ X * less + N * A * less = add-mul X (N * A) less in
    let new : N * (factor * A) ≡ N * A * factor = ap (λ (z : ℕ). N * z) (mul_comm factor A) ∙ sym (mul_assoc N A factor) in
    let both : N * A * less + N * A * factor ≡ N * (A * 1000) = sym (mul-add (N * A) less factor) ∙ ap (λ (z : ℕ). N * A * z) parts ∙ mul_assoc N A 1000 in
    omega arith

pub closed_law : ClosedLaw
unfolding closed_by
closed_law n factor zero gap some most = rw (pow-zero (1000 - factor)) (none (gap * factor) (n * 1000))
  where
    none : (a b : ℕ) → a * 1 ≤ a * 1 + b * 1
    none a b = omega arith
closed_law n factor (suc j) gap some most =
    let last : ℕ = closed_by n factor j gap in
    let parts : 1000 - factor + factor ≡ 1000 = omega arith in
    let raised : gap * factor * (1000 - factor) ^ j * (1000 - factor) ≡ gap * factor * (1000 - factor) ^ suc j =
    mul_assoc (gap * factor) ((1000 - factor) ^ j) (1000 - factor) ∙ ap (λ (z : ℕ). gap * factor * z) (sym (pow-suc (1000 - factor) j)) in
    rw (pow-suc 1000 j, ← raised)
    (more (closed n factor last) last factor (1000 - factor) (n * 1000) (1000 ^ j) (gap * factor * (1000 - factor) ^ j) (one_closed n factor last some most) parts (closed_law n factor j gap some most))
