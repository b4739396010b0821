-- The energy that watts move, and the largest watts that a given energy allows, over plain numbers: x watts, an inverter of i and a charge or
-- discharge efficiency of e parts in 10,000, an idle loss in watts, s seconds. Assumes nothing.
use mathlib.Core.Path.{◌≡◌, sym, ap, ◌∙◌, subst}
use mathlib.Core.Logic.{◌↔◌}
use Prim.Native.Nat.{ℕ, zero, suc, ◌+◌, ◌-◌, ◌*◌, ◌/◌, ◌≤◌, ◌<◌, ◌^◌, min}
use native.Mathlib.Nat.{mul_assoc, mul_comm, mul-le-mul, mul-le-mul_left, mul-le-mul_right, div-le_of_le-mul, le_trans, le_of_eq, le_refl, zero-mul, lt_of_le_of_lt}
use native.Mathlib.Omega.{arith}
use lib.Dec.{leb, lit<}
use Rattle.whole.proofs.LargestLaws.{leb_same}
use Rattle.whole.proofs.QuotientLaws.{floor_from, floor_upto, ceil_upto}
use Rattle.whole.specs.Quotient.{ceil}

-- ---- each conversion, as a bound on what goes in

parts : 0 < 10000
parts = omega arith

-- x watts at the grid draw at most m direct watts
pub drawn_upto : (x i m : ℕ) → 0 < i → (ceil (x * 10000) i ≤ m) ↔ (x ≤ m * i / 10000)
drawn_upto x i m h = (
  (λ l. (floor_from parts).1 ((ceil_upto h).0 l)),
  (λ l. (ceil_upto h).1 ((floor_from parts).0 l)),
)

-- n watts for s seconds remove at most a joules
pub removal_upto : (n s e a : ℕ) → 0 < s → 0 < e → (ceil (n * s * 10000) e ≤ a) ↔ (n ≤ a * e / (s * 10000))
removal_upto n s e a h k = (
  (λ l. (floor_from some).1 (subst (λ (t : ℕ). t ≤ a * e) (mul_assoc n s 10000) ((ceil_upto k).0 l))),
  (λ l. (ceil_upto k).1 (subst (λ (t : ℕ). t ≤ a * e) (sym (mul_assoc n s 10000)) ((floor_from some).0 l))),
)
  where
    some : 0 < s * 10000
    some = omega arith

-- of x watts from the grid at most m direct watts are left
pub passed_upto : (x i m : ℕ) → 0 < i → (x * i / 10000 ≤ m) ↔ (x ≤ ((m + 1) * 10000 - 1) / i)
passed_upto x i m h = (
  (λ l. (floor_from h).1 ((floor_upto (x * i) 10000 m (omega arith)).0 l)),
  (λ l. (floor_upto (x * i) 10000 m (omega arith)).1 ((floor_from h).0 l)),
)

-- n watts for s seconds add at most r joules
pub addition_upto : (n s e r : ℕ) → 0 < s * e → (n * s * e / 10000 ≤ r) ↔ (n ≤ ((r + 1) * 10000 - 1) / (s * e))
addition_upto n s e r h = (
  (λ l. (floor_from h).1 (subst (λ (t : ℕ). t ≤ (r + 1) * 10000 - 1) (mul_assoc n s e) ((floor_upto (n * s * e) 10000 r (omega arith)).0 l))),
  (λ l. (floor_upto (n * s * e) 10000 r (omega arith)).1 (subst (λ (t : ℕ). t ≤ (r + 1) * 10000 - 1) (sym (mul_assoc n s e)) ((floor_from h).0 l))),
)

-- watts come from watts
watts_some : (x n i : ℕ) → 0 < x → x ≤ n * i / 10000 → 0 < n
watts_some x zero i h l = let z : zero * i ≡ 0 = zero-mul i in omega arith
watts_some x (suc n) i h l = omega arith

-- ---- both energy limits

-- x watts, with the idle loss beside what they draw, remove at most a joules
pub removed_test : (x i idle s e a : ℕ) → 0 < i → 0 < s → 0 < e → 0 < x
    → leb (ceil ((ceil (x * 10000) i + idle) * s * 10000) e) a ≡ leb x ((a * e / (s * 10000) - idle) * i / 10000)
removed_test x i idle s e a hi hs he hx =
    leb_same (ceil ((ceil (x * 10000) i + idle) * s * 10000) e) a x ((a * e / (s * 10000) - idle) * i / 10000)
    (λ l. let m : ceil (x * 10000) i + idle ≤ a * e / (s * 10000) = (removal_upto (ceil (x * 10000) i + idle) s e a hs he).0 l in
    (drawn_upto x i (a * e / (s * 10000) - idle) hi).0 (omega arith))
    (λ l. (removal_upto (ceil (x * 10000) i + idle) s e a hs he).1
    (let m : ceil (x * 10000) i ≤ a * e / (s * 10000) - idle = (drawn_upto x i (a * e / (s * 10000) - idle) hi).1 l in
    let z : 0 < a * e / (s * 10000) - idle = some l in
    omega arith))
  where
    some : x ≤ (a * e / (s * 10000) - idle) * i / 10000 → 0 < a * e / (s * 10000) - idle
    some l = watts_some x (a * e / (s * 10000) - idle) i hx l

-- x watts, less the idle loss, add at most r joules
pub added_test : (x i idle s e r : ℕ) → 0 < i → 0 < s * e
    → leb ((x * i / 10000 - idle) * s * e / 10000) r ≡ leb x (((((r + 1) * 10000 - 1) / (s * e) + idle + 1) * 10000 - 1) / i)
added_test x i idle s e r hi hs =
    leb_same ((x * i / 10000 - idle) * s * e / 10000) r x (((((r + 1) * 10000 - 1) / (s * e) + idle + 1) * 10000 - 1) / i)
    (λ l. let m : x * i / 10000 - idle ≤ ((r + 1) * 10000 - 1) / (s * e) = (addition_upto (x * i / 10000 - idle) s e r hs).0 l in
    (passed_upto x i (((r + 1) * 10000 - 1) / (s * e) + idle) hi).0 (omega arith))
    (λ l. (addition_upto (x * i / 10000 - idle) s e r hs).1
    (let m : x * i / 10000 ≤ ((r + 1) * 10000 - 1) / (s * e) + idle = (passed_upto x i (((r + 1) * 10000 - 1) / (s * e) + idle) hi).1 l in
    omega arith))

-- ---- sizes

-- x watts draw at least x and at most 10 x direct watts
pub drawn_least : (x i : ℕ) → 0 < i → i ≤ 10000 → x ≤ ceil (x * 10000) i
drawn_least x i h l =
    let m : x * 10000 ≤ ceil (x * 10000) i * i = (ceil_upto h).0 (le_refl (ceil (x * 10000) i)) in
    let n : ceil (x * 10000) i * i ≤ ceil (x * 10000) i * 10000 = mul-le-mul_left (ceil (x * 10000) i) l in
    omega arith

pub drawn_most : (x i : ℕ) → 1000 ≤ i → ceil (x * 10000) i ≤ x * 10
drawn_most x i h = let some : 0 < i = omega arith in (ceil_upto some).1 (let m : x * 10 * 1000 ≤ x * 10 * i = mul-le-mul_left (x * 10) h in omega arith)

-- of x watts from the grid at most x direct watts are left
pub passed_most : (x i : ℕ) → i ≤ 10000 → x * i / 10000 ≤ x
passed_most x i h = let m : x * i ≤ x * 10000 = mul-le-mul_left x h in omega arith

-- a removal is at least the energy of the direct watts, an addition at most
pub removal_least : (n s e : ℕ) → 0 < e → e ≤ 10000 → n * s ≤ ceil (n * s * 10000) e
removal_least n s e h l = drawn_least (n * s) e h l

pub addition_most : (n s e : ℕ) → e ≤ 10000 → n * s * e / 10000 ≤ n * s
addition_most n s e h = passed_most (n * s) e h

-- so what is removed covers what is delivered, and what is added is covered by what is drawn
pub removed_covers : (x i idle s e : ℕ) → 0 < i → i ≤ 10000 → 0 < e → e ≤ 10000
    → x * s ≤ ceil ((ceil (x * 10000) i + idle) * s * 10000) e
removed_covers x i idle s e hi li he le =
    let d : x ≤ ceil (x * 10000) i = drawn_least x i hi li in
    le_trans (mul-le-mul_right s (omega arith)) (removal_least (ceil (x * 10000) i + idle) s e he le)

pub added_covered : (x i idle s e : ℕ) → i ≤ 10000 → e ≤ 10000 → (x * i / 10000 - idle) * s * e / 10000 ≤ x * s
added_covered x i idle s e li le =
    let d : x * i / 10000 ≤ x = passed_most x i li in
    le_trans (addition_most (x * i / 10000 - idle) s e le) (mul-le-mul_right s (omega arith))

-- the watts that a joules allow are at most a, and those that a room allows at most ten to a joule
pub drawable_most : (a e s : ℕ) → e ≤ 10000 → 1 ≤ s → a * e / (s * 10000) ≤ a
drawable_most a e s h k =
    let m : e ≤ s * 10000 = omega arith in
    div-le_of_le-mul (s * 10000) (le_trans (mul-le-mul_left a m) (le_of_eq (mul_comm a (s * 10000))))

pub keepable_most : (r e s : ℕ) → 1000 ≤ e → 1 ≤ s → ((r + 1) * 10000 - 1) / (s * e) ≤ (r + 1) * 10
keepable_most r e s h k =
    let m : 1 * 1000 ≤ s * e = mul-le-mul k h in
    let n : 1000 * ((r + 1) * 10) ≤ s * e * ((r + 1) * 10) = mul-le-mul_right ((r + 1) * 10) (omega arith) in
    div-le_of_le-mul (s * e) (omega arith)

-- ---- what the code's products come to
pub removed_room : (d idle s : ℕ) → d ≤ 1000000000 → idle ≤ 10000000 → s ≤ 86400 → (d + idle) * s ≤ 87264000000000
removed_room d idle s hd hi hs = le_trans (mul-le-mul {n₂ = 1010000000} (omega arith) hs) (omega arith)

-- of x watts, with the idle loss beside what they draw, over s seconds, in parts
pub drawn_room : (x i idle s : ℕ) → x ≤ 100000000 → 1000 ≤ i → idle ≤ 10000000 → s ≤ 86400
    → ((x * 10000 + (i - 1)) / i ≤ 1000000000) × (((x * 10000 + (i - 1)) / i + idle) * (s * 10000) ≤ 872640000000000000)
unfolding ceil
drawn_room x i idle s hx hi hl hs =
    let d : ceil (x * 10000) i ≤ x * 10 = drawn_most x i hi in
    let r : (ceil (x * 10000) i + idle) * s ≤ 87264000000000 = removed_room (ceil (x * 10000) i) idle s (omega arith) hl hs in
    let e : (ceil (x * 10000) i + idle) * s * 10000 ≡ (ceil (x * 10000) i + idle) * (s * 10000) = mul_assoc (ceil (x * 10000) i + idle) s 10000 in
    (omega arith, omega arith)

pub added_room : (x i idle s : ℕ) → x ≤ 100000000 → i ≤ 10000 → s ≤ 86400 → (x * i / 10000 - idle) * s ≤ 8640000000000
added_room x i idle s hx hi hs =
    let d : x * i / 10000 ≤ x = passed_most x i hi in
    le_trans (mul-le-mul {n₂ = 100000000} (omega arith) hs) (omega arith)

pub delivered_room : (a e s idle i : ℕ) → a ≤ 10000000000000 → e ≤ 10000 → 1 ≤ s → i ≤ 10000
    → (a * e / (s * 10000) - idle) * i ≤ 100000000000000000
delivered_room a e s idle i ha he hs hi =
    let d : a * e / (s * 10000) ≤ a = drawable_most a e s he hs in
    le_trans (mul-le-mul {n₂ = 10000000000000} (omega arith) hi) (omega arith)

-- nothing kept adds nothing
pub added_none : (n s e : ℕ) → n ≡ 0 → 0 ≡ n * s * e / 10000
added_none n s e z =
    let p : n * s ≡ 0 = ap (λ (k : ℕ). k * s) z ∙ zero-mul s in
    let q : n * s * e ≡ 0 = ap (λ (k : ℕ). k * e) p ∙ zero-mul e in
    omega arith

-- where no more than the idle loss can be drawn, no watt is delivered
pub drawn_none : (p n i : ℕ) → n ≡ 0 → 0 ≡ min p (n * i / 10000)
drawn_none p n i z = let q : n * i ≡ 0 = ap (λ (k : ℕ). k * i) z ∙ zero-mul i in omega arith

-- watts over a day fit 64 bits
pub energy_fits : (x s : ℕ) → x ≤ 100000000 → s ≤ 86400 → x * s < 2 ^ 64
energy_fits x s hx hs = lt_of_le_of_lt (mul-le-mul hx hs) (lit< tt)
