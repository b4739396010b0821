-- What a unit and an inverter share while a voltage leads them, over plain values: the priority that counts, the circle's watts, the vars requested and those
-- kept. Assumes nothing.
use mathlib.Core.Path.{◌≡◌, refl, sym, ap, ap₂, ◌∙◌, subst, subst⁻¹}
use mathlib.Core.Bool.{Bool, true, false, not, cond, ◌&&◌, ◌||◌}
use Prim.Native.Nat.{ℕ, ◌^◌, ◌≤◌, ◌<◌, min}
use native.Mathlib.Nat.{lt_of_le_of_lt}
use native.Mathlib.Omega.{arith}
use lib.Dec.{lit<}
use lib.IntN.{ℤ, pos, nat_abs, ◌*ℤ◌}
use lib.Signed.{mag}
use mir.Syntax.{w32}
use mir.Val.{to_z, of_z}
use borrow.Author.Tests.{not-true}
use Rattle.whole.proofs.Choice.{by_test, passed_failed}
use Rattle.whole.proofs.CircleLaws.{watts_first_lem}
use Rattle.whole.proofs.SignLaws.{size_fits, read, sign_size}
use Rattle.whole.specs.Circle.{watts_in, vars_in}
use Rattle.whole.specs.Largest.{leg_of}
use Rattle.whole.specs.Quotient.{cut}
use Rattle.whole.specs.Signed.{negative, signed}
use Rattle.lead.specs.declared.Lead.{Lead}
use Rattle.lead.specs.Lead.{first_by, base_of, requested_by, kept_by}
use Rattle.lead.proofs.LeadLaws.{requested_fresh, requested_own, requested_most}
use Rattle.lead.proofs.LeadProved.{lead_law}
use Rattle.guided.specs.Units.{Guiding}

-- a number as 32 bits hold it: one of at most 1.1 x 10^8 in size is read back
abbrev pub back : ℤ → ℤ
back z = to_z w32 (of_z w32 z)

pub small_back : (z : ℤ) → nat_abs z ≤ 110000000 → back z ≡ z
small_back z h = read w32 z (size_fits w32 z (lt_of_le_of_lt h (lit< tt))).sfits

pub small_same : (z : ℤ) → nat_abs z ≤ 100000000 → back z ≡ z
small_same z h = small_back z (omega arith)

-- ---- the three tests
or_parts : (a b : Bool) → (a || b) ≡ false → (a ≡ false) × (b ≡ false)
or_parts true b e = absurd (passed_failed refl e)
or_parts false b e = (refl, e)

module _ (l : Lead) where
  pub none_leads : not (l.leads || l.after || l.fresh) ≡ true → (l.leads ≡ false) × ((l.after ≡ false) × (l.fresh ≡ false))
  none_leads t =
      let o = or_parts (l.leads || l.after) l.fresh (not-true (l.leads || l.after || l.fresh) t) in
      let p = or_parts l.leads l.after o.0 in
      (p.0, (p.1, o.1))

  -- ---- the priority that counts
  pub first_most : (p : ℕ) → p ≤ 1 → first_by l p ≤ 1
  first_most p h = by_test (λ (n : ℕ). n ≤ 1) l.after 0 p (λ t. omega arith) (λ t. h)

  -- watts come first: they are at most S, and do not hang on the vars
  pub watts_held : l.after ≡ true → (S p v asked : ℕ) → min asked S ≡ watts_in S (first_by l p) v asked
  watts_held t S p v asked = watts_first_lem S (first_by l p) v asked other
    where
      none : first_by l p ≡ 0
      none = ap (λ (a : Bool). cond a 0 p) t

      other : first_by l p ≡ 1 → ⊥
      other e = let z = none in omega arith

  pub watts_same : l.after ≡ true → (S p v w asked : ℕ) → watts_in S (first_by l p) v asked ≡ watts_in S (first_by l p) w asked
  watts_same t S p v w asked = sym (watts_held t S p v asked) ∙ watts_held t S p w asked

  -- ---- the vars requested, by the own, those last requested, S and the watts
  module _ (own last : ℤ) (S : ℕ) where
    -- by S, or where nothing is fresh, the watts do not count
    pub requested_same : (l.fresh && l.after) ≡ false → (m n : ℕ) → requested_by l own last S m ≡ requested_by l own last S n
    unfolding requested_by
    requested_same e m n = go l.fresh l.after e
      where
        go : (f a : Bool) → (f && a) ≡ false
            → cond f (cut (pos (base_of a S m) *ℤ l.y) 10000) (cond l.leads last own) ≡ cond f (cut (pos (base_of a S n) *ℤ l.y) 10000) (cond l.leads last own)
        go true true e = absurd (passed_failed refl e)
        go true false e = refl
        go false a e = refl

    pub requested_none : l.leads ≡ false → l.fresh ≡ false → (n : ℕ) → requested_by l own last S n ≡ own
    requested_none d f n = sym (requested_own l own last S n f d)

    -- by what the circle leaves after the watts
    pub requested_after : l.fresh ≡ true → l.after ≡ true → (n : ℕ) → cut (pos (leg_of S n) *ℤ l.y) 10000 ≡ requested_by l own last S n
    requested_after f a n =
        sym (ap (λ (b : Bool). cut (pos (base_of b S n) *ℤ l.y) 10000) a) ∙ requested_fresh l own last S n f

    module _ (g : Guiding l last) (n : ℕ) where
      pub requested_small : nat_abs own ≤ 100000000 → S ≤ 100000000 → nat_abs (requested_by l own last S n) ≤ 100000000
      requested_small ho hS = requested_most l own last S n ho g.last_small g.modest.y_small hS

      -- by what the circle leaves after the watts, they fit it
      pub requested_fits : l.fresh ≡ true → l.after ≡ true → nat_abs (requested_by l own last S n) ≤ leg_of S n
      requested_fits f a =
          subst (λ (z : ℤ). nat_abs z ≤ leg_of S n) (requested_fresh l own last S n f) ((lead_law l S n g.modest).fits a)

  -- ---- and those kept
  pub kept_most : (last r : ℤ) → nat_abs last ≤ 100000000 → nat_abs r ≤ 100000000 → nat_abs (kept_by l last r) ≤ 100000000
  kept_most last r hl hr = by_test (λ (z : ℤ). nat_abs z ≤ 100000000) l.leads r last (λ t. hr) (λ t. hl)

  pub kept_stands : (last r : ℤ) → l.leads ≡ false → kept_by l last r ≡ last
  kept_stands last r d = ap (λ (t : Bool). cond t r last) d

-- ---- from what the code has
module _ (l : Lead) (last : ℤ) (g : Guiding l last) where
  pub last_back : back last ≡ last
  last_back = small_same last g.last_small

  pub guiding_back : Guiding l (back last)
  guiding_back = subst⁻¹ (Guiding l) last_back g

  -- the vars requested, as they are asked for
  pub asked_read : (own : ℤ) → nat_abs own ≤ 100000000 → (S n : ℕ) (asked : ℤ) → asked ≡ requested_by l (back own) (back last) S n
      → asked ≡ requested_by l own last S n
  asked_read own ho S n asked e = e ∙ ap₂ (λ (y z : ℤ). requested_by l y z S n) (small_same own ho) last_back

  -- and as they are handed on; what is then kept
  module _ (requested : ℤ) (few : nat_abs requested ≤ 100000000) (asked : ℤ) (e : asked ≡ requested) where
    pub asked_back : back asked ≡ requested
    asked_back = ap back e ∙ small_same requested few

    pub kept_back : (kept : ℤ) → mag kept < 2 ^ 31 → kept ≡ kept_by l (back last) (back asked) → back kept ≡ kept_by l last requested
    kept_back kept k h = read w32 kept k ∙ h ∙ ap₂ (kept_by l) last_back asked_back

-- ---- vars that fit the circle beside the watts: only a limit cuts them, and one that they keep cuts nothing
module _ (r : ℤ) (S watts : ℕ) (h : nat_abs r ≤ leg_of S watts) where
  pub vars_limited : (most : ℕ) → vars_in S (negative r) (min (nat_abs r) most) watts ≡ signed (negative r) (min (nat_abs r) most)
  unfolding vars_in
  vars_limited most = ap (signed (negative r)) fewer
    where
      fewer : min (min (nat_abs r) most) (leg_of S watts) ≡ min (nat_abs r) most
      fewer = omega arith

  pub vars_whole : (most : ℕ) → nat_abs r ≤ most → vars_in S (negative r) (min (nat_abs r) most) watts ≡ r
  vars_whole most k = vars_limited most ∙ ap (signed (negative r)) all ∙ sign_size r
    where
      all : min (nat_abs r) most ≡ nat_abs r
      all = omega arith
