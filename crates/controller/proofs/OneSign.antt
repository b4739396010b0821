-- A pass over requests that are not of both signs gives requests that are not either. A pass that leaves them
-- keeps their signs, one that clears them leaves 0, and rule 6 lets nothing against the mode through. Assumes nothing.
use mathlib.Core.Path.{◌≡◌, refl, ap, ◌∙◌, subst}
use mathlib.Core.Bool.{Bool, true, false, cond, ◌&&◌}
use mathlib.Core.List.{List}
use Prim.Native.Nat.{ℕ, ◌<◌}
use lib.IntN.{ℤ, pos, ◌+ℤ◌}
use lib.ListN.{length, get_or}
use lib.Signed.{lt_z}
use Rattle.whole.specs.Over.{each}
use Rattle.whole.proofs.Choice.{by_test}
use Rattle.whole.proofs.OverLaws.{none_of, each_length, each_at}
use Rattle.rules.specs.declared.Settings.{Settings}
use Rattle.members.specs.Ranges.{Fleet, some_above, some_below}
use Rattle.controller.specs.OneSign.{OneSign, OneSignLaw}
use Rattle.rules.specs.Rules.{charges, share_of, limited, with_mode}
use Rattle.members.specs.Sums.{total, unable_at}
use Rattle.controller.specs.Pass.{own_need, own_band, rests, spent, all_in_band, request_after, pass_by, pass_of}

left_none : (a b : Bool) → a ≡ false → (a && b) ≡ false
left_none a b e = ap (λ (x : Bool). x && b) e

right_none : (a b : Bool) → b ≡ false → (a && b) ≡ false
right_none true b e = e
right_none false b e = refl

-- a list each of whose elements is replaced by one that is not above 0; that is not below 0
module _ (f : ℕ → ℤ → ℤ) (rs : List ℤ) where
  none_above : ((i : ℕ) (r : ℤ) → lt_z (pos 0) (f i r) ≡ false) → OneSign (each f rs)
  unfolding some_above
  none_above h =
      left_none (some_above (each f rs)) (some_below (each f rs))
      (none_of (length (each f rs)) (λ (i : ℕ). lt_z (pos 0) (get_or (each f rs) i (pos 0)))
      (λ i l. ap (lt_z (pos 0)) (each_at f rs i (pos 0) (subst (λ (n : ℕ). i < n) (each_length f rs) l)) ∙ h i (get_or rs i (pos 0))))

  none_below : ((i : ℕ) (r : ℤ) → lt_z (f i r) (pos 0) ≡ false) → OneSign (each f rs)
  unfolding some_below
  none_below h =
      right_none (some_above (each f rs)) (some_below (each f rs))
      (none_of (length (each f rs)) (λ (i : ℕ). lt_z (get_or (each f rs) i (pos 0)) (pos 0))
      (λ i l. ap (λ (z : ℤ). lt_z z (pos 0)) (each_at f rs i (pos 0) (subst (λ (n : ℕ). i < n) (each_length f rs) l)) ∙ h i (get_or rs i (pos 0))))

-- nothing against the mode
not_above : (z : ℤ) → lt_z (pos 0) (with_mode true z) ≡ false
unfolding with_mode
not_above z = by_test (λ (x : ℤ). lt_z (pos 0) x ≡ false) (lt_z (pos 0) z) (pos 0) z (λ t. refl) (λ t. t)

not_below_lem : (z : ℤ) → lt_z (with_mode false z) (pos 0) ≡ false
unfolding with_mode
not_below_lem z = by_test (λ (x : ℤ). lt_z x (pos 0) ≡ false) (lt_z z (pos 0)) (pos 0) z (λ t. refl) (λ t. t)

-- 0, or a number of which the same holds
or_none : (P : ℤ → Type 0) (b : Bool) (z : ℤ) → P (pos 0) → P z → P (cond b (pos 0) z)
or_none P b z x y = by_test P b (pos 0) z (λ t. x) (λ t. y)

-- what rule 6 makes of the requests
mode_rules : (s : Settings) (n : ℕ) (f : Fleet) (needs : ℕ → ℤ) (i : ℕ) (r : ℤ)
    → request_after s n f needs i r
    ≡ cond (unable_at (charges s.mode) f i) (pos 0) (with_mode (charges s.mode) (limited (get_or f.rating i 0) (r +ℤ share_of s.factor (needs i) (get_or f.weight i 0) (total n f.weight))))
unfolding request_after
mode_rules s n f needs i r = refl

shared : (s : Settings) (n : ℕ) (f : Fleet) (needs : ℕ → ℤ) (rs : List ℤ) (c : Bool) → charges s.mode ≡ c → OneSign (each (request_after s n f needs) rs)
shared s n f needs rs true e =
    none_above (request_after s n f needs) rs
    (λ i r.
    let z = limited (get_or f.rating i 0) (r +ℤ share_of s.factor (needs i) (get_or f.weight i 0) (total n f.weight)) in
    ap (lt_z (pos 0)) (mode_rules s n f needs i r)
    ∙ or_none (λ (x : ℤ). lt_z (pos 0) x ≡ false) (unable_at (charges s.mode) f i) (with_mode (charges s.mode) z) refl (ap (λ (b : Bool). lt_z (pos 0) (with_mode b z)) e ∙ not_above z))
shared s n f needs rs false e =
    none_below (request_after s n f needs) rs
    (λ i r.
    let z = limited (get_or f.rating i 0) (r +ℤ share_of s.factor (needs i) (get_or f.weight i 0) (total n f.weight)) in
    ap (λ (x : ℤ). lt_z x (pos 0)) (mode_rules s n f needs i r)
    ∙ or_none (λ (x : ℤ). lt_z x (pos 0) ≡ false) (unable_at (charges s.mode) f i) (with_mode (charges s.mode) z) refl (ap (λ (b : Bool). lt_z (with_mode b z) (pos 0)) e ∙ not_below_lem z))

pub one_sign_lem : OneSignLaw
unfolding pass_of pass_by
one_sign_lem s m f rs h =
    let needs : ℕ → ℤ = own_need s m f rs in
    let cleared : List ℤ = each (λ (i : ℕ) (r : ℤ). pos 0) rs in
    let after : List ℤ = each (request_after s (length rs) f needs) rs in
    let close : Bool = all_in_band (length rs) (own_band s f) needs in
    let empty : Bool = spent (charges s.mode) (length rs) f in
    by_test OneSign (rests s needs rs) rs (cond empty cleared (cond close rs after)) (λ t. h)
    (λ t.
    by_test OneSign empty cleared (cond close rs after) (λ u. none_above (λ (i : ℕ) (r : ℤ). pos 0) rs (λ i r. refl))
    (λ u. by_test OneSign close rs after (λ v. h) (λ v. shared s (length rs) f needs rs (charges s.mode) refl)))
