-- A site is run over whichever way it is given; and the bytes of its records, as the code counts them. Assumes nothing.
use mathlib.Core.Path.{◌≡◌, ap, ap₂, ◌∙◌, subst⁻¹}
use mathlib.Core.Bool.{Bool}
use mathlib.Core.List.{List}
use Prim.Native.Nat.{ℕ, ◌+◌, ◌-◌, ◌*◌, ◌≤◌}
use native.Mathlib.Nat.{le_trans, le_of_eq, sub-zero}
use lib.IntN.{ℤ}
use lib.ListN.{length, take}
use lib.Seq.{length-take-le}
use Rattle.site.specs.Site.{Site, count}
use Rattle.stick.specs.Site.{site_of, roofs_of, plant_of}
use Rattle.fleet.specs.Step.{step_bytes}
use Rattle.stretch.specs.Stretch.{all_bytes}
use Rattle.stretch.specs.Posts.{Holding}

-- the first k values of a list are as many as is said
pub lent : {X : Type 0} (k n : ℕ) (l : List X) → k ≡ n → k ≤ length l → length (take (k - 0) l) ≡ n
lent k n l e h = ap (λ (j : ℕ). length (take j l)) (sub-zero k) ∙ length-take-le k l h ∙ e

-- what stands is held
pub held_alike : (x y : Site) (stored : List ℕ) (rs vs : List ℤ) (on : List Bool) → x ≡ y → Holding y stored rs vs on → Holding x stored rs vs on
held_alike x y stored rs vs on e h = subst⁻¹ (λ (z : Site). Holding z stored rs vs on) e h

-- the records fit, and so many bytes have those of so many steps
pub fit_alike : (file : List ℕ) (x : Site) (flags out steps room : ℕ) → x ≡ site_of file → flags ≡ length (roofs_of file) → out + all_bytes (plant_of file) * steps ≤ room
    → out + (step_bytes x + 29 * flags) * steps ≤ room
unfolding plant_of
fit_alike file x flags out steps room e d h = le_trans (le_of_eq (ap₂ (λ (z : Site) (k : ℕ). out + (step_bytes z + 29 * k) * steps) e d)) h

pub bytes_are : (file : List ℕ) (n m steps : ℕ) → n ≡ count (site_of file) → m ≡ length (roofs_of file) → (40 * n + 29 * m) * steps ≡ all_bytes (plant_of file) * steps
unfolding plant_of
bytes_are file n m steps e d = ap₂ (λ (u v : ℕ). (40 * u + 29 * v) * steps) e d
