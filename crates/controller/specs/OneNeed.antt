-- What holds of the units' own needs (rule P10). In modes 1 to 3 a pass is the same with the fleet's need and the fleet's band for every unit: `one-need` proves
-- it. By current, where all numbers are in their ranges, a unit's own need has at most 5.5 × 10^10 W, and need × weight × factor is below 6 × 10^17:
-- `bounds-law` proves it.
use Rattle.std.specs.Prelude.{ℕ, ◌*◌, ◌≤◌, ◌<◌, true, false, List, ◌≡◌, ℤ, nat_abs, length, get_or}
use Rattle.rules.specs.declared.Settings.{Settings}
use Rattle.rules.specs.Rules.{by_current}
use Rattle.rules.specs.Ranges.{settings_in, current_in}
use Rattle.members.specs.Ranges.{Fleet, requests_in}
use Rattle.controller.specs.Pass.{need_of, own_need, pass_by, pass_of}

abbrev pub OneNeedLaw : Type 0
OneNeedLaw =
    (s : Settings) (m : ℤ) (f : Fleet) (rs : List ℤ) → by_current s.mode ≡ false
    → pass_of s m f rs ≡ pass_by s f (λ (i : ℕ). s.band) (λ (i : ℕ). need_of s m rs) rs

-- the numbers that the bounds are about, in their ranges
pub record InRanges (s : Settings) (m : ℤ) (f : Fleet) (rs : List ℤ) : Type 0 where
  pub settings : settings_in s ≡ true
  pub current : by_current s.mode ≡ true
  pub measure : current_in m ≡ true
  pub few : length rs ≤ 64
  pub ratings : (i : ℕ) → get_or f.rating i 0 ≤ 100000000
  pub weights : (i : ℕ) → get_or f.weight i 0 ≤ 10000
  pub links : (i : ℕ) → get_or f.link i 0 ≤ 120000
  pub requests : requests_in f rs ≡ true

pub record BoundsLaw (s : Settings) (m : ℤ) (f : Fleet) (rs : List ℤ) : Type 0 where
  pub need_most : (i : ℕ) → nat_abs (own_need s m f rs i) ≤ 55000000000
  pub product_most : (i : ℕ) → nat_abs (own_need s m f rs i) * get_or f.weight i 0 * s.factor < 600000000000000000

-- the theorem
abbrev pub BoundsTheorem : Type 0
BoundsTheorem = (s : Settings) (m : ℤ) (f : Fleet) (rs : List ℤ) → InRanges s m f rs → BoundsLaw s m f rs
