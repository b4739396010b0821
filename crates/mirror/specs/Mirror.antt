-- Charging as the mirror image of discharging (rules P12 to P15). What a pass goes by besides the fleet is its settings, its measure and the requests; in the mirror
-- each watt has the other sign, and a charging mode is the discharging one that goes by the same reading. It is about the pass alone: a unit's step loses
-- energy differently each way.
use Rattle.std.specs.Prelude.{ℕ, ◌<◌, Bool, true, cond, List, map, ◌≡◌, eqb, ℤ, neg_ℤ, length, get_or}
use Rattle.rules.specs.declared.Settings.{Settings}
use Rattle.rules.specs.Rules.{charges}
use Rattle.members.specs.Ranges.{Fleet}
use Rattle.members.specs.Sums.{changed_of}
use Rattle.controller.specs.Pass.{own_need, need_of, pass_of}

-- what a pass goes by besides the fleet
pub record View : Type 0 where
  pub settings : Settings
  pub measure : ℤ
  pub requests : List ℤ

-- P12: modes 1 and 3 change places, and so do 4 and 5; target, measure and requests have the other sign; band and factor stay
abbrev pub mirror_mode : ℕ → ℕ
mirror_mode mode = cond (eqb mode 1) 3 (cond (eqb mode 3) 1 (cond (eqb mode 4) 5 (cond (eqb mode 5) 4 mode)))

abbrev pub negatives : List ℤ → List ℤ
negatives rs = map neg_ℤ rs

unfoldable pub mirror_settings : Settings → Settings
mirror_settings s = record { mode = mirror_mode s.mode; target = neg_ℤ s.target; band = s.band; factor = s.factor }

abbrev pub mirror : View → View
mirror v = record { settings = mirror_settings v.settings; measure = neg_ℤ v.measure; requests = negatives v.requests }

-- what a pass makes of a view: the requests, the need that it reports, whether it changed a request
abbrev pub requests_after : Fleet → View → List ℤ
requests_after f v = pass_of v.settings v.measure f v.requests

abbrev pub need_in : View → ℤ
need_in v = need_of v.settings v.measure v.requests

abbrev pub changed_by : Fleet → View → Bool
changed_by f v = changed_of v.requests (requests_after f v)

-- every one of n units is strictly between reserve and rated
abbrev pub Between : Fleet → ℕ → Type 0
Between f n = (i : ℕ) → i < n → (get_or f.reserve i 0 < get_or f.stored i 0) × (get_or f.stored i 0 < get_or f.rated i 0)

-- P13: a charging pass gives the negatives of the pass that is its mirror image; its need is the negative too, and whether a request changed is the same
pub record MirrorLaw (f : Fleet) (v : View) : Type 0 where
  pub requests : requests_after f v ≡ negatives (requests_after f (mirror v))
  pub need : need_in v ≡ neg_ℤ (need_in (mirror v))
  pub changed : changed_by f v ≡ changed_by f (mirror v)
  -- P14: and so is each unit's own need, by watts and by current
  pub own : (i : ℕ) → own_need v.settings v.measure f v.requests i
      ≡ neg_ℤ (own_need (mirror v).settings (mirror v).measure f (mirror v).requests i)

-- in every charging mode, with lists of any length
abbrev pub Mirrored : Type 0
Mirrored = (f : Fleet) (v : View) → charges v.settings.mode ≡ true → Between f (length v.requests) → MirrorLaw f v

-- P15: mirroring twice gives back the start
abbrev pub MirroredTwice : Type 0
MirroredTwice = (v : View) → mirror (mirror v) ≡ v
