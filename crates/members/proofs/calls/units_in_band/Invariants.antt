-- Every unit passed is within its band; the first that is not decides for all.
use Prim.Native.Nat.{ℕ}
use mathlib.Core.Path.{◌≡◌}
use mathlib.Core.Bool.{true}
use lib.ListN.{get_or}
use Rattle.whole.specs.Over.{all_of}
use Rattle.rules.specs.Rules.{in_band, band_in_watts}
use Rattle.members.specs.Posts.{fleet_by, own_by}
use Rattle.members.proofs.calls.units_in_band.Given as goal

abbrev pub invariant-loop-row : goal.invariant-loop-row
invariant-loop-row l =
    all_of l.row-index (λ (k : ℕ). in_band (band_in_watts l.w.current (get_or (fleet_by l.units l.stored).link k 0) l.band) (own_by l.w (fleet_by l.units l.stored) k)) ≡ true
