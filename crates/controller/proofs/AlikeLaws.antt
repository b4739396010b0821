-- Rules 3 and 5 where all units share one need and one band: one test stands for all. Assumes nothing.
use mathlib.Core.Path.{◌≡◌, ap}
use mathlib.Core.Bool.{Bool, not, ◌&&◌}
use mathlib.Core.List.{List}
use Prim.Native.Nat.{ℕ, ◌≤◌}
use lib.IntN.{ℤ}
use lib.ListN.{length}
use Rattle.rules.specs.declared.Settings.{Settings}
use Rattle.rules.specs.Rules.{charges, no_call, in_band}
use Rattle.members.proofs.CallLaws.{all_alike}
use Rattle.controller.specs.Pass.{own_state, rests, all_in_band}

pub rests_is : (s : Settings) (need : ℤ) (rs : List ℤ) → 1 ≤ length rs
    → rests s (λ (i : ℕ). need) rs ≡ (not (own_state (charges s.mode) rs) && no_call (charges s.mode) need)
unfolding rests
rests_is s need rs h =
    ap (λ (b : Bool). not (own_state (charges s.mode) rs) && b) (all_alike (length rs) (no_call (charges s.mode) need) h)

pub band_is : (n band : ℕ) (need : ℤ) → 1 ≤ n → all_in_band n (λ (i : ℕ). band) (λ (i : ℕ). need) ≡ in_band band need
unfolding all_in_band
band_is n band need h = all_alike n (in_band band need) h
