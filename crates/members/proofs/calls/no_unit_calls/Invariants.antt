-- No unit passed calls; the first that does decides for all.
use Prim.Native.Nat.{ℕ}
use mathlib.Core.Path.{◌≡◌}
use mathlib.Core.Bool.{true}
use Rattle.whole.specs.Over.{all_of}
use Rattle.rules.specs.Rules.{no_call}
use Rattle.members.specs.Posts.{fleet_by, own_by}
use Rattle.members.proofs.calls.no_unit_calls.Given as goal

abbrev pub invariant-loop-row : goal.invariant-loop-row
invariant-loop-row l = all_of l.row-index (λ (k : ℕ). no_call l.charging (own_by l.w (fleet_by l.units l.stored) k)) ≡ true
