-- Nobody has to believe this file: the parts of contracts by name, and what the code of a step may count on.
use Rattle.std.specs.Prelude.{ℕ, ◌-◌, ◌≤◌, ◌≡◌}
use Rattle.unit.specs.declared.Unit.{Unit}
use Rattle.unit.specs.Ranges.{idle_draw, Ranged}
use Rattle.energy.specs.Limits.{removed_by, added_by}
use Rattle.flows.specs.declared.Flow.{Flow}
use Rattle.flows.specs.declared.Flow.TheVariants.{Out, In, Idle}
use Rattle.flows.specs.declared.Move.{Move}

-- a flow that the unit can carry: at most S, and no more than the store holds above 0 or has room for
abbrev pub Carried : Unit → ℕ → Flow → Type 0
Carried u seconds (Out x) = (x ≤ u.kva) × (removed_by u seconds x ≤ u.stored)
Carried u seconds (In x) = (x ≤ u.kva) × (added_by u seconds x ≤ u.rated - u.stored)
Carried u seconds Idle = 0 ≤ 0

-- what a flow moves: the joules that it takes out of the store or puts into it; of an idle unit the watts that it draws
unfoldable pub moved_by : Unit → ℕ → Flow → ℕ
moved_by u seconds (Out x) = removed_by u seconds x
moved_by u seconds (In x) = added_by u seconds x
moved_by u seconds Idle = idle_draw u

-- a flow with what it moves
abbrev pub move_by : Unit → ℕ → Flow → Move
move_by u seconds flow = record { flow = flow; moved = moved_by u seconds flow }

-- a unit and a step length in their ranges, a flow that the unit can carry, and the number that it moves
pub record Moving (u : Unit) (seconds : ℕ) (flow : Flow) (moved : ℕ) : Type 0 where
  pub ranged : Ranged u seconds
  pub carried : Carried u seconds flow
  pub moved_is : moved ≡ moved_by u seconds flow
