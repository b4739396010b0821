-- `rescue-law`: what holds of a rescue, part by part. Assumes nothing.
use Prim.Native.Nat.{ℕ}
use mathlib.Core.List.{List}
use Rattle.rescued.specs.Holds.{RescueLaw}
use Rattle.rescued.proofs.AcceptedLaws.{output_accepted}
use Rattle.rescued.proofs.SameLaws.{taken, same, no_change, same_again, no_change_again}
use Rattle.rescued.proofs.BytesLaws.{bytes}
use Rattle.rescued.proofs.RefusedLaws.{too_large, refused, same_number, same_place, same_steps, not_else}
use Rattle.rescued.proofs.StepsLaws.{steps, counted}

pub rescue_law : (file : List ℕ) → RescueLaw file
rescue_law file = record {
  accepted = output_accepted file;
  taken = taken file;
  same = same file;
  no_change = no_change file;
  same_again = same_again file;
  no_change_again = no_change_again file;
  steps = steps file;
  counted = counted file;
  bytes = bytes file;
  too_large = too_large file;
  refused = refused file;
  same_number = same_number file;
  same_place = same_place file;
  same_steps = same_steps file;
  not_else = not_else file;
}
