-- The layouts as one theorem: what fits is accepted as it is laid out, says what was laid, and is laid out by no other stick. That an accepted file is laid out is
-- `read-law`. Assumes nothing.
use Rattle.layouts.specs.Written.{Stick}
use Rattle.layouts.specs.Ranges.{Fits}
use Rattle.layouts.specs.Holds.{LaidTheorem}
use Rattle.layouts.proofs.LaidProved.{fits_accepted}
use Rattle.layouts.proofs.SaidProved.{plant_said_lem, steps_said}
use Rattle.layouts.proofs.AloneProved.{alone}

pub laid_law : LaidTheorem
laid_law s f = record {
  accepted = fits_accepted s f;
  plant = plant_said_lem s f;
  steps = steps_said s f;
  alone = λ t g e. alone s t f g e;
}
