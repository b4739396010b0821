-- The code is the definition, by what the answer is.
use mathlib.Core.Path.{sym, ap}
use Rattle.partner.specs.Shown.{told_by}
use Rattle.partner.proofs.showing.told.Goals as goal

pub returns-in-Err : goal.returns-in-Err
returns-in-Err c = sym (ap told_by c.in-Err.is)
