-- What a step without a file answers, as a call's.
use Rattle.whole.specs.Call.{Call}
use Rattle.storage.specs.declared.Outcome.{Outcome}
use Rattle.std.specs.Prelude.{Err, Ok, Result}
use Rattle.whole.specs.declared.Refusal.{Refusal}
