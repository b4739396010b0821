-- Nobody has to believe this file: the parts of contracts by name.
use Rattle.std.specs.Prelude.{ℕ, List, ◌≡◌, length}
use Rattle.fields.specs.declared.State.{State}
use Rattle.stick.specs.Check.{reached, reach_of}

-- whole fields, all of them accepted from a state on, lead to another
pub record Leads (st : State) (bytes : List ℕ) (next : State) : Type 0 where
  pub leads : reach_of (length bytes) st bytes 0 ≡ reached 0 (length bytes) next
