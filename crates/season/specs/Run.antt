-- The run (rules T5 and T6): the records of each step in turn, and last the end record. From a plant and its steps to the result's bytes; of a file, from
-- what it says.
use Rattle.std.specs.Prelude.{ℕ, ◌+◌, ◌*◌, List, ◌++◌, length}
use Rattle.site.specs.declared.Step.{Step}
use Rattle.site.specs.Site.{Plant}
use Rattle.stick.specs.Site.{plant_of, steps_of}
use Rattle.records.specs.Records.{end_of, end_bytes}
use Rattle.stretch.specs.Stretch.{stands_first, records_from, all_bytes}

unfoldable pub result_by : Plant → List Step → List ℕ
unfolding records_from stands_first end_of
result_by p steps = records_from p 0 (stands_first p) steps ++ end_of (length steps)

unfoldable pub result_of : List ℕ → List ℕ
unfolding result_by plant_of steps_of
result_of file = result_by (plant_of file) (steps_of file)

-- O5: the bytes of the result of so many steps
abbrev pub needed_by : Plant → ℕ → ℕ
needed_by p steps = all_bytes p * steps + end_bytes
