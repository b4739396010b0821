-- The sizes that a run file's fields have at most.
use Rattle.std.specs.Prelude.{ℕ}

-- no field is longer
abbrev pub largest_field : ℕ
largest_field = 195

-- the fields before the steps
abbrev pub head_most : ℕ
head_most = 22499
