-- An accepted file has at most 64 units, 64 inverters and 65,535 steps, so that the number of bytes fits.
use Prim.Native.Nat.{◌+◌, ◌*◌, ◌≤◌}
use native.Mathlib.Omega.{arith}
use Rattle.season.proofs.AnswerLaws.{few_units, few_roofs, few_bytes, bytes_needed}
use Rattle.season.proofs.runs.bytes.Goals as goal
use Rattle.season.proofs.runs.bytes.Goals.{After-roofs}

-- the bytes of all records
small : (c : After-roofs) → (40 * c.units-units.result + 29 * c.roofs.result) * c.args.count ≤ (40 * 64 + 29 * 64) * 65535
small c = few_bytes c.requires c.units-units.ensures c.roofs.ensures

pub units-units-requires : goal.units-units-requires
units-units-requires c = c.requires.accepted

pub overflow_mul-units : goal.overflow_mul-units
overflow_mul-units c = omega (arith, few_units c.requires, c.units-units.ensures)

pub roofs-requires : goal.roofs-requires
roofs-requires c = c.requires.accepted

pub overflow_mul-size : goal.overflow_mul-size
overflow_mul-size c = omega (arith, few_roofs c.requires, c.roofs.ensures)

pub overflow_add-size : goal.overflow_add-size
overflow_add-size c = let n = c.requires in omega (arith, few_units n, c.units-units.ensures, few_roofs n, c.roofs.ensures)

pub overflow_mul-result : goal.overflow_mul-result
overflow_mul-result c = omega (arith, small c)

pub overflow_add-result : goal.overflow_add-result
overflow_add-result c = omega (arith, small c)

pub returns : goal.returns
returns c = bytes_needed c.requires c.units-units.ensures c.roofs.ensures
