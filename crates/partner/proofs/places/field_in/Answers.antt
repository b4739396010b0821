-- A byte before the end of the units' records lies in a record of 40 bytes, any other in one of 29.
use native.Mathlib.Omega.{arith}
use Rattle.partner.proofs.PlacesLaws.{unit_start, unit_size_lem, roof_start, roof_size}
use Rattle.partner.proofs.places.field_in.Goals as goal

pub returns-then-d-behind : goal.returns-then-d-behind
returns-then-d-behind c = let a = c.args in record { start_value = unit_start a.units a.d c.if-d-behind.true; size_value = unit_size_lem a.units a.d c.if-d-behind.true }

pub returns : goal.returns
returns c = let a = c.args in record { start_value = roof_start a.units a.d (omega arith); size_value = roof_size a.units a.d (omega arith) }
