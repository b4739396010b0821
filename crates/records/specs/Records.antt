-- The result file's records (rules O1 to O4 and O9; the bytes are in docs/LAYOUTS.md): a field is a one-byte tag, a two-byte length and the value, all numbers
-- big-endian.
use Rattle.std.specs.Prelude.{ℕ, Bool, cond, List, ◌++◌, ℤ}
use Rattle.std.specs.Float.{binary64}
use Rattle.std.specs.Float.Ieee.{to_bits}
use Rattle.std.specs.Int.{w32}
use Rattle.std.proofs.Common.{of_z}
use Rattle.octets.specs.BigEndian.{bytes_of}
use Rattle.reading.specs.Kilowatts.{kw_of}
use Rattle.solar.specs.declared.Given.{Given}
use Rattle.storage.specs.declared.Outcome.{Outcome}

-- a unit in a step: first which, and what it is asked; then what it gives
unfoldable pub asked_part : ℕ → ℕ → ℤ → List ℕ
unfolding bytes_of
asked_part step unit request = bytes_of 1 0x11 ++ bytes_of 2 37 ++ bytes_of 4 step ++ bytes_of 1 unit ++ bytes_of 4 (of_z w32 request)

unfoldable pub given_part : Outcome → List ℕ
unfolding bytes_of kw_of
given_part o = bytes_of 8 (to_bits binary64 (kw_of o.watts)) ++ bytes_of 4 (of_z w32 o.vars) ++ bytes_of 8 o.stored ++ bytes_of 8 o.loss

unfoldable pub record_of : ℕ → ℕ → ℤ → Outcome → List ℕ
unfolding asked_part given_part
record_of step unit request o = asked_part step unit request ++ given_part o

-- an inverter in a step: first which, and whether it is on; then what it gives
unfoldable pub turned_part : ℕ → ℕ → Bool → List ℕ
unfolding bytes_of
turned_part step inverter on = bytes_of 1 0x12 ++ bytes_of 2 26 ++ bytes_of 4 step ++ bytes_of 1 inverter ++ bytes_of 1 (cond on 1 0)

unfoldable pub lit_part : Given → List ℕ
unfolding bytes_of kw_of
lit_part g = bytes_of 8 (to_bits binary64 (kw_of g.watts)) ++ bytes_of 4 (of_z w32 g.vars) ++ bytes_of 8 g.dc

unfoldable pub roof_record_of : ℕ → ℕ → Given → List ℕ
unfolding turned_part lit_part
roof_record_of step inverter g = turned_part step inverter g.on ++ lit_part g

-- the end: the number of steps
unfoldable pub end_of : ℕ → List ℕ
unfolding bytes_of
end_of steps = bytes_of 1 0x1F ++ bytes_of 2 4 ++ bytes_of 4 steps

-- the bytes of each
abbrev pub record_bytes : ℕ
record_bytes = 40

abbrev pub roof_record_bytes : ℕ
roof_record_bytes = 29

abbrev pub end_bytes : ℕ
end_bytes = 7
