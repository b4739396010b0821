-- The library's two bytes of the number are the big-endian ones, and they are copied over those at the place.
use mathlib.Core.Path.{◌∙◌}
use Rattle.octets.proofs.LaidLaws.{copied_is}
use Rattle.octets.proofs.ByteLaws.{bytes_length, high_first}
use Rattle.octets.specs.BigEndian.{bytes_of}
use Rattle.octets.proofs.writes.put_u16.Goals as goal

pub returns : goal.returns
returns c =
    let x = c.args in
    copied_is x.s.now x.at 2 c.copy_from_slice.new.self (bytes_of 2 x.v) (bytes_length 2 x.v) (c.copy_from_slice.ensures.after ∙ c.to_be_bytes.ensures ∙ high_first 2 x.v)
