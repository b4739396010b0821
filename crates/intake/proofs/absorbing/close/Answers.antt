-- Tag, length and count are laid one behind the other.
use native.Mathlib.Omega.{arith}
use Prim.Native.Nat.{◌+◌, ◌≤◌}
use mathlib.Core.Path.{◌≡◌, refl, ap, ◌∙◌}
use mathlib.Core.List.{◌++◌}
use lib.ListN.{length}
use Rattle.octets.specs.BigEndian.{bytes_of, laid}
use Rattle.records.proofs.LayLaws.{behind, longer}
use Rattle.octets.proofs.ByteLaws.{bytes_length}
use Rattle.taking.specs.Chunk.{closing}
use Rattle.intake.proofs.absorbing.close.Goals as goal
use Rattle.intake.proofs.absorbing.close.Goals.{After-put_u16, After-put_u32, After-put_u8, Start}

closing_is : bytes_of 1 127 ++ bytes_of 2 4 ++ bytes_of 4 0 ≡ closing
unfolding bytes_of
closing_is = refl

pub returns : goal.returns
returns c =
    let s = c.args.s.now in
    let at = c.args.at in
    let h : at ≤ length s = omega (arith, c.requires) in
    let a = bytes_of 1 127 in
    let b = bytes_of 2 4 in
    let two = behind s at h a b 1 (bytes_length 1 127) c.put_u8.new.s c.put_u16.new.s c.put_u8.ensures c.put_u16.ensures in
    behind s at h (a ++ b) (bytes_of 4 0) 3 (longer a 1 2 4 (bytes_length 1 127)) c.put_u16.new.s c.put_u32.new.s two c.put_u32.ensures
    ∙ ap (laid s at) closing_is
