-- Each number is laid right behind the ones before it, so that the field is laid whole.
use native.Mathlib.Omega.{arith}
use Prim.Native.Nat.{◌≤◌}
use lib.ListN.{length}
use mathlib.Core.List.{◌++◌}
use Rattle.octets.specs.BigEndian.{bytes_of}
use Rattle.octets.proofs.ByteLaws.{bytes_length}
use Rattle.records.proofs.LayLaws.{behind, longer}
use Rattle.rescue.specs.Answers.{end_field}
use Rattle.rescue.proofs.writing.put_end.Goals as goal
use Rattle.rescue.proofs.writing.put_end.Goals.{After-put_u16, After-put_u32, After-put_u8, Start}

pub returns : goal.returns
unfolding end_field
returns c =
    let s = c.args.out.now in
    let at = c.args.at in
    let h : at ≤ length s = omega arith in
    let a = bytes_of 1 127 in
    let b = a ++ bytes_of 2 4 in
    let la = bytes_length 1 127 in
    let lb = longer a 1 2 4 la in
    let t₁ = c.put_u8.new.s in
    let t₂ = c.put_u16.new.s in
    let two = behind s at h a (bytes_of 2 4) 1 la t₁ t₂ c.put_u8.ensures c.put_u16.ensures in
    behind s at h b (bytes_of 4 c.args.steps) 3 lb t₂ c.put_u32.new.s two c.put_u32.ensures
