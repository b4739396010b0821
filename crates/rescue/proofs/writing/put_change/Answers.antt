-- Each number is laid right behind the ones before it, so that the change is laid whole.
use native.Mathlib.Omega.{arith}
use Prim.Native.Nat.{◌≤◌}
use lib.ListN.{length}
use mathlib.Core.List.{◌++◌}
use Rattle.octets.specs.BigEndian.{bytes_of}
use Rattle.octets.proofs.ByteLaws.{bytes_length}
use Rattle.records.proofs.LayLaws.{behind, longer}
use Rattle.rescue.specs.Answers.{change_bytes}
use Rattle.rescue.proofs.writing.put_change.Goals as goal
use Rattle.rescue.proofs.writing.put_change.Goals.{After-put_u64, After-put_u64-2, After-put_u8, Start}

pub returns : goal.returns
unfolding change_bytes
returns c =
    let s = c.args.list.now in
    let at = c.args.at in
    let h : at ≤ length s = omega arith in
    let place = c.args.place in
    let kind = c.args.kind in
    let a = bytes_of 8 place in
    let b = a ++ bytes_of 1 kind in
    let la = bytes_length 8 place in
    let lb = longer a 8 1 kind la in
    let t₁ = c.put_u64.new.s in
    let t₂ = c.put_u8.new.s in
    let two = behind s at h a (bytes_of 1 kind) 8 la t₁ t₂ c.put_u64.ensures c.put_u8.ensures in
    behind s at h b (bytes_of 8 c.args.dropped) 9 lb t₂ c.put_u64-2.new.s two c.put_u64-2.ensures
