-- The eight bytes of the first number are tag, length, step and unit by `asked-head`, and the request is laid right behind them.
use native.Mathlib.Omega.{arith}
use Prim.Native.Nat.{◌+◌, ◌≤◌}
use lib.ListN.{length}
use mathlib.Core.Path.{ap, ◌∙◌}
use lib.IntN.{ℤ}
use mir.Syntax.{w32}
use mir.Val.{of_z}
use Rattle.whole.proofs.SignLaws.{read}
use Rattle.octets.specs.BigEndian.{bytes_of, laid}
use Rattle.octets.proofs.ByteLaws.{bytes_length}
use Rattle.records.proofs.LayLaws.{behind, asked_number, asked_whole}
use Rattle.records.proofs.records.put_asked.Goals as goal
use Rattle.records.proofs.records.put_asked.Goals.{After-put_i32, After-put_u64, Start}

pub returns : goal.returns
returns c =
    let s = c.args.room.now in
    let at = c.args.at in
    let h : at ≤ length s = omega arith in
    let n = asked_number c.args.step c.args.unit in
    let bits = of_z w32 c.args.request in
    let t = c.put_u64.new.s in
    let two = c.put_i32.ensures ∙ ap (λ (z : ℤ). laid t (at + 8) (bytes_of 4 (of_z w32 z))) (read w32 c.args.request c.ranges.request.sfits) in
    behind s at h (bytes_of 8 n) (bytes_of 4 bits) 8 (bytes_length 8 n) t c.put_i32.new.s c.put_u64.ensures two
    ∙ ap (laid s at) (asked_whole c.args.step c.args.unit c.args.request c.ranges.unit.fits c.ranges.step.fits)
