-- What is asked is laid, and what is given right behind it.
use native.Mathlib.Omega.{arith}
use Prim.Native.Nat.{◌≤◌}
use lib.ListN.{length}
use mathlib.Core.Path.{ap, ◌∙◌}
use lib.IntN.{ℤ}
use mir.Syntax.{w32}
use Rattle.whole.proofs.SignLaws.{read}
use Rattle.octets.specs.BigEndian.{laid}
use Rattle.records.specs.Records.{asked_part, given_part, record_of}
use Rattle.records.proofs.LayLaws.{behind, asked_length}
use Rattle.records.proofs.records.put_record.Goals as goal
use Rattle.records.proofs.records.put_record.Goals.{After-put_asked, After-put_given, Start}

pub returns : goal.returns
unfolding record_of
returns c =
    let s = c.args.room.now in
    let at = c.args.at in
    let h : at ≤ length s = omega arith in
    let a = asked_part c.args.step c.args.unit c.args.request in
    let l = asked_length c.args.step c.args.unit c.args.request in
    let one = c.put_asked.ensures ∙ ap (λ (z : ℤ). laid s at (asked_part c.args.step c.args.unit z)) (read w32 c.args.request c.ranges.request.sfits) in
    behind s at h a (given_part c.args.o) 12 l c.put_asked.new.room c.put_given.new.room one c.put_given.ensures
