-- Which it is and whether it is on is laid, and what it gives right behind.
use native.Mathlib.Omega.{arith}
use Prim.Native.Nat.{◌≤◌}
use lib.ListN.{length}
use Rattle.records.specs.Records.{turned_part, lit_part, roof_record_of}
use Rattle.records.proofs.LayLaws.{behind, turned_length}
use Rattle.records.proofs.roofs.put_roof.Goals as goal
use Rattle.records.proofs.roofs.put_roof.Goals.{After-put_lit, After-put_turned, Start}

pub returns : goal.returns
unfolding roof_record_of
returns c =
    let s = c.args.room.now in
    let at = c.args.at in
    let h : at ≤ length s = omega arith in
    let g = c.args.g in
    behind s at h (turned_part c.args.step c.args.inverter g.on) (lit_part g) 9 (turned_length c.args.step c.args.inverter g.on)
    c.put_turned.new.room c.put_lit.new.room c.put_turned.ensures c.put_lit.ensures
