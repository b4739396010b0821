-- By the stage in which the walk ended, and by whether bytes are left, what is laid is what the definition has behind the bytes kept.
use Rattle.rescue.proofs.CallLaws.{end_fits, line_fits, ends_laid, ends_listed, none_laid, behind_fits, behind_listed, none_listed}
use Rattle.rescue.proofs.calls.finish.Goals as goal
use Rattle.rescue.proofs.calls.finish.Goals.{After-put_change, After-put_change-then-w-file, After-put_end, After-struct_known-3-1, After-walked-w, Else-w-ne-AT_END, Start, Then-w-file, Then-w-ne-AT_END}

-- where the walk is known, and where the function starts
abbrev walk : After-struct_known-3-1 → After-walked-w
walk p = (record { before = p.before.before.before.before; type_inv = record { list = p.slice_known-2-1.given; out = p.slice_known-1.given; file = p.shared_slice_known-1.given } })

abbrev start : After-walked-w → Start
start w = w.before.before.before.before.before

pub put_end-requires : goal.put_end-requires
put_end-requires c =
    let w = walk (goal.at.put_end-requires c).After-struct_known-3-1 in
    let s = start w in
    end_fits s.args.file.now w.walked-w.result w.walked-w.ensures c.if-w-ne-AT_END.true _ s.requires.file_in_bounds

pub put_change-requires : goal.put_change-requires
put_change-requires c =
    let w = walk (goal.at.put_change-requires c).After-struct_known-3-1 in
    let s = start w in
    line_fits s.args.file.now w.walked-w.result w.walked-w.ensures c.if-w-ne-AT_END.true _ s.requires.file_in_bounds_2

pub returns-then-w-ne-AT_END : goal.returns-then-w-ne-AT_END
returns-then-w-ne-AT_END c =
    let w = walk (goal.at.returns-then-w-ne-AT_END c).After-struct_known-3-1 in
    let a = (start w).args in record { out_after = ends_laid a.file.now w.walked-w.result w.walked-w.ensures c.if-w-ne-AT_END.true a.out.now c.put_end.new.out c.put_end.ensures; list_after = ends_listed a.file.now w.walked-w.result w.walked-w.ensures c.if-w-ne-AT_END.true a.list.now c.put_change.new.list c.put_change.ensures }

pub put_change-requires-then-w-file : goal.put_change-requires-then-w-file
put_change-requires-then-w-file c =
    let w = walk (goal.at.put_change-requires-then-w-file c).After-struct_known-3-1 in
    let s = start w in
    behind_fits s.args.file.now w.walked-w.result w.walked-w.ensures c.if-w-ne-AT_END.false c.if-w-file.true _ s.requires.file_in_bounds_2

pub returns-then-w-file : goal.returns-then-w-file
returns-then-w-file c =
    let w = walk (goal.at.returns-then-w-file c).After-struct_known-3-1 in
    let a = (start w).args in record { out_after = none_laid a.file.now w.walked-w.result w.walked-w.ensures c.if-w-ne-AT_END.false a.out.now; list_after = behind_listed a.file.now w.walked-w.result w.walked-w.ensures c.if-w-ne-AT_END.false c.if-w-file.true a.list.now c.put_change-then-w-file.new.list c.put_change-then-w-file.ensures }

pub returns-else-w-file : goal.returns-else-w-file
returns-else-w-file c =
    let w = walk (goal.at.returns-else-w-file c).After-struct_known-3-1 in
    let a = (start w).args in record { out_after = none_laid a.file.now w.walked-w.result w.walked-w.ensures c.if-w-ne-AT_END.false a.out.now; list_after = none_listed a.file.now w.walked-w.result w.walked-w.ensures c.if-w-ne-AT_END.false c.if-w-file.false a.list.now }
