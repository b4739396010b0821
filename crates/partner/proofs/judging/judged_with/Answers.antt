-- A run over the file sets out, and from there the steps are judged.
use mathlib.Core.Path.{◌∙◌}
use Rattle.partner.proofs.judging.judged_with.Goals as goal
use Rattle.partner.proofs.judging.judged_with.Goals.{After-set_out-arg-5-1, After-set_out-t, After-slice_known-8-1, After-steps_judged}

-- where a run has set out, seen from where its steps are judged, and from the end
abbrev away : After-steps_judged → After-set_out-t
away j = (record { before = j.before.before.before.before.before.before.before.before.before.before.before.before.before.before; type_inv = record { room = j.slice_known-3-1.given; res = j.shared_slice_known-2-1.given; run = j.shared_slice_known-1.given } })

abbrev judged : After-slice_known-8-1 → After-steps_judged
judged k = (record { before = k.before.before.before.before.before.before.before.before.before; type_inv = record { res = k.shared_slice_known-2-1.given; run = k.shared_slice_known-1.given } })

pub steps_judged-requires : goal.steps_judged-requires
steps_judged-requires c = record { accepted = c.requires.accepted; set_out = c.set_out-t.ensures; room_len = c.requires.room_len }

pub shape_of-rows : goal.shape_of-rows
shape_of-rows c = (away (judged c)).set_out-t.auto.rows

pub shape_of-stored : goal.shape_of-stored
shape_of-stored c = let j = judged c in j.steps_judged.auto.stored ∙ (away j).set_out-t.auto.stored

pub shape_of-requests : goal.shape_of-requests
shape_of-requests c = let j = judged c in j.steps_judged.auto.requests ∙ (away j).set_out-t.auto.requests

pub shape_of-vars : goal.shape_of-vars
shape_of-vars c = let j = judged c in j.steps_judged.auto.vars ∙ (away j).set_out-t.auto.vars

pub shape_of-on : goal.shape_of-on
shape_of-on c = let j = judged c in j.steps_judged.auto.on ∙ (away j).set_out-t.auto.on

pub shape_of-room : goal.shape_of-room
shape_of-room c = (judged c).steps_judged.auto.room
