-- The rows hold what the file says of its units, the frame its head, what stands is what its plant has at first, and every place is where the file has it: so a run sets out from there.
use mathlib.Core.Path.{sym, ap₂, ◌∙◌, subst⁻¹}
use Prim.Native.Nat.{◌+◌}
use lib.ListN.{length}
use Rattle.storage.specs.Posts.{Rested}
use Rattle.site.specs.declared.Head.{Head}
use Rattle.stick.specs.Check.{Accepted}
use Rattle.stretch.proofs.RoofLaws.{roofs_there}
use Rattle.stretch.proofs.SiteLaws.{rows_there, loaded_sited}
use Rattle.season.proofs.LoadLaws.{all_set}
use Rattle.season.proofs.runs.set_out.Goals as goal
use Rattle.season.proofs.runs.set_out.Goals.{After-begin, After-framed-frame, After-function_place-function, After-is_guided, After-load, After-load-arg-1, After-roofs_place-first, After-rows-1, After-slice_known-4-1, Start}

-- where the function starts, where the rows are filled, where the roofs' place is known, and where a run has begun
abbrev start : After-load → Start
start o = o.before.before.before.before.before.before

abbrev loaded : After-roofs_place-first → After-load
loaded q = (record { before = q.before.before.before.before.before; type_inv = record { on = q.slice_known-2-1.given; stored = q.slice_known-1.given; file = q.shared_slice_known-1.given } })

abbrev placed : After-begin → After-roofs_place-first
placed b = (record { before = b.before.before.before.before.before.before; type_inv = record { on = b.slice_known-2-1.given; stored = b.slice_known-1.given; file = b.shared_slice_known-1.given } })

abbrev began : After-slice_known-4-1 → After-begin
began k = (record { before = k.before.before.before.before.before.before.before; type_inv = record { file = k.shared_slice_known-1.given } })

taken : (k : After-slice_known-4-1) → Accepted (start (loaded (placed (began k)))).args.file.now
taken k = (start (loaded (placed (began k)))).requires.accepted

pub framed-frame-requires : goal.framed-frame-requires
framed-frame-requires c = record { sited = loaded_sited (start (goal.at.framed-frame-requires c).After-load).args.file.now c.load.new.rows c.load.ensures.rows_after c.head.result c.head.ensures (start (goal.at.framed-frame-requires c).After-load).requires.accepted; rested = subst⁻¹ (λ (x : Head). Rested x.seconds c.load.new.rows) c.head.ensures c.load.ensures.rested }

pub begin-requires : goal.begin-requires
begin-requires c =
    let o = loaded (goal.at.begin-requires c).After-roofs_place-first in
    let a = (start o).args in
    let there = rows_there a.file.now o.load.new.rows o.load.ensures.rows_after in record { roofs_there = roofs_there a.file.now (start o).requires.accepted (length a.on.now) c.roofs_place-first.result (start o).requires.lengths.flags_there c.roofs_place-first.ensures; stored_len = (start o).requires.lengths.stored_there ∙ sym there; requests_len = (start o).requires.lengths.requests_there ∙ sym there; vars_len = (start o).requires.lengths.vars_there ∙ sym (ap₂ ◌+◌ there (start o).requires.lengths.flags_there) }

pub function_place-function-requires : goal.function_place-function-requires
function_place-function-requires c = taken c

pub is_guided-requires : goal.is_guided-requires
is_guided-requires c = record { accepted = taken (goal.at.is_guided-requires c).After-slice_known-4-1; at_value = c.function_place-function.ensures }

pub steps_place-requires : goal.steps_place-requires
steps_place-requires c = taken (goal.at.steps_place-requires c).After-slice_known-4-1

pub shape_of-rows : goal.shape_of-rows
shape_of-rows c = (loaded (placed (began (goal.at.shape_of-rows c).After-slice_known-4-1))).load.auto.rows

pub shape_of-stored : goal.shape_of-stored
shape_of-stored c = (began (goal.at.shape_of-stored c).After-slice_known-4-1).begin.auto.stored

pub shape_of-requests : goal.shape_of-requests
shape_of-requests c = (began (goal.at.shape_of-requests c).After-slice_known-4-1).begin.auto.requests

pub shape_of-vars : goal.shape_of-vars
shape_of-vars c = (began (goal.at.shape_of-vars c).After-slice_known-4-1).begin.auto.vars

pub shape_of-on : goal.shape_of-on
shape_of-on c = (began (goal.at.shape_of-on c).After-slice_known-4-1).begin.auto.on

pub returns : goal.returns
returns c =
    let b = began (goal.at.returns c).After-slice_known-4-1 in
    let q = placed b in
    all_set (start (record { before = q.before.before.before.before.before; type_inv = record { on = q.slice_known-2-1.given; stored = q.slice_known-1.given; file = q.shared_slice_known-1.given } })).requires.accepted (length (start (record { before = q.before.before.before.before.before; type_inv = record { on = q.slice_known-2-1.given; stored = q.slice_known-1.given; file = q.shared_slice_known-1.given } })).args.on.now)
    (record {
      ready = q.framed-frame.ensures.ready;
      rows_are = q.load.ensures.rows_after;
      head_is = q.framed-frame.ensures.head_value ∙ q.head.ensures;
      count = (start (record { before = q.before.before.before.before.before; type_inv = record { on = q.slice_known-2-1.given; stored = q.slice_known-1.given; file = q.shared_slice_known-1.given } })).requires.lengths.flags_there;
      first_is = q.roofs_place-first.ensures;
      led_is = c.is_guided.ensures;
      function_is = c.function_place-function.ensures;
      at_is = c.steps_place.ensures;
      units = b.begin.ensures.vars_after;
      own = b.begin.ensures.vars_after_2;
      held = b.begin.ensures.vars_held;
      off = b.begin.ensures.on_after;
    })
