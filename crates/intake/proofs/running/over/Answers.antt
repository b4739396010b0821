-- The rows and the site's head are the site that its bytes say, and its inverters and its function lie where the code finds them, so that the stretch is run
-- over that plant.
use mathlib.Core.Path.{◌≡◌, ap, ◌∙◌, subst⁻¹}
use lib.ListN.{length}
use Rattle.octets.specs.BigEndian.{laid}
use Rattle.storage.specs.Posts.{Rested}
use Rattle.site.specs.declared.Head.{Head}
use Rattle.site.specs.Site.{Plant}
use Rattle.stick.specs.Site.{site_of, plant_of, steps_from}
use Rattle.fleet.specs.Posts.{site_in}
use Rattle.stretch.specs.declared.Track.{Track}
use Rattle.stretch.specs.Stretch.{stands_after, records_from}
use Rattle.stretch.specs.Posts.{plant_by, stands_by}
use Rattle.stretch.proofs.RoofLaws.{plant_read, planted}
use Rattle.stretch.proofs.SiteLaws.{loaded_sited, frame_site}
use Rattle.intake.proofs.SiteLaws.{held_alike, fit_alike}
use Rattle.intake.proofs.running.over.Goals as goal
use Rattle.intake.proofs.running.over.Goals.{After-along, After-head, After-is_guided-led, Start}

pub head-requires : goal.head-requires
head-requires c = c.requires.accepted

-- where the function starts, seen from where the head is known
abbrev start : After-head → Start
start h = h.before.before.before.before.before.before.before

abbrev headed : After-is_guided-led → After-head
headed g = (record { before = g.before.before.before.before.before; type_inv = record { room = g.slice_known-3-1.given; on = g.slice_known-2-1.given; stored = g.slice_known-1.given; bytes = g.shared_slice_known-2-1.given; site = g.shared_slice_known-1.given } })

-- the track that the stretch takes, and the site that it has
abbrev track : After-is_guided-led → Track
track g =
    let c = (start (headed g)).args.c in
    record {
      frame = g.framed-frame.result;
      first = g.roofs_place-first.result;
      led = g.is_guided-led.result;
      function = g.function_place-function.result;
      at = c.head;
      out = c.out;
      way = record { step = c.mark.state.steps; due = c.mark.due };
    }

same_site : (g : After-is_guided-led) → site_in (track g).frame (start (headed g)).args.rows.now ≡ site_of (start (headed g)).args.site.now
same_site g =
    let s = start (record { before = g.before.before.before.before.before; type_inv = record { room = g.slice_known-3-1.given; on = g.slice_known-2-1.given; stored = g.slice_known-1.given; bytes = g.shared_slice_known-2-1.given; site = g.shared_slice_known-1.given } }) in
    frame_site s.args.site.now s.args.rows.now s.requires.rows_value g.head.result g.head.ensures g.framed-frame.result g.framed-frame.ensures.head_value

same_plant : (g : After-is_guided-led)
    → let a = (start (headed g)).args in plant_by (track g) a.rows.now a.site.now (length a.on.now) ≡ plant_of a.site.now
same_plant g =
    let s = start (headed g) in
    let a = s.args in
    plant_read a.site.now s.requires.accepted (track g) a.rows.now (length a.on.now) s.requires.on_len g.roofs_place-first.ensures g.is_guided-led.ensures g.function_place-function.ensures (same_site g)

pub framed-frame-requires : goal.framed-frame-requires
framed-frame-requires c =
    let s = start c in record { sited = loaded_sited s.args.site.now s.args.rows.now s.requires.rows_value c.head.result c.head.ensures s.requires.accepted; rested = subst⁻¹ (λ (h : Head). Rested h.seconds s.args.rows.now) c.head.ensures s.requires.rested }

pub roofs_place-first-requires : goal.roofs_place-first-requires
roofs_place-first-requires c = c.requires.accepted

pub function_place-function-requires : goal.function_place-function-requires
function_place-function-requires c = c.requires.accepted

pub is_guided-led-requires : goal.is_guided-led-requires
is_guided-led-requires c = record { accepted = c.requires.accepted; at_value = c.function_place-function.ensures }

pub along-requires : goal.along-requires
along-requires c =
    let s = start (headed (goal.at.along-requires c).After-is_guided-led) in
    let a = s.args in
    let site = a.site.now in
    let rows = a.rows.now in record {
      planted = planted site s.requires.accepted (track (goal.at.along-requires c).After-is_guided-led) rows (length a.on.now) s.requires.on_len c.roofs_place-first.ensures c.is_guided-led.ensures c.function_place-function.ensures
          c.framed-frame.ensures.ready;
      holding = held_alike (site_in (track (goal.at.along-requires c).After-is_guided-led).frame rows) (site_of site) a.stored.now a.requests.now a.vars.now a.on.now (same_site (goal.at.along-requires c).After-is_guided-led) s.requires.holding;
      at_in_bounds = s.requires.head_in_bounds;
      steps_there = s.requires.steps_there;
      shining = s.requires.shining;
      at_bound = s.requires.bytes_bound;
      at_in_bounds_2 = fit_alike site (site_in (track (goal.at.along-requires c).After-is_guided-led).frame rows) (length a.on.now) a.c.out (length (steps_from a.bytes.now a.c.mark.due a.c.head))
          (length a.room.now) (same_site (goal.at.along-requires c).After-is_guided-led) s.requires.on_len s.requires.bytes_in_bounds;
    }

pub shape_of-stored : goal.shape_of-stored
shape_of-stored c = c.along.auto.stored

pub shape_of-requests : goal.shape_of-requests
shape_of-requests c = c.along.auto.requests

pub shape_of-vars : goal.shape_of-vars
shape_of-vars c = c.along.auto.vars

pub shape_of-on : goal.shape_of-on
shape_of-on c = c.along.auto.on

pub shape_of-room : goal.shape_of-room
shape_of-room c = c.along.auto.room

pub returns : goal.returns
returns c =
    let a = (start (headed (goal.at.returns c).After-is_guided-led)).args in
    let steps = steps_from a.bytes.now a.c.mark.due a.c.head in
    let now = stands_by a.stored.now a.requests.now a.vars.now a.on.now in record { step_value = c.along.ensures.step_value; due_value = c.along.ensures.due_value; on_after = c.along.ensures.on_after ∙ ap (λ (p : Plant). stands_after p now steps) (same_plant (goal.at.returns c).After-is_guided-led); room_after = c.along.ensures.room_after ∙ ap (λ (p : Plant). laid a.room.now a.c.out (records_from p a.c.mark.state.steps now steps)) (same_plant (goal.at.returns c).After-is_guided-led) }
