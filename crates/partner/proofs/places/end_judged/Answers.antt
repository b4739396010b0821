-- The end record stands in a room of its own; all of it stands in the result, or not, and then bytes follow it, or none.
use mathlib.Core.Path.{◌≡◌, refl, ◌∙◌}
use mathlib.Core.List.{[], ◌++◌}
use lib.ListN.{length, take, drop, replicate}
use Rattle.records.specs.Records.{end_of}
use Rattle.partner.specs.Posts.{alike_of, wrong_at}
use Rattle.partner.proofs.PlacesLaws.{room_is, room_long, room_alike, end_wrong, end_there, end_last, end_more}
use Rattle.partner.proofs.places.end_judged.Goals as goal
use Rattle.partner.proofs.places.end_judged.Goals.{After-alike, After-put_end, After-room-1, Start}

-- where the function starts, and the room behind what is laid in it
abbrev start : After-put_end → Start
start v = v.before.before.before.before.before

room_holds : (v : After-put_end) → v.put_end.new.room ++ [] ≡ end_of (start v).args.steps
room_holds v = room_is (start v).args.steps (replicate 7 0) v.put_end.new.room refl v.put_end.ensures

-- what stands there of the end record
abbrev laid : After-alike → After-put_end
laid v = (record { before = v.before.before.before.before; type_inv = record { res = v.shared_slice_known-2-1.given; run = v.shared_slice_known-1.given } })

there : (v : After-alike) → let a = (start (laid v)).args in v.alike.result ≡ alike_of (take 7 (end_of a.steps)) (drop a.out a.res.now)
there v =
    let a = (start (laid v)).args in
    room_alike a.steps ((laid v).put_end.new.room ++ []) (drop a.out a.res.now) v.alike.result (room_holds (laid v)) v.alike.ensures

pub slice_bounds-alike-end : goal.slice_bounds-alike-end
slice_bounds-alike-end c = room_long (start (goal.at.slice_bounds-alike-end c).After-put_end).args.steps (c.put_end.new.room ++ []) (room_holds (goal.at.slice_bounds-alike-end c).After-put_end)

pub returns-then-alike-lt-END_BYTES : goal.returns-then-alike-lt-END_BYTES
returns-then-alike-lt-END_BYTES c =
    let a = (start (laid (goal.at.returns-then-alike-lt-END_BYTES c).After-alike)).args in
    ◌∙◌ {b = wrong_at a.run.now a.place (length a.res.now) a.out 7} c.wrong.ensures
    (end_wrong a.run.now a.place a.res.now a.out a.steps c.alike.result (there (goal.at.returns-then-alike-lt-END_BYTES c).After-alike) c.if-alike-lt-END_BYTES.true)

pub returns-then-res-end : goal.returns-then-res-end
returns-then-res-end c =
    let a = (start (laid (goal.at.returns-then-res-end c).After-alike)).args in
    end_last a.run.now a.place a.res.now a.out a.steps c.alike.result (there (goal.at.returns-then-res-end c).After-alike) c.if-alike-lt-END_BYTES.false c.if-res-end.true

pub overflow_sub-result : goal.overflow_sub-result
overflow_sub-result c =
    let a = (start (laid (goal.at.overflow_sub-result c).After-alike)).args in
    end_there a.run.now a.place a.res.now a.out a.steps c.alike.result (there (goal.at.overflow_sub-result c).After-alike) c.if-alike-lt-END_BYTES.false

pub returns : goal.returns
returns c =
    let a = (start (laid (goal.at.returns c).After-alike)).args in
    end_more a.run.now a.place a.res.now a.out a.steps c.alike.result (there (goal.at.returns c).After-alike) c.if-alike-lt-END_BYTES.false c.if-res-end.false
